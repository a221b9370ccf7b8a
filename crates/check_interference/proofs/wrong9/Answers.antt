-- `wrong9` meets its contract.
use native.Mathlib.Omega.{arith}
use Prim.Native.Nat.{ℕ, ◌+◌, ◌-◌, ◌<◌}
use mathlib.Core.Path.{◌≡◌, ap, ◌∙◌}
use lib.ListN.{set}
use Rattle.faults.specs.Meaning.{spot_of}
use Rattle.check_interference.specs.Sets.{RegulatedFrom, EffectsFrom}
use Rattle.check_interference.proofs.TreeSets.{filled-as, filled_none, filled_more, held-as, held-less, crossed_from, crossed-none, crossed-found, crossed-kept, crossed-all}
use Rattle.check_interference.proofs.wrong9.Goals as goal

-- a turn is of the node before i: by its other name, i is the node after that
up : (i : ℕ) → 0 < i → i ≡ i - 1 + 1
up i h = omega arith

pub loop-i-init : goal.loop-i-init
unfolding spot_of
loop-i-init c =
    (filled_none _ c.requires.regulated_len, filled_none _ c.requires.leaf_values.room, c.requires.leaf_values, crossed-none _ _)

pub node_sets-sets-requires : goal.node_sets-sets-requires
node_sets-sets-requires c =
    let u = up c.loop-i.i c.loop-i-test.true in
    record {
      treed = c.requires.treed;
      i_lt_n = omega arith;
      leaf_values = held-as u c.loop-i.invariant.2;
      regulated_from = filled-as u c.loop-i.invariant.0;
      effects_from = filled-as u c.loop-i.invariant.1;
    }

pub loop-i-preserved-then-sets : goal.loop-i-preserved-then-sets
loop-i-preserved-then-sets c =
    let u = up c.loop-i.i c.loop-i-test.true in
    let f = c.requires.treed.frame in
    let below : c.loop-i.i - 1 < c.args.file.n = omega arith in
    let regulates : RegulatedFrom c.args.file.policy.now (c.loop-i.i - 1) c.args.file.n (set c.loop-i.regulated (c.loop-i.i - 1) c.node_sets-sets.result.regulated.bits) =
    filled_more below f.few-nodes (filled-as u c.loop-i.invariant.0) c.node_sets-sets.ensures.bits_value in
    let affects : EffectsFrom c.args.file.policy.now (c.loop-i.i - 1) c.args.file.n (set c.loop-i.effects (c.loop-i.i - 1) c.node_sets-sets.result.effects.bits) =
    filled_more below f.few-nodes (filled-as u c.loop-i.invariant.1) c.node_sets-sets.ensures.bits_value_2 in
    (regulates, affects, held-less _ (held-as u c.loop-i.invariant.2), c.on_record-found.ensures ∙ crossed-found _ _ below c.node_sets-sets.ensures.crossed_value c.if-sets.true)

pub loop-i-preserved : goal.loop-i-preserved
loop-i-preserved c =
    let u = up c.loop-i.i c.loop-i-test.true in
    let f = c.requires.treed.frame in
    let below : c.loop-i.i - 1 < c.args.file.n = omega arith in
    let regulates : RegulatedFrom c.args.file.policy.now (c.loop-i.i - 1) c.args.file.n (set c.loop-i.regulated (c.loop-i.i - 1) c.node_sets-sets.result.regulated.bits) =
    filled_more below f.few-nodes (filled-as u c.loop-i.invariant.0) c.node_sets-sets.ensures.bits_value in
    let affects : EffectsFrom c.args.file.policy.now (c.loop-i.i - 1) c.args.file.n (set c.loop-i.effects (c.loop-i.i - 1) c.node_sets-sets.result.effects.bits) =
    filled_more below f.few-nodes (filled-as u c.loop-i.invariant.1) c.node_sets-sets.ensures.bits_value_2 in
    (regulates, affects, held-less _ (held-as u c.loop-i.invariant.2), c.loop-i.invariant.3 ∙ ap (crossed_from _ _) u ∙ crossed-kept _ _ below c.node_sets-sets.ensures.crossed_value c.if-sets.false)

pub returns-clause-result_value : goal.returns-clause-result_value
returns-clause-result_value c =
    let z : c.loop-i.i ≡ 0 = omega arith in
    c.loop-i.invariant.3 ∙ ap (crossed_from _ _) z ∙ crossed-all c.requires.treed.frame
