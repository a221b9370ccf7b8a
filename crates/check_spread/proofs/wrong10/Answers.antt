-- `wrong10` meets its contract, kind by kind.
use native.Mathlib.Omega.{arith}
use Prim.Native.Nat.{ℕ, ◌+◌, ◌-◌, ◌≤◌, ◌<◌}
use mathlib.Core.Path.{◌≡◌, ap, ◌∙◌, subst}
use mathlib.Core.Bool.{false}
use mathlib.Core.List.{List}
use Rattle.spec_policy.specs.Bytes.{Bytes}
use Rattle.spec_policy.specs.Records.{node_at, node_place}
use Rattle.spec_policy.specs.Tree.{node_kind}
use Rattle.spec_check.specs.Layout.{broken4}
use Rattle.spec_check.specs.Children.{broken5}
use Rattle.spec_check.specs.Targets.{broken6}
use Rattle.file_records.specs.declared.Kind.{Kind}
use Rattle.file_records.specs.Kinds.{kind_of}
use Rattle.std.specs.Prelude.{Option}
use Rattle.faults.specs.Meaning.{spot_of}
use Rattle.check_layout.specs.Frame.{Framed}
use Rattle.check_layout.proofs.Frame.{node-inside}
use Rattle.check_leaves.specs.Leaves.{inserts_in, LeafValues}
use Rattle.check_spread.specs.Spreads.{KeptFrom}
use Rattle.check_spread.proofs.SpreadLaws.{Read, none_kept, kept_more, kept-as-is, leaves-less, leaves-written, leaf-kept, leaf-narrow, sides-in, sides-most, pair-kept, other-kept, wide_from, wide-none, wide-found, wide-kept, wide-all}
use Rattle.check_spread.proofs.wrong10.Goals as goal

-- what is known in a turn, which is of the node j before i
record Turn (file : Bytes) (n j : ℕ) (spreads : List ℕ) (found : Option ℕ) : Type 0 where
  pub below : j < n
  pub room : j < 31
  pub leaves : LeafValues inserts_in file (j + 1) spreads
  pub kept : KeptFrom file n (j + 1) spreads
  pub known : spot_of found ≡ wide_from file n (j + 1)

-- by its other name, i is the node after j
turn : {file : Bytes} {n m i : ℕ} {spreads : List ℕ} {found : Option ℕ} → Framed file n m → 0 < i → i ≤ n
    → LeafValues inserts_in file i spreads × KeptFrom file n i spreads × (spot_of found ≡ wide_from file n i) → Turn file n (i - 1) spreads found
turn {file} {n} {m} {i} {spreads} f h g s =
    let up : i ≡ i - 1 + 1 = omega arith in
    record {
      below = omega arith;
      room = omega (arith, f.few-nodes);
      leaves = subst (λ (k : ℕ). LeafValues inserts_in file k spreads) up s.0;
      kept = subst (λ (k : ℕ). KeptFrom file n k spreads) up s.1;
      known = s.2 ∙ ap (wide_from file n) up;
    }

pub loop-i-init : goal.loop-i-init
unfolding spot_of
loop-i-init c = (c.requires.leaf_values, none_kept c.requires.leaf_values.room, wide-none _ _)

-- what rules 4 to 6 say of the file
record Kept (file : Bytes) (n m : ℕ) : Type 0 where
  pub frame : Framed file n m
  pub four : broken4 file ≡ false
  pub five : broken5 file ≡ false
  pub six : broken6 file ≡ false

read : {file : Bytes} {n m j place : ℕ} {q : Kind} {spreads : List ℕ} {found : Option ℕ} → Kept file n m → Turn file n j spreads found → place ≡ node_place j
    → kind_of q ≡ node_kind (node_at file place).kind → Read file n m j place q
read k t b e = record { frame = k.frame; four = k.four; five = k.five; six = k.six; below = t.below; begins = b; kind = e }

pub node_kind-requires : goal.node_kind-requires
node_kind-requires c =
    let t = turn c.args.file.framed c.loop-i-test.true c.loop-i.auto.i c.loop-i.invariant in
    omega (arith, c.node_place-place.ensures, node-inside c.args.file.framed (c.loop-i.i - 1) t.below)

pub loop-i-preserved-in-Leaf : goal.loop-i-preserved-in-Leaf
loop-i-preserved-in-Leaf c =
    let t = turn c.args.file.framed c.loop-i-test.true c.loop-i.auto.i c.loop-i.invariant in
    let k : Kept c.args.file.policy.now c.args.file.n c.args.file.m = record { frame = c.args.file.framed; four = c.requires.policy_value; five = c.requires.policy_value_2; six = c.requires.policy_value_3 } in
    let d = read k t c.node_place-place.ensures c.node_kind.ensures in
    let e = leaf-kept d c.in-Leaf.is t.leaves in
    (leaves-less t.leaves, kept-as-is e t.kept, t.known ∙ wide-kept _ _ t.below e (leaf-narrow d c.in-Leaf.is t.leaves))

pub spread_at-spread-requires-clause-node_size_in_bounds : goal.spread_at-spread-requires-clause-node_size_in_bounds
spread_at-spread-requires-clause-node_size_in_bounds c =
    let t = turn c.args.file.framed c.loop-i-test.true c.loop-i.auto.i c.loop-i.invariant in
    omega (arith, c.node_place-place.ensures, node-inside c.args.file.framed (c.loop-i.i - 1) t.below)

pub spread_at-spread-requires-clause-fact : goal.spread_at-spread-requires-clause-fact
spread_at-spread-requires-clause-fact c =
    let t = turn c.args.file.framed c.loop-i-test.true c.loop-i.auto.i c.loop-i.invariant in
    let k : Kept c.args.file.policy.now c.args.file.n c.args.file.m = record { frame = c.args.file.framed; four = c.requires.policy_value; five = c.requires.policy_value_2; six = c.requires.policy_value_3 } in
    let d = read k t c.node_place-place.ensures c.node_kind.ensures in
    sides-in d c.in-Pair.is t.kept

pub spread_at-spread-requires-clause-fact_2 : goal.spread_at-spread-requires-clause-fact_2
spread_at-spread-requires-clause-fact_2 c =
    let t = turn c.args.file.framed c.loop-i-test.true c.loop-i.auto.i c.loop-i.invariant in
    let k : Kept c.args.file.policy.now c.args.file.n c.args.file.m = record { frame = c.args.file.framed; four = c.requires.policy_value; five = c.requires.policy_value_2; six = c.requires.policy_value_3 } in
    let d = read k t c.node_place-place.ensures c.node_kind.ensures in
    sides-most d c.in-Pair.is t.kept

pub loop-i-preserved-then-spread-eq-TOO_WIDE : goal.loop-i-preserved-then-spread-eq-TOO_WIDE
loop-i-preserved-then-spread-eq-TOO_WIDE c =
    let t = turn c.args.file.framed c.loop-i-test.true c.loop-i.auto.i c.loop-i.invariant in
    let k : Kept c.args.file.policy.now c.args.file.n c.args.file.m = record { frame = c.args.file.framed; four = c.requires.policy_value; five = c.requires.policy_value_2; six = c.requires.policy_value_3 } in
    let d = read k t c.node_place-place.ensures c.node_kind.ensures in
    let e = pair-kept d c.in-Pair.is t.kept c.spread_at-spread.ensures in
    (leaves-written _ t.leaves, kept_more _ _ _ _ _ t.room e t.kept, c.on_record-found.ensures ∙ wide-found _ _ t.below e c.if-spread-eq-TOO_WIDE.true)

pub loop-i-preserved-else-spread-eq-TOO_WIDE : goal.loop-i-preserved-else-spread-eq-TOO_WIDE
loop-i-preserved-else-spread-eq-TOO_WIDE c =
    let t = turn c.args.file.framed c.loop-i-test.true c.loop-i.auto.i c.loop-i.invariant in
    let k : Kept c.args.file.policy.now c.args.file.n c.args.file.m = record { frame = c.args.file.framed; four = c.requires.policy_value; five = c.requires.policy_value_2; six = c.requires.policy_value_3 } in
    let d = read k t c.node_place-place.ensures c.node_kind.ensures in
    let e = pair-kept d c.in-Pair.is t.kept c.spread_at-spread.ensures in
    (leaves-written _ t.leaves, kept_more _ _ _ _ _ t.room e t.kept, t.known ∙ wide-kept _ _ t.below e c.if-spread-eq-TOO_WIDE.false)

pub loop-i-preserved : goal.loop-i-preserved
loop-i-preserved c =
    let t = turn c.args.file.framed c.loop-i-test.true c.loop-i.auto.i c.loop-i.invariant in
    let k : Kept c.args.file.policy.now c.args.file.n c.args.file.m = record { frame = c.args.file.framed; four = c.requires.policy_value; five = c.requires.policy_value_2; six = c.requires.policy_value_3 } in
    let d = read k t c.node_place-place.ensures c.node_kind.ensures in
    let e = other-kept d c.in_default.not-Leaf c.in_default.not-Pair in
    (leaves-written _ t.leaves, kept_more _ _ _ _ _ t.room e t.kept, t.known ∙ wide-kept _ _ t.below e (λ z. omega (arith, z)))

pub returns-clause-result_value : goal.returns-clause-result_value
returns-clause-result_value c =
    let z : c.loop-i.i ≡ 0 = omega arith in
    c.loop-i.invariant.2 ∙ ap (wide_from _ _) z ∙ wide-all c.args.file.framed
