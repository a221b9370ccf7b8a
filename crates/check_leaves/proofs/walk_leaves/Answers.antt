-- `walk_leaves` meets its contract.
use Prim.Native.Nat.{ℕ, ◌+◌, ◌*◌, ◌≤◌, ◌<◌}
use Rattle.std.proofs.Common.{rules}
use Rattle.std.proofs.lemmas.Result.{err_from_is_err_and}
use Rattle.faults.specs.declared.Refusal.TheVariants as refusals
use native.Mathlib.Omega.{arith}
use mathlib.Core.Path.{◌≡◌, sym, ap, ◌∙◌, subst}
use mathlib.Core.Bool.{Bool}
use mathlib.Core.List.{List}
use lib.ListN.{length}
use Rattle.spec_policy.specs.Bytes.{Bytes}
use Rattle.spec_policy.specs.Records.{node_at, node_place}
use Rattle.spec_policy.specs.Tree.{aLeaf, node_kind}
use Rattle.check_layout.proofs.Frame.{node-place, node-inside}
use Rattle.check_leaves.proofs.LeafLaws.{Counted, counted, inside-here}
use Rattle.check_leaves.proofs.WalkLaws.{leaf-kept, walk-starts, walk-passes, walk-goes, stops-at-4, stops-at-6, found-four, found-unkept, kept-passes, stopped, found-six, found-seven, found-eight, found_none}
use Rattle.check_leaves.proofs.walk_leaves.Invariants.{Known}
use Rattle.check_leaves.proofs.walk_leaves.Goals.{then-count-gt0+in-Ok, else-count-gt0}
use Rattle.check_leaves.proofs.walk_leaves.Goals as goal

-- the count of a node that the loop has come to, and the kind of one with steps
counts-here : {file : Bytes} {n m i at : ℕ} {effects inserts : List ℕ} {modes taken : Bool} → Known file n m i at effects inserts modes taken
    → (place count : ℕ) → i < n → place ≡ node_place i → count ≡ (node_at file place).count → Counted file i count
counts-here k place count h p e = counted k.frame k.fits _ place count h p e

leaf-of : {file : Bytes} {i count : ℕ} → Counted file i count → (place : ℕ) → place ≡ node_place i → 1 ≤ count
    → aLeaf ≡ node_kind (node_at file place).kind
leaf-of {file} k place p l = k.leaf l ∙ ap (λ (q : ℕ). node_kind (node_at file q).kind) (sym p)

steps-inside : {file : Bytes} {n m i at : ℕ} {effects inserts : List ℕ} {modes taken : Bool} → Known file n m i at effects inserts modes taken
    → (place count : ℕ) → i < n → place ≡ node_place i → count ≡ (node_at file place).count → at + 12 * count ≤ length file
steps-inside k place count h p e = inside-here k.frame k.fits k.all _ _ _ _ h p k.so_far.begins e

pub loop-i-init : goal.loop-i-init
loop-i-init c =
    record {
      frame = c.args.file.framed;
      fits = c.requires.policy_value;
      all = c.requires.policy_value_2;
      so_far = walk-starts _ _ _ _ _ _ (c.node_place-at.ensures ∙ node-place c.args.file.n) c.requires.effects_len.0 c.requires.effects_len.1;
    }

pub node_count-requires : goal.node_count-requires
node_count-requires c = omega (arith, c.node_place-place.ensures, node-inside c.loop-i.invariant.frame c.loop-i.i c.loop-i-test.true)

pub node_set-requires : goal.node_set-requires
node_set-requires c = omega (arith, c.node_place-place.ensures, node-inside c.loop-i.invariant.frame c.loop-i.i c.loop-i-test.true)

pub walk-requires : goal.walk-requires
walk-requires c =
    let e = c.from-count.ensures ∙ c.node_count.ensures in (
      steps-inside c.loop-i.invariant _ _ c.loop-i-test.true c.node_place-place.ensures e,
      c.if-count-gt0.true,
      (counts-here c.loop-i.invariant _ _ c.loop-i-test.true c.node_place-place.ensures e).few,
    )

pub returns-in_err-steps_kept-in-Err-Targets : goal.returns-in_err-steps_kept-in-Err-Targets
returns-in_err-steps_kept-in-Err-Targets c =
    let p = err_from_is_err_and c.from_residual.result c.from_residual.ensures.1 in
    let k = c.loop-i.invariant in
    rw (p.1, p.2) (found-unkept k.frame k.fits k.all _ _ _ (sym (c.in_err-steps_kept-in-Err-Targets.was) ∙ c.steps_kept.ensures))

pub returns-in-Err-Targets : goal.returns-in-Err-Targets
returns-in-Err-Targets c =
    let k = c.loop-i.invariant in
    let e = c.from-count.ensures ∙ c.node_count.ensures in
    let counts = counts-here k _ _ c.loop-i-test.true c.node_place-place.ensures e in
    found-six k.frame k.fits k.all _ _ (kept-passes _ (sym c.steps_kept.ensures ∙ c.in_ok-steps_kept-in-Err-Targets.was))
    (stops-at-6 k.frame k.fits k.all _ _ _ _ _ _ k.so_far _ _ c.loop-i-test.true c.node_place-place.ensures e _ c.node_set.ensures
    (leaf-of counts _ c.node_place-place.ensures c.if-count-gt0.true) (rw c.in-Err-Targets.field-0-is at c.in-Err-Targets.ensures))

pub returns-in-Err : goal.returns-in-Err
returns-in-Err c =
    let k = c.loop-i.invariant in
    let e = c.from-count.ensures ∙ c.node_count.ensures in
    let apart : c.in-Err.broken ≡ refusals.Targets → ⊥ = search rules in
    let told = stopped _ _ _ c.in-Err.broken apart c.in-Err.ensures in
    let four = stops-at-4 k.frame k.fits k.all _ _ _ _ _ _ k.so_far _ _ c.loop-i-test.true c.node_place-place.ensures e told.1 in
    rw (told.0) (found-four k.frame k.fits k.all _ _ four)

pub overflow_add-at : goal.overflow_add-at
overflow_add-at c =
    omega (arith, steps-inside c.loop-i.invariant _ _ c.loop-i-test.true c.node_place-place.ensures (c.from-count.ensures ∙ c.node_count.ensures))

-- what is so of equal values
moved : {policy : Bytes} {n m i at at' : ℕ} {effects effects' inserts inserts' : List ℕ} {modes modes' taken taken' : Bool} → at' ≡ at → effects' ≡ effects → inserts' ≡ inserts
    → modes' ≡ modes → taken' ≡ taken → Known policy n m i at effects inserts modes taken → Known policy n m i at' effects' inserts' modes' taken'
moved {policy} {n} {m} {i} {at} {at'} {effects} {effects'} {inserts} {inserts'} {modes} {modes'} {taken} {taken'} a e s o t k =
    subst (λ (x : ℕ). Known policy n m i x effects' inserts' modes' taken') (sym a) (subst (λ (x : List ℕ). Known policy n m i at x inserts' modes' taken') (sym e)
    (subst (λ (x : List ℕ). Known policy n m i at effects x modes' taken') (sym s) (subst (λ (x : Bool). Known policy n m i at effects inserts x taken') (sym o)
    (subst (λ (x : Bool). Known policy n m i at effects inserts modes x) (sym t) k))))

pub loop-i-preserved : goal.loop-i-preserved
loop-i-preserved c =
    let k = c.loop-i.invariant in
    let e = c.from-count.ensures ∙ c.node_count.ensures in
    let counts = counts-here k _ _ c.loop-i-test.true c.node_place-place.ensures e in
    elim c.if-count-gt0.branch [
      | then-count-gt0+in-Ok w ↦ moved w.at-is w.effects-is w.inserts-is w.modes-is w.taken-is record {
        frame = k.frame;
        fits = k.fits;
        all = k.all;
        so_far = walk-goes k.frame k.fits k.all _ _ _ _ _ _ k.so_far _ _ c.loop-i-test.true c.node_place-place.ensures e _
            (leaf-kept _ _ _ _ _ _ (leaf-of counts _ c.node_place-place.ensures w.if-count-gt0.true) w.node_set.ensures w.in-Ok.ensures);
      }
      | else-count-gt0 w ↦ moved w.at-is w.effects-is w.inserts-is w.modes-is w.taken-is record {
        frame = k.frame;
        fits = k.fits;
        all = k.all;
        so_far = walk-passes k.frame k.fits k.all _ _ _ _ _ _ k.so_far _ _ c.loop-i-test.true c.node_place-place.ensures e (omega (arith, w.if-count-gt0.false));
      }
    ]

pub returns-then-not-modes : goal.returns-then-not-modes
returns-then-not-modes c =
    let k = c.loop-i.invariant in found-seven k.frame k.fits k.all _ _ _ _ _ _ k.so_far c.loop-i-test.false c.if-not-modes.true

pub returns-then-not-taken : goal.returns-then-not-taken
returns-then-not-taken c =
    let k = c.loop-i.invariant in found-eight k.frame k.fits k.all _ _ _ _ _ _ k.so_far c.loop-i-test.false c.if-not-modes.false c.if-not-taken.true

pub returns : goal.returns
returns c =
    let k = c.loop-i.invariant in found_none k.frame k.fits k.all _ _ _ _ _ _ k.so_far c.loop-i-test.false c.if-not-modes.false c.if-not-taken.false
