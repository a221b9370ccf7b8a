-- `tree_fits` meets its contract: each turn of the loop makes the node before those that are done known, and counts it if it is a leaf that runs.
use Prim.Native.Nat.{ℕ, ◌+◌, ◌-◌, ◌≤◌, ◌<◌}
use native.Mathlib.Omega.{arith}
use mathlib.Core.Path.{◌≡◌, refl, ap₂, ◌∙◌}
use mathlib.Core.Bool.{Bool, ◌&&◌}
use lib.ListN.{length-set}
use Rattle.spec_policy.specs.Bytes.{Bytes}
use Rattle.spec_policy.specs.Records.{node_count, node_at, node_place}
use Rattle.spec_policy.specs.Tree.{first_step}
use Rattle.spec_policy.proofs.NodeLaws.{first-over}
use Rattle.spec_turns.specs.Saved.{cells}
use Rattle.spec_check.specs.Passed.{Passed}
use Rattle.spec_check.proofs.Rows.{all-owned}
use Rattle.check_leaves.proofs.LeafLaws.{Counted}
use Rattle.call_fits.proofs.FileLaws.{frame, in-view, counts, step_back}
use Rattle.call_fits.proofs.CountLaws.{leaves-from-none, leaves-from-few, runs-one, leaves-from-more, leaf-adds, other-adds, leaves-counted}
use Rattle.call_fits.proofs.TreeLaws.{known_more, root}
use Rattle.call_fits.proofs.tree_fits.Goals as goal

-- node i - 1 is in the file, and its steps end where those from i on begin
record Before (file : Bytes) (i count : ℕ) : Type 0 where
  below : i - 1 < node_count file
  counted_here : Counted file (i - 1) count
  back : first_step file i ≡ first_step file (i - 1) + count

node_before : {file : Bytes} → Passed file → (n i count : ℕ) → i ≤ n → n ≡ node_count file → 0 < i → count ≡ (node_at file (node_place (i - 1))).count → Before file i count
node_before {file} ok n i count l e h q =
    let b : i - 1 < node_count file = omega arith in record {
      below = b;
      counted_here = counts ok _ _ b refl _ q;
      back = step_back ok i _ _ (omega arith) (omega arith) refl q;
    }

pub loop-i-init : goal.loop-i-init
loop-i-init c =
    let f = frame c.requires.passed.0 in (
      omega arith,
      omega (arith, first-over c.args.policy.now c.args.n (omega arith), all-owned _ c.requires.passed.0.kept6),
      refl,
      (λ k h l. absurd (omega arith)),
      leaves-from-none _ _ _,
    )

pub view_count-requires : goal.view_count-requires
view_count-requires c = in-view c.requires.passed.0 _ _ (omega (arith, c.loop-i.invariant.0, c.requires.passed.1)) refl

pub overflow_sub-first : goal.overflow_sub-first
overflow_sub-first c =
    let b = node_before c.requires.passed.0 _ c.loop-i.i _ c.loop-i.invariant.0 c.requires.passed.1 c.loop-i-test.true (c.from-count.ensures ∙ c.view_count.ensures) in
    omega (arith, b.back, c.loop-i.invariant.1)

pub node_fits-requires : goal.node_fits-requires
node_fits-requires c =
    let b = node_before c.requires.passed.0 _ c.loop-i.i _ c.loop-i.invariant.0 c.requires.passed.1 c.loop-i-test.true (c.from-count.ensures ∙ c.view_count.ensures) in
    record {
      passed = (c.requires.passed.0, b.below);
      first_value = (omega (arith, b.back, c.loop-i.invariant.1), (c.from-count.ensures ∙ c.view_count.ensures));
      state_len = (c.requires.state_len, omega (arith, c.loop-i.invariant.2));
      by_index = λ k h m. c.loop-i.invariant.3 k (omega arith) (omega (arith, c.requires.passed.1));
    }

pub bounds-fit-i : goal.bounds-fit-i
bounds-fit-i c =
    let b = node_before c.requires.passed.0 _ c.loop-i.i _ c.loop-i.invariant.0 c.requires.passed.1 c.loop-i-test.true (c.from-count.ensures ∙ c.view_count.ensures) in
    omega (arith, b.below, frame c.requires.passed.0)

pub saved_status-requires : goal.saved_status-requires
saved_status-requires c =
    let b = node_before c.requires.passed.0 _ c.loop-i.i _ c.loop-i.invariant.0 c.requires.passed.1 c.loop-i-test.true (c.from-count.ensures ∙ c.view_count.ensures) in
    (c.requires.state_len, omega (arith, b.below, frame c.requires.passed.0))

pub overflow_add-leaves : goal.overflow_add-leaves
overflow_add-leaves c =
    let b = node_before c.requires.passed.0 _ c.loop-i.i _ c.loop-i.invariant.0 c.requires.passed.1 c.loop-i-test.true (c.from-count.ensures ∙ c.view_count.ensures) in
    let more =
    leaves-from-more c.args.policy.now _ c.args.n c.loop-i.leaves c.loop-i.i _ _ (omega arith) c.loop-i.invariant.4 c.saved_status.ensures
    (c.from-leaves.ensures ∙ runs-one _ ∙ leaf-adds b.counted_here _ c.if-count-gt0.true) in
    omega (arith, c.requires.passed.1, frame c.requires.passed.0, leaves-from-few _ _ _ (c.loop-i.leaves + c.from-leaves.result) (c.loop-i.i - 1) more)

pub loop-i-preserved-then-count-gt0 : goal.loop-i-preserved-then-count-gt0
loop-i-preserved-then-count-gt0 c =
    let b = node_before c.requires.passed.0 _ c.loop-i.i _ c.loop-i.invariant.0 c.requires.passed.1 c.loop-i-test.true (c.from-count.ensures ∙ c.view_count.ensures) in (
      omega (arith, c.loop-i.invariant.0),
      omega (arith, b.back, c.loop-i.invariant.1),
      simp length-set c.loop-i.invariant.2,
      known_more _ _ _ c.loop-i.fit c.loop-i.i _ (omega arith) (omega (arith, b.below, frame c.requires.passed.0, c.loop-i.invariant.2)) c.loop-i.invariant.3 c.node_fits.ensures,
      leaves-from-more _ _ _ c.loop-i.leaves c.loop-i.i _ _ (omega arith) c.loop-i.invariant.4 c.saved_status.ensures
          (c.from-leaves.ensures ∙ runs-one _ ∙ leaf-adds b.counted_here _ c.if-count-gt0.true),
    )

-- a node that is no leaf adds nothing
pub loop-i-preserved : goal.loop-i-preserved
loop-i-preserved c =
    let b = node_before c.requires.passed.0 _ c.loop-i.i _ c.loop-i.invariant.0 c.requires.passed.1 c.loop-i-test.true (c.from-count.ensures ∙ c.view_count.ensures) in (
      omega (arith, c.loop-i.invariant.0),
      omega (arith, b.back, c.loop-i.invariant.1),
      simp length-set c.loop-i.invariant.2,
      known_more _ _ _ c.loop-i.fit c.loop-i.i _ (omega arith) (omega (arith, b.below, frame c.requires.passed.0, c.loop-i.invariant.2)) c.loop-i.invariant.3 c.node_fits.ensures,
      omega (
        arith,
        leaves-from-more c.args.policy.now (cells c.args.state.now) c.args.n c.loop-i.leaves c.loop-i.i _ 0 (omega arith) c.loop-i.invariant.4 refl (other-adds b.counted_here _ c.if-count-gt0.false),
      ),
    )

pub is_ahead-requires : goal.is_ahead-requires
is_ahead-requires c =
    (c.requires.state_len, omega (arith, c.requires.passed.1, frame c.requires.passed.0, leaves-from-few _ _ _ c.loop-i.leaves c.loop-i.i c.loop-i.invariant.4))

pub returns : goal.returns
returns c =
    let f = frame c.requires.passed.0 in
    ap₂ (λ (a b : Bool). a && b)
    (root _ _ _ _ (c.loop-i.invariant.3 0 (omega arith) (omega (arith, f.some-node, c.requires.passed.1))) c.saved_status-2.ensures)
    (c.is_ahead.ensures ∙ leaves-counted c.requires.passed.0 _ _ c.loop-i.leaves c.loop-i.i c.requires.passed.1 c.loop-i-test.false c.loop-i.invariant.4)
