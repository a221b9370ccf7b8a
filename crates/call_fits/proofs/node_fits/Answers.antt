-- `node_fits` meets its contract: each kind of node has its own function.
use Prim.Native.Nat.{ℕ, ◌<◌}
use native.Mathlib.Omega.{arith}
use mathlib.Core.Path.{◌≡◌, refl, sym, ap, ◌∙◌}
use mathlib.Core.Bool.{Bool}
use mathlib.Core.Logic.{⊎_elim}
use Rattle.spec_policy.specs.Bytes.{Bytes}
use Rattle.spec_policy.specs.Records.{most_nodes, node_count, node_at, node_place}
use Rattle.spec_policy.specs.Tree.{Tree, tree_at, node_kind}
use Rattle.spec_check.specs.Passed.{Passed}
use Rattle.spec_check.proofs.Numbers.{ChildrenLater, number_at}
use Rattle.file_records.specs.declared.Kind.{Kind}
use Rattle.file_records.specs.Kinds.{kind_of}
use Rattle.call_fits.specs.Alone.{fits_alone}
use Rattle.call_fits.proofs.FileLaws.{frame, in-view, steps-inside, counts, is-leaf, is-trivial, is_none, is-unsatisfiable, is-pair, pair-later}
use Rattle.call_fits.proofs.node_fits.Goals as goal

module _ {file : Bytes} (ok : Passed file) (i : ℕ) (h : i < node_count file) where
  few : i < most_nodes
  few = omega (arith, frame ok, h)

  -- b is whether the tree at hand fits
  found : (bs : Bytes) (t : Tree) (b : Bool) → tree_at file i ≡ t → b ≡ fits_alone t bs → b ≡ fits_alone (tree_at file i) bs
  found bs t b e f = f ∙ ap (λ (x : Tree). fits_alone x bs) (sym e)

-- what the code read of a node's kind
kind-is : (r k : Kind) (n : ℕ) → kind_of r ≡ node_kind n → r ≡ k → kind_of k ≡ node_kind n
kind-is r k n q e = sym (ap kind_of e) ∙ q

pub view_kind-requires : goal.view_kind-requires
view_kind-requires c = in-view c.requires.passed.0 _ _ c.requires.passed.1 refl

pub view_start-requires : goal.view_start-requires
view_start-requires c = in-view c.requires.passed.0 _ _ c.requires.passed.1 refl

pub leaf_fits-requires : goal.leaf_fits-requires
leaf_fits-requires c = record {
  steps_in = (
    steps-inside c.requires.passed.0 _ _ c.requires.passed.1 refl _ c.requires.first_value.1 _ c.requires.first_value.0,
    (counts c.requires.passed.0 _ _ c.requires.passed.1 refl _ c.requires.first_value.1).few,
  );
  state_len = (c.requires.state_len.0, few c.requires.passed.0 _ c.requires.passed.1);
}

pub returns-in-Leaf : goal.returns-in-Leaf
unfolding kind_of
returns-in-Leaf c =
    found c.requires.passed.0 _ c.requires.passed.1 _ _ _
    (is-leaf c.requires.passed.0 _ _ c.requires.passed.1 refl _ c.requires.first_value.1 _ c.requires.first_value.0 _
    (kind-is _ _ _ c.view_kind.ensures c.in-Leaf.is) c.view_start.ensures.0)
    (c.leaf_fits.ensures _)

pub constant_fits-requires : goal.constant_fits-requires
constant_fits-requires c = (c.requires.state_len.0, few c.requires.passed.0 _ c.requires.passed.1)

pub constant_fits-requires-in-Unsatisfiable : goal.constant_fits-requires-in-Unsatisfiable
constant_fits-requires-in-Unsatisfiable c = (c.requires.state_len.0, few c.requires.passed.0 _ c.requires.passed.1)

pub returns-in-Trivial : goal.returns-in-Trivial
unfolding kind_of
returns-in-Trivial c =
    found c.requires.passed.0 _ c.requires.passed.1 _ _ _
    (⊎_elim (λ e. is-trivial c.requires.passed.0 _ _ c.requires.passed.1 refl (kind-is _ _ _ c.view_kind.ensures e))
    (λ e. is_none c.requires.passed.0 _ _ c.requires.passed.1 refl (kind-is _ _ _ c.view_kind.ensures e)) c.in-Trivial.is)
    (c.constant_fits.ensures.trivial refl)

pub returns-in-Unsatisfiable : goal.returns-in-Unsatisfiable
unfolding kind_of
returns-in-Unsatisfiable c =
    found c.requires.passed.0 _ c.requires.passed.1 _ _ _
    (is-unsatisfiable c.requires.passed.0 _ _ c.requires.passed.1 refl (kind-is _ _ _ c.view_kind.ensures c.in-Unsatisfiable.is))
    (c.constant_fits-in-Unsatisfiable.ensures.unsatisfiable refl)

pub view_left-requires : goal.view_left-requires
view_left-requires c = in-view c.requires.passed.0 _ _ c.requires.passed.1 refl

pub view_right-requires : goal.view_right-requires
view_right-requires c = in-view c.requires.passed.0 _ _ c.requires.passed.1 refl

pub pair_fits-requires : goal.pair_fits-requires
unfolding kind_of
pair_fits-requires c =
    let f = frame c.requires.passed.0 in
    let later : ChildrenLater (node_count c.args.policy.now) c.args.i (node_at c.args.policy.now (node_place c.args.i)) =
    pair-later c.requires.passed.0 _ _ c.requires.passed.1 refl _ _ (kind-is _ _ _ c.view_kind.ensures c.in-Pair.is) in
    record {
      state_len = (
        c.requires.state_len.0,
        few c.requires.passed.0 _ c.requires.passed.1,
        omega (arith, f.few-nodes, later.left_below, (c.from-left.ensures ∙ c.view_left.ensures)),
        omega (arith, f.few-nodes, later.right-below, (c.from-right.ensures ∙ c.view_right.ensures)),
      );
      most_nodes_in_bounds = c.requires.state_len.1;
    }

pub returns-in-Pair : goal.returns-in-Pair
unfolding kind_of
returns-in-Pair c =
    let later : ChildrenLater (node_count c.args.policy.now) c.args.i (node_at c.args.policy.now (node_place c.args.i)) =
    pair-later c.requires.passed.0 _ _ c.requires.passed.1 refl _ _ (kind-is _ _ _ c.view_kind.ensures c.in-Pair.is) in
    found c.requires.passed.0 _ c.requires.passed.1 _ _ _
    (is-pair c.requires.passed.0 _ _ c.requires.passed.1 refl _ _ _ _ (kind-is _ _ _ c.view_kind.ensures c.in-Pair.is) (c.from-left.ensures ∙ c.view_left.ensures) (c.from-right.ensures ∙ c.view_right.ensures))
    (c.pair_fits.ensures _ _ _ (number_at _ c.from-left.result) (number_at _ c.from-right.result)
    (c.requires.by_index c.from-left.result (omega (arith, later.left-later, (c.from-left.ensures ∙ c.view_left.ensures))) (omega (arith, later.left_below, (c.from-left.ensures ∙ c.view_left.ensures))))
    (c.requires.by_index c.from-right.result (omega (arith, later.right-later, (c.from-right.ensures ∙ c.view_right.ensures))) (omega (arith, later.right-below, (c.from-right.ensures ∙ c.view_right.ensures)))))
