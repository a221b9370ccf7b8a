-- A node with two sides in the file: where its sides lie, and the tree that it is.
use Prim.Native.Nat.{ℕ, ◌≤◌, ◌<◌}
use native.Mathlib.Omega.{arith}
use mathlib.Core.Path.{◌≡◌, refl}
use Rattle.spec_policy.specs.Bytes.{Bytes}
use Rattle.spec_policy.specs.Records.{node_place, step_place, node_at, node_count}
use Rattle.spec_policy.specs.Tree.{node, tree_at}
use Rattle.spec_check.specs.Lawful.{Numbered}
use Rattle.spec_check.specs.Numbers.{shaped}
use Rattle.spec_check.proofs.Numbers.{ChildrenLater, tree-read, children-read, numbered-read}
use Rattle.spec_check.specs.Passed.{Passed}
use Rattle.spec_check.proofs.Rows.{counts-fit}
use Rattle.spec_check.specs.Layout.{CountsFit}
use Rattle.turn_sides.specs.Sides.{kind_at, left_at, right_at, join_at, way_at, Placed, Sided}

module _ (policy : Bytes) (ok : Passed policy) (i : ℕ) (h : i < node_count policy) where
  pub placed : Placed policy i
  unfolding node_place step_place
  placed = let c : CountsFit policy = counts-fit policy ok.kept3 in (omega (arith, c.few-nodes), omega (arith, c.long))

  pub few-nodes : node_count policy ≤ 31
  few-nodes = (counts-fit policy ok.kept3).few-nodes

-- where the sides lie
pub record Sides (policy : Bytes) (i : ℕ) : Type 0 where
  pub left-later : i < left_at policy i
  pub left_below : left_at policy i < node_count policy
  pub right-later : i < right_at policy i
  pub right-below : right_at policy i < node_count policy
  pub few : node_count policy ≤ 31

module _ {policy : Bytes} {i : ℕ} (h : Sided policy i) where
  pub sides : Sides policy i
  unfolding kind_at left_at right_at
  sides =
      let c : ChildrenLater (node_count policy) i (node_at policy (node_place i)) = children-read policy h.inside refl h.passed.kept5 h.pair in
      record {
        left-later = c.left-later;
        left_below = c.left_below;
        right-later = c.right-later;
        right-below = c.right-below;
        few = few-nodes policy h.passed i h.inside;
      }

  pub placed-here : Placed policy i
  placed-here = placed policy h.passed i h.inside

  -- the node's tree
  pub tree_is : tree_at policy i ≡ node (way_at policy i) (join_at policy i) i (tree_at policy (left_at policy i)) (tree_at policy (right_at policy i))
  unfolding shaped kind_at left_at right_at
  tree_is = tree-read policy h.inside refl h.passed.kept5 h.pair

  pub numbered-here : Numbered i (tree_at policy (left_at policy i)) (tree_at policy (right_at policy i))
  unfolding kind_at left_at right_at
  numbered-here = numbered-read policy h.inside refl h.passed.kept5 h.pair
