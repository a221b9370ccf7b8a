-- The sides of a node of the file: where they stand, and how many nodes are still ahead of them.
use Prim.Native.Nat.{ℕ, ◌+◌, ◌≤◌, ◌<◌}
use native.Mathlib.Omega.{arith}
use mathlib.Core.Path.{◌≡◌, sym, ap, ◌∙◌, subst}
use mathlib.Core.List.{List, ◌∷◌}
use Rattle.spec_policy.specs.Bytes.{Bytes}
use Rattle.spec_policy.specs.Tree.{Way, parallel, aPair, Tree, leaf, trivial, unsatisfiable, node, tree_at, tree}
use Rattle.spec_check.specs.Lawful.{Lawful}
use Rattle.laws_check.proofs.LawfulTree.{lawful}
use Rattle.turn_paths.specs.Paths.{Feeder, Apart, Beside}
use Rattle.turn_paths.specs.Beneath.{Beneath, on_parallel_left, on_left, on_right, height, size, ahead}
use Rattle.turn_paths.proofs.PlaceLaws.{Standing, stands, beside, right-lower}
use Rattle.turn_memory.specs.Words.{Words}
use Rattle.turn_sides.specs.Sides.{kind_at, left_at, right_at, join_at}
use Rattle.turn_sides.proofs.Nodes.{sides}
use Rattle.turn_tables.specs.Tables.{as_feeder, path_at}
use Rattle.turn_tables.proofs.TableLaws.{path-same}
use Rattle.turn_place.specs.Places.{Keeps, Stands, Sequential}
use Rattle.turn_place.proofs.Ways.{path-next, path-by, sided-of, pair-tree}

-- the nodes still ahead of an insert from node i, and of a phase of node i
abbrev pub way : Bytes → Words → ℕ → ℕ
way policy ws i = ahead (path_at policy ws i)

abbrev pub weight : Bytes → Words → ℕ → ℕ
weight policy ws i = size (tree_at policy i) + way policy ws i

pub size-some : (t : Tree) → 1 ≤ size t
unfolding size
size-some (leaf i r c code) = omega arith
size-some (trivial i) = omega arith
size-some (unsatisfiable i) = omega arith
size-some (node w j i l r) = omega arith

-- as long as the tables are kept
pub way-kept : (policy : Bytes) {ws ws' : Words} (i : ℕ) → Keeps ws ws' → way policy ws' i ≡ way policy ws i
way-kept policy {ws} {ws'} i k = ap ahead (path-same policy ws ws' k.tables i)

-- no number stands twice on the way up and under the node
pub standing : {policy : Bytes} {ws : Words} {i : ℕ} → Stands policy ws i → Standing (tree_at policy i) (path_at policy ws i)
standing {policy} h = stands (lawful policy h.passed) h.beneath

module _ {policy : Bytes} {ws : Words} {i : ℕ} {w : Way} (h : Stands policy ws i) (k : kind_at policy i ≡ aPair w (join_at policy i)) where
  abbrev l : Tree
  l = tree_at policy (left_at policy i)

  abbrev r : Tree
  r = tree_at policy (right_at policy i)

  pub at-node : Beneath (tree policy) (node w (join_at policy i) i (tree_at policy (left_at policy i)) (tree_at policy (right_at policy i))) (path_at policy ws i)
  at-node = subst (λ (t : Tree). Beneath (tree policy) t (path_at policy ws i)) (pair-tree h k) h.beneath

  pub apart-node : Apart (node w (join_at policy i) i (tree_at policy (left_at policy i)) (tree_at policy (right_at policy i))) (path_at policy ws i)
  apart-node = (stands (lawful policy h.passed) at-node).apart

  weighs : weight policy ws i ≡ 1 + (size (tree_at policy (left_at policy i)) + size (tree_at policy (right_at policy i))) + way policy ws i
  unfolding size
  weighs = ap (λ (t : Tree). size t + way policy ws i) (pair-tree h k)

  -- ---- the right side

  pub path-right : path_at policy ws (right_at policy i) ≡ path_at policy ws i
  path-right = path-by policy ws i (right_at policy i) (h.tabled.linked.right i h.inside w k)

  pub right-stands : {x : ℕ} → x ≡ right_at policy i → Stands policy ws x
  right-stands {x} e = subst (Stands policy ws) (sym e) (record {
    passed = h.passed;
    sized = h.sized;
    tabled = h.tabled;
    inside = (sides (sided-of h k)).right-below;
    beneath = subst (Beneath (tree policy) r) (sym path-right) (on_right at-node);
  })

  pub right-weight : {x : ℕ} → x ≡ right_at policy i → weight policy ws x ≡ size (tree_at policy (right_at policy i)) + way policy ws i
  right-weight {x} e = ap (weight policy ws) e ∙ ap (λ (fs : List Feeder). size r + ahead fs) path-right

  pub right-less : {x : ℕ} → x ≡ right_at policy i → weight policy ws x < weight policy ws i
  right-less {x} e = omega (arith, right-weight e, weighs)

  -- "a node's turn calls the feeding of inserts, which calls the right child's turn; node height falls"
  pub right-lower-here : height (tree_at policy (right_at policy i)) < height (tree_at policy i)
  right-lower-here = subst (λ (t : Tree). height r < height t) (sym (pair-tree h k)) (right-lower w (join_at policy i) i l r)

module _ {policy : Bytes} {ws : Words} {i : ℕ} (h : Stands policy ws i) (k : kind_at policy i ≡ aPair parallel (join_at policy i)) where
  pub path-left-parallel : path_at policy ws (left_at policy i) ≡ path_at policy ws i
  path-left-parallel = path-by policy ws i (left_at policy i) (h.tabled.linked.left-parallel i h.inside k)

  pub left-stands-parallel : {x : ℕ} → x ≡ left_at policy i → Stands policy ws x
  left-stands-parallel {x} e = subst (Stands policy ws) (sym e) (record {
    passed = h.passed;
    sized = h.sized;
    tabled = h.tabled;
    inside = (sides (sided-of h k)).left_below;
    beneath = subst (Beneath (tree policy) (tree_at policy (left_at policy i))) (sym path-left-parallel) (on_parallel_left (at-node h k));
  })

  pub left-less-parallel : {x : ℕ} → x ≡ left_at policy i → weight policy ws x < weight policy ws i
  left-less-parallel {x} e =
      omega (arith, ap (weight policy ws) e ∙ ap (λ (fs : List Feeder). size (tree_at policy (left_at policy i)) + ahead fs) path-left-parallel, weighs h k, size-some (tree_at policy (right_at policy i)))

module _ {policy : Bytes} {ws : Words} {i : ℕ} (h : Stands policy ws i) (k : Sequential policy i) where
  -- the node itself is the first on its left side's way up
  pub path-left : path_at policy ws (left_at policy i) ≡ as_feeder policy i ∷ path_at policy ws i
  path-left =
      let l = h.tabled.linked in
      let e = l.left-sequential i h.inside k in
      let s = sides (sided-of h k) in
      path-next h.passed l s.left_below (omega (arith, e, h.inside, s.few)) ∙ ap (λ (x : ℕ). as_feeder policy x ∷ path_at policy ws x) e

  pub left-stands : {x : ℕ} → x ≡ left_at policy i → Stands policy ws x
  left-stands {x} e = subst (Stands policy ws) (sym e) (record {
    passed = h.passed;
    sized = h.sized;
    tabled = h.tabled;
    inside = (sides (sided-of h k)).left_below;
    beneath = subst (Beneath (tree policy) (tree_at policy (left_at policy i))) (sym path-left) (on_left (at-node h k));
  })

  pub left_less : {x : ℕ} → x ≡ left_at policy i → weight policy ws x < weight policy ws i
  unfolding ahead
  left_less {x} e =
      omega (arith, ap (weight policy ws) e ∙ ap (λ (fs : List Feeder). size (tree_at policy (left_at policy i)) + ahead fs) path-left, weighs h k)

  pub beside-here : Beside (as_feeder policy i) (path_at policy ws i)
  unfolding Lawful
  beside-here = let s = stands (lawful policy h.passed) (at-node h k) in beside s.lawful.3 s.apart
