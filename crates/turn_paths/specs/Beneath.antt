-- A node in the tree, with the sequential nodes on whose left side it is; how high a tree is, and how many nodes are still ahead of a phase or an
-- insert.
use Rattle.std.specs.Prelude.{ℕ, suc, ◌+◌, true, false, List, [], ◌∷◌, leb}
use Rattle.spec_policy.specs.Tree.{Way, parallel, sequential, Join, Tree, leaf, trivial, unsatisfiable, node}
use Rattle.turn_paths.specs.Paths.{Feeder}

pub data Beneath (whole : Tree) : Tree → List Feeder → Type 0 where
  top : Beneath whole whole []
  on_parallel_left : {j : Join} {i : ℕ} {l r : Tree} {fs : List Feeder} → Beneath whole (node parallel j i l r) fs → Beneath whole l fs
  on_left : {j : Join} {i : ℕ} {l r : Tree} {fs : List Feeder} → Beneath whole (node sequential j i l r) fs
      → Beneath whole l (record { number = i; join = j; left = l; right = r } ∷ fs)
  on_right : {w : Way} {j : Join} {i : ℕ} {l r : Tree} {fs : List Feeder} → Beneath whole (node w j i l r) fs → Beneath whole r fs

-- a node's height: how many nodes stand on the longest way down from it
unfoldable pub height : Tree → ℕ
height (leaf i r c code) = 1
height (trivial i) = 1
height (unsatisfiable i) = 1
height (node w j i l r) = suc (elim (leb (height l) (height r)) [ true ↦ height r | false ↦ height l ])

-- the number of a tree's nodes
unfoldable pub size : Tree → ℕ
size (leaf i r c code) = 1
size (trivial i) = 1
size (unsatisfiable i) = 1
size (node w j i l r) = 1 + (size l + size r)

-- the nodes on the right sides above: those that an insert can still come to
unfoldable pub ahead : List Feeder → ℕ
ahead [] = 0
ahead (f ∷ fs) = size f.right + ahead fs
