-- A file that breaks no rule holds a lawful tree, whose spread is at most 255 and whose leaves have 1 to 64 steps.
use Prim.Native.Nat.{ℕ, zero, suc, ◌+◌, ◌≤◌, ◌<◌}
use native.Mathlib.Omega.{arith}
use mathlib.Core.Path.{◌≡◌, refl, sym, ap, ◌∙◌, subst}
use mathlib.Core.Bool.{Bool, true, false, ◌||◌, not}
use mathlib.Core.List.{map}
use lib.Dec.{T, eqb, leb, leb→le}
use lib.ListN.{length}
use Rattle.actions.specs.Sets.{meets}
use Rattle.actions.proofs.Tests.{not-not, or-false-right}
use Rattle.spec_policy.specs.Bytes.{Bytes}
use Rattle.spec_policy.specs.Lists.{summed, every}
use Rattle.spec_policy.specs.Records.{node_count, step_count, nodes}
use Rattle.spec_policy.specs.Tree.{Way, parallel, sequential, Join, NodeKind, aLeaf, aTrivial, an_unsatisfiable, aPair, no_node, steps_owned, nodes_with_steps, Tree, leaf, trivial, unsatisfiable, node, regulated, tree_under, tree, tree_at}
use Rattle.spec_check.specs.Leaves.{every_leaf}
use Rattle.spec_check.specs.Targets.{targets_fit}
use Rattle.spec_check.specs.Modes.{modes_fit}
use Rattle.spec_check.specs.Interference.{effects, interfere, crossed}
use Rattle.spec_check.specs.Spread.{spread}
use Rattle.spec_check.specs.Lawful.{LawfulLeaf, holds, Spared, Lawful}
use Rattle.spec_check.specs.Numbers.{node_in, node_steps_in, kind_in, shaped, Distinct}
use Rattle.spec_check.proofs.Under.{EachLeaf, under-leaves}
use Rattle.spec_check.proofs.Kept.{broken6-is, broken7-is, nine-at, ten-at}
use Rattle.spec_check.proofs.Numbers.{ChildrenLater, distinct, children-later, numbers-below, tree-at, tree-top}
use Rattle.spec_check.specs.Passed.{Passed}
use Rattle.spec_check.proofs.InsFits.{ins_fits}
use Rattle.laws_check.proofs.Leaves.{lawful-leaf}
use Rattle.spec_check.proofs.Rows.{counts-fit, leaf-at, ins-fit, leaf-steps}

-- ---- over any tree

nor : (p q : Bool) → T (not (p || q)) → T (not p) × T (not q)
nor true q h = absurd h
nor false q h = (tt, h)

-- no two parallel sides interfere, anywhere in the tree
Apart : Tree → Type 0
Apart (leaf i r c code) = Unit {0}
Apart (trivial i) = Unit {0}
Apart (unsatisfiable i) = Unit {0}
Apart (node w j i l r) = Apart l × Apart r × Spared w l r

-- rule 9 at a pair
spared : (w : Way) (j : Join) (i : ℕ) (l r : Tree) → crossed (node w j i l r) ≡ false → Spared w l r
unfolding crossed interfere Spared
spared parallel j i l r h = nor (meets (effects l) (regulated r)) (meets (effects r) (regulated l)) (subst (λ (b : Bool). T (not b)) (sym h) tt)
spared sequential j i l r h = tt

lawful-parts : (t : Tree) → EachLeaf (λ i s c code. LawfulLeaf s code) t → Apart t → Distinct t → Lawful t
unfolding EachLeaf Apart Distinct Lawful
lawful-parts (leaf i s c code) a b d = a
lawful-parts (trivial i) a b d = tt
lawful-parts (unsatisfiable i) a b d = tt
lawful-parts (node w j i l r) a b d = (lawful-parts l a.0 b.0 d.0, lawful-parts r a.1 b.1 d.1, b.2, d.2)

-- ---- of a file that breaks no rule

module _ (file : Bytes) (passed : Passed file) where
  targets-fit : T (every_leaf targets_fit (nodes_with_steps file))
  targets-fit =
      not-not (every_leaf targets_fit (nodes_with_steps file))
      (or-false-right (not (eqb (summed (map steps_owned (nodes file))) (step_count file))) (not (every_leaf targets_fit (nodes_with_steps file))) (sym (broken6-is file) ∙ passed.kept6))

  modes-fit : T (every_leaf (λ r code. modes_fit code) (nodes_with_steps file))
  modes-fit = not-not (every_leaf (λ r code. modes_fit code) (nodes_with_steps file)) (sym (broken7-is file) ∙ passed.kept7)

  some-node : 0 < node_count file
  some-node = (counts-fit file passed.kept3).some-node

  -- node i, of which the sides come later
  module _ (i : ℕ) (l : i < node_count file) (down : (k : ℕ) → i < k → k < node_count file → Apart (tree_at file k)) where
    abbrev sided : NodeKind → Tree
    sided k = shaped k i (node_steps_in (nodes_with_steps file) i) (tree_at file (node_in (nodes_with_steps file) i).left) (tree_at file (node_in (nodes_with_steps file) i).right)

    by_kind : (k : NodeKind) → kind_in (nodes_with_steps file) i ≡ k → tree_at file i ≡ sided k → Apart (sided k)
    unfolding Apart shaped
    by_kind no_node e z = tt
    by_kind aLeaf e z = tt
    by_kind aTrivial e z = tt
    by_kind an_unsatisfiable e z = tt
    by_kind (aPair w j) e z =
        let c : ChildrenLater (node_count file) i (node_in (nodes_with_steps file) i) = children-later file passed.kept5 i w j e in
        let n : crossed (sided (aPair w j)) ≡ false = sym (ap crossed z) ∙ nine-at file i l passed.kept9 in (
          down (node_in (nodes_with_steps file) i).left c.left-later c.left_below,
          down (node_in (nodes_with_steps file) i).right c.right-later c.right-below,
          spared w j i (tree_at file (node_in (nodes_with_steps file) i).left) (tree_at file (node_in (nodes_with_steps file) i).right) n,
        )

    apart-at : Apart (tree_at file i)
    apart-at = let z : tree_at file i ≡ sided (kind_in (nodes_with_steps file) i) = tree-at file passed.kept5 i l in subst Apart (sym z) (by_kind (kind_in (nodes_with_steps file) i) refl z)

  apart_from : (left i : ℕ) → node_count file ≤ left + i → i < node_count file → Apart (tree_at file i)
  apart_from zero i h l = absurd (omega arith)
  apart_from (suc left) i h l = apart-at i l (λ k a b. apart_from left k (omega arith) b)

  sides_apart : Apart (tree file)
  sides_apart = subst Apart (sym (tree-top file)) (apart_from (node_count file) 0 (omega arith) some-node)

  pub numbers-below-nodes : (k : ℕ) → T (holds (tree file) k) → k < node_count file
  numbers-below-nodes = numbers-below file passed.kept5 some-node

  pub spread-255 : spread (tree file) ≤ 255
  spread-255 = leb→le (spread (tree file)) 255 (subst (λ (t : Tree). T (leb (spread t) 255)) (sym (tree-top file)) (ten-at file 0 some-node passed.kept10))

  -- "step count 1 to 64"
  pub leaf-length : EachLeaf (λ i s c code. (1 ≤ length code) × (length code ≤ 64)) (tree file)
  unfolding tree
  leaf-length =
      under-leaves (nodes_with_steps file) (λ i s c code. (1 ≤ length code) × (length code ≤ 64))
      (λ i e. ((leaf-steps file passed.kept4 passed.kept6 i e).some, (leaf-steps file passed.kept4 passed.kept6 i e).few)) (node_count file) 0

  pub lawful-leaves : (fuel i : ℕ) → EachLeaf (λ i s c code. LawfulLeaf s code) (tree_under fuel (nodes_with_steps file) i)
  lawful-leaves =
      under-leaves (nodes_with_steps file) (λ i s c code. LawfulLeaf s code) (λ i e.
      lawful-leaf (node_in (nodes_with_steps file) i).set (node_steps_in (nodes_with_steps file) i).steps (leaf-at targets_fit (nodes_with_steps file) i targets-fit e)
      (leaf-at (λ r code. modes_fit code) (nodes_with_steps file) i modes-fit e)
      (leaf-at (λ r code. every ins_fits code) (nodes_with_steps file) i (ins-fit file passed.kept4) e))

  pub lawful : Lawful (tree file)
  unfolding tree
  lawful = lawful-parts (tree file) (lawful-leaves (node_count file) 0) sides_apart (distinct file passed.kept5)
