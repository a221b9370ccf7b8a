-- The tree that a list of places holds, one node at a time.
use Prim.Native.Nat.{ℕ, zero, suc}
use mathlib.Core.Path.{◌≡◌, refl, sym, ap₂, subst}
use mathlib.Core.List.{List}
use Rattle.actions.specs.Sets.{ActionSet}
use Rattle.spec_policy.specs.Steps.{Step}
use Rattle.spec_policy.specs.Tree.{Way, Join, NodeKind, aLeaf, aTrivial, an_unsatisfiable, aPair, no_node, NodeSteps, Tree, leaf, trivial, unsatisfiable, node, tree_under}
use Rattle.spec_check.specs.Numbers.{node_steps_in, node_in, kind_in, shaped}

-- P of every leaf of the tree: of its number, its set, its counter's start and its steps
unfoldable pub EachLeaf : (ℕ → ActionSet → ℕ → List Step → Type 0) → Tree → Type 0
EachLeaf P (leaf i s c code) = P i s c code
EachLeaf P (trivial i) = Unit {0}
EachLeaf P (unsatisfiable i) = Unit {0}
EachLeaf P (node w j i l r) = EachLeaf P l × EachLeaf P r

-- only a pair has children
pub shaped-same : (k : NodeKind) (i : ℕ) (p : NodeSteps) (l l' r r' : Tree) → ((w : Way) (j : Join) → k ≡ aPair w j → (l ≡ l') × (r ≡ r'))
    → shaped k i p l r ≡ shaped k i p l' r'
unfolding shaped
shaped-same no_node i p l l' r r' h = refl
shaped-same aLeaf i p l l' r r' h = refl
shaped-same aTrivial i p l l' r r' h = refl
shaped-same an_unsatisfiable i p l l' r r' h = refl
shaped-same (aPair w j) i p l l' r r' h = ap₂ (λ (x y : Tree). node w j i x y) (h w j refl).0 (h w j refl).1

module _ (ps : List NodeSteps) where
  pub under-suc : (fuel i : ℕ)
      → tree_under (suc fuel) ps i ≡ shaped (kind_in ps i) i (node_steps_in ps i) (tree_under fuel ps (node_in ps i).left) (tree_under fuel ps (node_in ps i).right)
  unfolding tree_under shaped
  under-suc fuel i = go (kind_in ps i) refl
    where
      go : (k : NodeKind) → kind_in ps i ≡ k
          → tree_under (suc fuel) ps i ≡ shaped (kind_in ps i) i (node_steps_in ps i) (tree_under fuel ps (node_in ps i).left) (tree_under fuel ps (node_in ps i).right)
      go no_node e = rw (e, tree_under)
      go aLeaf e = rw (e, tree_under)
      go aTrivial e = rw (e, tree_under)
      go an_unsatisfiable e = rw (e, tree_under)
      go (aPair w j) e = rw (e, tree_under)

  -- What holds of every kind of node over its children holds of the tree, whatever the fuel.
  module _ (P : ℕ → Tree → Type 0) (at-trivial : (i : ℕ) → P i (trivial i)) (at-unsatisfiable : (i : ℕ) → P i (unsatisfiable i))
      (at_leaf : (i : ℕ) → kind_in ps i ≡ aLeaf → P i (leaf i (node_in ps i).set (node_in ps i).start (node_steps_in ps i).steps))
      (at_pair : (w : Way) (j : Join) (i : ℕ) (l r : Tree) → kind_in ps i ≡ aPair w j → P (node_in ps i).left l → P (node_in ps i).right r → P i (node w j i l r)) where
    shaped-is : (i : ℕ) (l r : Tree) → P (node_in ps i).left l → P (node_in ps i).right r → (k : NodeKind) → kind_in ps i ≡ k → P i (shaped k i (node_steps_in ps i) l r)
    unfolding shaped
    shaped-is i l r x y no_node e = at-trivial i
    shaped-is i l r x y aLeaf e = at_leaf i e
    shaped-is i l r x y aTrivial e = at-trivial i
    shaped-is i l r x y an_unsatisfiable e = at-unsatisfiable i
    shaped-is i l r x y (aPair w j) e = at_pair w j i l r e x y

    pub under-is : (fuel i : ℕ) → P i (tree_under fuel ps i)
    unfolding tree_under
    under-is zero i = at-trivial i
    under-is (suc fuel) i =
        subst (λ (t : Tree). P i t) (sym (under-suc fuel i))
        (shaped-is i (tree_under fuel ps (node_in ps i).left) (tree_under fuel ps (node_in ps i).right)
        (under-is fuel (node_in ps i).left) (under-is fuel (node_in ps i).right) (kind_in ps i) refl)

  pub under-leaves : (P : ℕ → ActionSet → ℕ → List Step → Type 0)
      → ((i : ℕ) → kind_in ps i ≡ aLeaf → P i (node_in ps i).set (node_in ps i).start (node_steps_in ps i).steps) → (fuel i : ℕ) → EachLeaf P (tree_under fuel ps i)
  unfolding EachLeaf
  under-leaves P h = under-is (λ i t. EachLeaf P t) (λ i. tt) (λ i. tt) h (λ w j i l r e x y. (x, y))
