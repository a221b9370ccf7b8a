-- The state that a memory holds of a tree depends on the cells of its own nodes only.
use Prim.Native.Nat.{ℕ}
use mathlib.Core.Path.{◌≡◌, refl, sym, ap, ap₂, ◌∙◌, subst}
use mathlib.Core.Bool.{Bool, true, false, ◌||◌}
use mathlib.Core.Logic.{◌⊎◌, inl, inr, ⊎_elim}
use lib.Dec.{T, eqb, eqb→eq, eqb_refl}
use Rattle.actions.proofs.Tests.{yes_of, bool_cases, or-false-left, or-false-right, true-not-false}
use Rattle.spec_policy.specs.Tree.{Way, Join, Tree, leaf, trivial, unsatisfiable, node, number_of}
use Rattle.spec_check.specs.Lawful.{holds, Disjoint, Numbered}
use Rattle.spec_turns.specs.State.{pair_with}
use Rattle.turn_paths.specs.Memory.{Cell, Mem, leaf_with, held}
use Rattle.turn_paths.specs.Choices.{KeptBut}

-- ---- numbers

pub same_or_not : (i k : ℕ) → (i ≡ k) ⊎ (i ≡ k → ⊥)
same_or_not i k =
    ⊎_elim (λ h. inl (eqb→eq i k h)) (λ e. inr (λ z. subst T e (subst (λ (n : ℕ). T (eqb i n)) z (eqb_refl i)))) (bool_cases (eqb i k))

pub eqb_same : (i : ℕ) → eqb i i ≡ true
eqb_same i = yes_of (eqb i i) (eqb_refl i)

apart : (i k : ℕ) → eqb k i ≡ false → i ≡ k → ⊥
apart i k e z = subst T e (subst (λ (n : ℕ). T (eqb k n)) (sym z) (eqb_refl k))

or-true : (p q : Bool) → p ≡ true → p || q ≡ true
or-true p q e = rw e

or_true_right : (p q : Bool) → q ≡ true → p || q ≡ true
or_true_right true q e = refl
or_true_right false q e = e

-- a tree holds its own number
pub own-number : (t : Tree) → holds t (number_of t) ≡ true
unfolding holds number_of
own-number (leaf i r c code) = eqb_same i
own-number (trivial i) = eqb_same i
own-number (unsatisfiable i) = eqb_same i
own-number (node w j i l r) = or-true (eqb i i) (holds l i || holds r i) (eqb_same i)

module _ (w : Way) (j : Join) (n : ℕ) (l r : Tree) where
  -- what a node does not hold
  module _ (i : ℕ) (e : holds (node w j n l r) i ≡ false) where
    pub outside : i ≡ n → ⊥
    unfolding holds
    outside = apart i n (or-false-left (eqb n i) (holds l i || holds r i) e)

    pub outside-left : holds l i ≡ false
    unfolding holds
    outside-left = or-false-left (holds l i) (holds r i) (or-false-right (eqb n i) (holds l i || holds r i) e)

    pub outside-right : holds r i ≡ false
    unfolding holds
    outside-right = or-false-right (holds l i) (holds r i) (or-false-right (eqb n i) (holds l i || holds r i) e)

  in-left : (i : ℕ) → holds l i ≡ true → holds (node w j n l r) i ≡ true
  unfolding holds
  in-left i e = or_true_right (eqb n i) (holds l i || holds r i) (or-true (holds l i) (holds r i) e)

  in-right : (i : ℕ) → holds r i ≡ true → holds (node w j n l r) i ≡ true
  unfolding holds
  in-right i e = or_true_right (eqb n i) (holds l i || holds r i) (or_true_right (holds l i) (holds r i) e)

  in-own : holds (node w j n l r) n ≡ true
  unfolding number_of
  in-own = own-number (node w j n l r)

-- a number that a tree holds is none that it does not
pub held-apart : (t : Tree) {i k : ℕ} → holds t i ≡ true → holds t k ≡ false → i ≡ k → ⊥
held-apart t {i} {k} h e z = true-not-false (subst (λ (n : ℕ). holds t n ≡ true) z h) e

-- ---- what depends only on the tree's cells

pub held_same : (t : Tree) (m m' : Mem) → ((i : ℕ) → holds t i ≡ true → m' i ≡ m i) → held t m' ≡ held t m
unfolding held holds
held_same (leaf n r c code) m m' h = ap (λ (x : Cell). leaf_with x.status x.asked x.offset x.counter) (h n (eqb_same n))
held_same (trivial n) m m' h = ap (λ (x : Cell). leaf_with x.status x.asked 0 0) (h n (eqb_same n))
held_same (unsatisfiable n) m m' h = ap (λ (x : Cell). leaf_with x.status x.asked 0 0) (h n (eqb_same n))
held_same (node w j n l r) m m' h =
    ap₂ (pair_with (m' n).status (m' n).asked) (held_same l m m' (λ i e. h i (in-left w j n l r i e))) (held_same r m m' (λ i e. h i (in-right w j n l r i e)))
    ∙ ap (λ (x : Cell). pair_with x.status x.asked (held l m) (held r m)) (h n (in-own w j n l r))

-- ---- the two sides of a node

module _ {n : ℕ} {l r : Tree} (sd : Numbered n l r) where
  pub not-right-of-left : (i : ℕ) → holds l i ≡ true → holds r i ≡ false
  unfolding Disjoint
  not-right-of-left i e = ⊎_elim (λ z. true-not-false e z) (λ z. z) (sd.sides i)

  pub not-left-of-right : (i : ℕ) → holds r i ≡ true → holds l i ≡ false
  unfolding Disjoint
  not-left-of-right i e = ⊎_elim (λ z. z) (λ z. true-not-false e z) (sd.sides i)

  -- where only the node's own cell has
  module _ {m m' : Mem} (o : KeptBut n m m') where
    pub held-l-own : held l m' ≡ held l m
    held-l-own = held_same l m m' (λ i e. o i (held-apart l e sd.not_left))

    pub held-r-own : held r m' ≡ held r m
    held-r-own = held_same r m m' (λ i e. o i (held-apart r e sd.not_right))
