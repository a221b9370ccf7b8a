-- Tests: what follows from a Boolean's being true or false.
use mathlib.Core.Path.{◌≡◌, refl, sym, ◌∙◌, subst}
use mathlib.Core.Bool.{Bool, true, false, not, ◌&&◌, ◌||◌}
use mathlib.Core.Logic.{◌⊎◌, inl, inr}
use lib.Dec.{T}

pub yes_of : (b : Bool) → T b → b ≡ true
yes_of true h = refl
yes_of false h = absurd h

pub of-yes : (b : Bool) → b ≡ true → T b
of-yes b e = subst T (sym e) tt

pub no_of : (b : Bool) → (T b → ⊥) → b ≡ false
no_of true h = absurd (h tt)
no_of false h = refl

pub and_intro : (p q : Bool) → T p → T q → T (p && q)
and_intro true q h k = k
and_intro false q h k = absurd h

pub and_left : (p q : Bool) → T (p && q) → T p
and_left true q h = tt
and_left false q h = h

pub and_right : (p q : Bool) → T (p && q) → T q
and_right true q h = h
and_right false q h = absurd h

pub or_left : (p q : Bool) → T p → T (p || q)
or_left true q h = tt
or_left false q h = absurd h

pub or_right : (p q : Bool) → T q → T (p || q)
or_right true q h = tt
or_right false q h = h

pub or_cases : (p q : Bool) → T (p || q) → T p ⊎ T q
or_cases true q h = inl tt
or_cases false q h = inr h

pub not-false : (q : Bool) → T (not q) → q ≡ false
not-false true h = absurd h
not-false false h = refl

pub twice : (b : Bool) → T (not (not b)) → T b
twice true h = tt
twice false h = h

pub twice-back : (b : Bool) → T b → T (not (not b))
twice-back true h = tt
twice-back false h = h

-- two tests that hold together are one
pub both : (p q : Bool) → (T p → T q) → (T q → T p) → p ≡ q
both true q f g = sym (yes_of q (f tt))
both false q f g = sym (no_of q g)

pub bool_cases : (b : Bool) → T b ⊎ (b ≡ false)
bool_cases true = inl tt
bool_cases false = inr refl

-- a test whose negation is false holds
pub not-not : (b : Bool) → not b ≡ false → T b
not-not true e = tt
not-not false e = subst T e tt

pub or-false-left : (p q : Bool) → p || q ≡ false → p ≡ false
or-false-left true q e = e
or-false-left false q e = refl

pub or-false-right : (p q : Bool) → p || q ≡ false → q ≡ false
or-false-right true q e = absurd (subst T e tt)
or-false-right false q e = e

pub implied : (p q : Bool) → T (not p || q) → T p → T q
implied true q h k = h
implied false q h k = absurd k

pub true-not-false : {A : Type 0} {b : Bool} → b ≡ true → b ≡ false → A
true-not-false p q = absurd (subst T (sym p ∙ q) tt)

-- ---- a conjunction, as an equation

pub and_first : (p q : Bool) → p && q ≡ true → p ≡ true
and_first p q e = yes_of p (and_left p q (of-yes (p && q) e))

pub and_second : (p q : Bool) → p && q ≡ true → q ≡ true
and_second p q e = yes_of q (and_right p q (of-yes (p && q) e))

pub and-true : (a : Bool) → (a && true) ≡ a
and-true true = refl
and-true false = refl

pub and_assoc : (a b c : Bool) → (a && (b && c)) ≡ ((a && b) && c)
and_assoc true b c = refl
and_assoc false b c = refl
