-- Laws of what is taken from the front of a line's words.
use Prim.Native.Nat.{ℕ, ◌+◌, ◌-◌, ◌*◌, ◌≤◌}
use native.Mathlib.Omega.{arith}
use mathlib.Core.Path.{◌≡◌, refl, sym, ap, ◌∙◌}
use mathlib.Core.Bool.{Bool, true, false, ◌&&◌}
use mathlib.Core.List.{List, [], ◌∷◌}
use mathlib.Core.Option.{Option, none, some}
use lib.Dec.{eqb, leb, leb→le}
use lib.Pointwise.{pointwise}
use Rattle.actions.specs.Sets.{ActionSet, EMPTY, single, union}
use Rattle.actions.proofs.Tests.{and_right, of-yes}
use Rattle.spec_policy.specs.Bytes.{Bytes}
use Rattle.spec_text.specs.Words.{ascii, same_bytes}
use Rattle.spec_text.specs.Numerals.{number_from, numeral}
use Rattle.spec_text.specs.Forms.{number, actions}
use Rattle.spec_text.specs.Reading.{took, untaken, took_if, members, taken}

-- ---- words that are the same

pub same-pointwise : (a b : Bytes) → pointwise eqb a b ≡ same_bytes a b
unfolding same_bytes
same-pointwise [] [] = refl
same-pointwise [] (y ∷ ys) = refl
same-pointwise (x ∷ xs) [] = refl
same-pointwise (x ∷ xs) (y ∷ ys) = ap (λ (b : Bool). eqb x y && b) (same-pointwise xs ys)

pub same_as : (w v : Bytes) {u : Bytes} {b : Bool} → b ≡ pointwise eqb w v → v ≡ u → same_bytes w u ≡ b
same_as w v {u} e q = sym (e ∙ ap (pointwise eqb w) q ∙ same-pointwise w u)

-- ---- a number is at most what it may be

number_bound : (most n : ℕ) (w : Bytes) (v : ℕ) → n ≤ most → number_from most n w ≡ some v → v ≤ most
unfolding number_from
number_bound most n [] v h e = let q : n ≡ v = cc in omega arith
number_bound most n (b ∷ bs) v h e = go (leb 48 b && leb b 57 && leb m most) refl (number_bound most m bs v)
  where
    m : ℕ
    m = n * 10 + (b - 48)

    go : (p : Bool) → (leb 48 b && leb b 57 && leb m most) ≡ p → (m ≤ most → number_from most m bs ≡ some v → v ≤ most) → v ≤ most
    go true t r = r (leb→le m most (and_right (leb 48 b && leb b 57) (leb m most) (of-yes (leb 48 b && leb b 57 && leb m most) t))) (rw (number_from, t) at e)
    go false t r = let u : none ≡ some v = rw (number_from, t) at e in let z : ◌≡◌ {A = ℕ} 0 1 = cc in absurd (omega arith)

pub numeral-bound : (most : ℕ) (w : Bytes) (v : ℕ) → numeral most w ≡ some v → v ≤ most
unfolding numeral
numeral-bound most w v e = number_bound most 0 w v (omega arith) e

-- ---- a number

pub number_none : (most : ℕ) (us : List Bytes) → us ≡ [] → taken (number 0 most) us ≡ untaken
unfolding taken
number_none most us e = ap (taken (number 0 most)) e

pub number-read : (most : ℕ) (us : List Bytes) (w : Bytes) (ws : List Bytes) {o : Option ℕ} → us ≡ w ∷ ws → o ≡ numeral most w → taken (number 0 most) us ≡ took_if o ws
unfolding taken
number-read most us w ws first e = ap (taken (number 0 most)) first ∙ ap (λ (x : Option ℕ). took_if x ws) (sym e)

-- ---- the actions of a set, one word after another

pub members-none : (s : ActionSet) (ws : List Bytes) → ws ≡ [] → members s ws ≡ untaken
unfolding members
members-none s ws e = ap (members s) e

module _ (s : ActionSet) (w : Bytes) (ws us : List Bytes) (first : us ≡ w ∷ ws) where
  pub members-end : same_bytes w (125 ∷ []) ≡ true → members s us ≡ took s ws
  unfolding members ascii
  members-end e = ap (members s) first ∙ rw (members, e)

  module _ (no : same_bytes w (125 ∷ []) ≡ false) where
    pub members-bad : numeral 63 w ≡ none → members s us ≡ untaken
    unfolding members ascii
    members-bad e = ap (members s) first ∙ rw (members, no, e)

    pub members-more : (a : ℕ) → numeral 63 w ≡ some a → members s us ≡ members (union s (single a)) ws
    unfolding members ascii
    members-more a e = ap (members s) first ∙ rw (members, no, e)

-- ---- a set

module _ (us : List Bytes) where
  pub set-none : us ≡ [] → taken (actions 0) us ≡ untaken
  unfolding taken
  set-none e = ap (taken (actions 0)) e

  module _ (w : Bytes) (ws : List Bytes) (first : us ≡ w ∷ ws) where
    pub set-open : same_bytes w (123 ∷ []) ≡ true → taken (actions 0) us ≡ members EMPTY ws
    unfolding taken ascii
    set-open e = ap (taken (actions 0)) first ∙ rw (taken, e)

    pub set-bad : same_bytes w (123 ∷ []) ≡ false → taken (actions 0) us ≡ untaken
    unfolding taken ascii
    set-bad e = ap (taken (actions 0)) first ∙ rw (taken, e)
