-- Laws of a row's slots, looked through one after another.
use Prim.Native.Nat.{ℕ, ◌+◌, ◌<◌}
use native.Mathlib.Numerals.{add-one}
use mathlib.Core.Path.{◌≡◌, refl, sym, ap, ◌∙◌}
use mathlib.Core.Bool.{Bool, true, false, ◌&&◌, ◌||◌, and-true, or-false}
use mathlib.Core.List.{List, [], ◌∷◌}
use lib.Dec.{eqb, leb}
use lib.ListN.{length, get_or, drop}
use lib.Seq.{drop-cons}
use Rattle.std.specs.Prelude.{Option, Some, None}
use Rattle.spec_policy.specs.Lists.{every}
use Rattle.spec_text.specs.Forms.{Fields, place, bound}
use Rattle.text_forms.specs.declared.forms.Slot as code
use Rattle.text_forms.specs.Meant.{slot_of, slots_in}
use Rattle.text_forms.specs.Whole.{names, fit}

module _ (os : List (Option code.Slot)) (k : ℕ) (d : Option code.Slot) (h : k < length os) where
  pub next-slot : drop k os ≡ get_or os k d ∷ drop (k + 1) os
  next-slot = drop-cons os k d h ∙ ap (λ (n : ℕ). get_or os k d ∷ drop n os) (sym (add-one k))

  pub slot-none : get_or os k d ≡ None → slots_in (drop k os) ≡ slots_in (drop (k + 1) os)
  unfolding slots_in
  slot-none e = ap slots_in next-slot ∙ ap (λ (o : Option code.Slot). slots_in (o ∷ drop (k + 1) os)) e

  pub slot-some : (p : code.Slot) → get_or os k d ≡ Some p → slots_in (drop k os) ≡ slot_of p ∷ slots_in (drop (k + 1) os)
  unfolding slots_in
  slot-some p e = ap slots_in next-slot ∙ ap (λ (o : Option code.Slot). slots_in (o ∷ drop (k + 1) os)) e

-- ---- one slot

pub named-one : (o : Option code.Slot) (p : code.Slot) (i : ℕ) → o ≡ Some p → eqb (place (slot_of p)) i ≡ names (slots_in (o ∷ [])) i
unfolding names slots_in
named-one o p i e = sym (ap (λ (x : Option code.Slot). names (slots_in (x ∷ [])) i) e ∙ or-false (eqb (place (slot_of p)) i))

pub named-none : (o : Option code.Slot) (i : ℕ) → o ≡ None → false ≡ names (slots_in (o ∷ [])) i
unfolding names slots_in
named-none o i e = sym (ap (λ (x : Option code.Slot). names (slots_in (x ∷ [])) i) e)

pub fit-one : (o : Option code.Slot) (p : code.Slot) (xs : Fields) → o ≡ Some p → leb (get_or xs (place (slot_of p)) 0) (bound (slot_of p)) ≡ fit (slots_in (o ∷ [])) xs
unfolding fit every slots_in
fit-one o p xs e = sym (ap (λ (x : Option code.Slot). fit (slots_in (x ∷ [])) xs) e ∙ and-true (leb (get_or xs (place (slot_of p)) 0) (bound (slot_of p))))

pub fit-none : (o : Option code.Slot) (xs : Fields) → o ≡ None → true ≡ fit (slots_in (o ∷ [])) xs
unfolding fit every slots_in
fit-none o xs e = sym (ap (λ (x : Option code.Slot). fit (slots_in (x ∷ [])) xs) e)

-- ---- one slot, and those after it

names-first : (o : Option code.Slot) (os : List (Option code.Slot)) (i : ℕ) → names (slots_in (o ∷ os)) i ≡ (names (slots_in (o ∷ [])) i || names (slots_in os) i)
unfolding names slots_in
names-first None os i = refl
names-first (Some p) os i = ap (λ (b : Bool). b || names (slots_in os) i) (sym (or-false (eqb (place (slot_of p)) i)))

fit-first : (o : Option code.Slot) (os : List (Option code.Slot)) (xs : Fields) → fit (slots_in (o ∷ os)) xs ≡ (fit (slots_in (o ∷ [])) xs && fit (slots_in os) xs)
unfolding fit every slots_in
fit-first None os xs = refl
fit-first (Some p) os xs = ap (λ (b : Bool). b && fit (slots_in os) xs) (sym (and-true (leb (get_or xs (place (slot_of p)) 0) (bound (slot_of p)))))

module _ (os : List (Option code.Slot)) (k : ℕ) (d : Option code.Slot) (h : k < length os) where
  pub names-next : (i : ℕ) {b : Bool} → names (slots_in (get_or os k d ∷ [])) i ≡ b → names (slots_in (drop k os)) i ≡ (b || names (slots_in (drop (k + 1) os)) i)
  names-next i e =
      ap (λ (l : List (Option code.Slot)). names (slots_in l) i) (next-slot os k d h) ∙ names-first (get_or os k d) (drop (k + 1) os) i
      ∙ ap (λ (x : Bool). x || names (slots_in (drop (k + 1) os)) i) e

  pub fit-next : (xs : Fields) {b : Bool} → fit (slots_in (get_or os k d ∷ [])) xs ≡ b → fit (slots_in (drop k os)) xs ≡ (b && fit (slots_in (drop (k + 1) os)) xs)
  fit-next xs e =
      ap (λ (l : List (Option code.Slot)). fit (slots_in l) xs) (next-slot os k d h) ∙ fit-first (get_or os k d) (drop (k + 1) os) xs
      ∙ ap (λ (x : Bool). x && fit (slots_in (drop (k + 1) os)) xs) e
