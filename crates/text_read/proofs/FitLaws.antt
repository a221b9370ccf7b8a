-- The first four fields of a line that was read are bytes.
use Prim.Native.Nat.{ℕ, zero, suc, ◌-◌, ◌^◌, ◌≤◌, ◌<◌}
use native.Mathlib.Omega.{arith}
use mathlib.Core.Path.{◌≡◌, refl, ap, subst}
use mathlib.Core.Logic.{◌⊎◌, inl, inr, ⊎_elim}
use mathlib.Core.Bool.{Bool, ◌&&◌, ◌||◌}
use mathlib.Core.List.{List, [], ◌∷◌}
use mathlib.Core.Option.{Option, none, some}
use lib.Dec.{T, leb, ltb, leb→le, ltb→lt}
use lib.ListN.{get_or, set}
use Rattle.actions.proofs.Tests.{and_left, and_right, or_cases}
use Rattle.spec_policy.specs.Bytes.{Bytes}
use Rattle.spec_policy.specs.Lists.{every, listed}
use Rattle.spec_text.specs.Numerals.{numeral}
use Rattle.spec_text.specs.Forms.{Fields, Slot, number, actions, place, bound, Form, forms, named, bare}
use Rattle.spec_text.specs.Reading.{Taken, took, untaken, took_if, taken, filled, unreadable, entry, entry_if, line_of}
use Rattle.text_words.proofs.TakenLaws.{numeral-bound}
use Rattle.text_forms.specs.Table.{form_count, no_form, form_at}
use Rattle.text_forms.proofs.TableLaws.{tested_at}
use Rattle.text_line.specs.declared.Line as code
use Rattle.text_line.specs.declared.Line.TheVariants.{Nothing, Unreadable, Record}
use Rattle.text_line.specs.Lines.{line_meant, InTable}
use Rattle.text_read.specs.Written.{BytesFirst}

-- the first four fields are bytes
abbrev pub BytesFit : Fields → Type 0
BytesFit xs = (i : ℕ) → i ≤ 3 → get_or xs i 0 ≤ 255

set_cases : (xs : Fields) (p v i : ℕ) → (get_or (set xs p v) i 0 ≡ get_or xs i 0) ⊎ ((i ≡ p) × (get_or (set xs p v) i 0 ≡ v))
set_cases [] p v i = inl refl
set_cases (x ∷ xs) zero v zero = inr (refl, refl)
set_cases (x ∷ xs) zero v (suc i) = inl refl
set_cases (x ∷ xs) (suc p) v zero = inl refl
set_cases (x ∷ xs) (suc p) v (suc i) = ⊎_elim (λ e. inl e) (λ e. inr (ap suc e.0, e.1)) (set_cases xs p v i)

set-fits : (xs : Fields) (p v : ℕ) → BytesFit xs → (p ≤ 3 → v ≤ 255) → BytesFit (set xs p v)
set-fits xs p v h k i l =
    ⊎_elim (λ e. omega (arith, e, h i l)) (λ e. omega (arith, e.1, k (omega (arith, e.0)))) (set_cases xs p v i)

-- a slot of one of these fields holds a byte
slot_fits : Slot → Bool
slot_fits p = ltb 3 (place p) || leb (bound p) 255

taken-fits : (p : Slot) (ws : List Bytes) (v : ℕ) (rest : List Bytes) → T (slot_fits p) → taken p ws ≡ took v rest → place p ≤ 3 → v ≤ 255
unfolding slot_fits taken took_if place bound
taken-fits p [] v rest t e l = let z : ◌≡◌ {A = ℕ} 0 1 = cc in absurd (omega arith)
taken-fits (number i most) (w ∷ ws) v rest t e l =
    ⊎_elim (λ u. absurd (omega (arith, ltb→lt 3 i u))) (λ u. omega (arith, leb→le most 255 u, go (numeral most w) refl e)) (or_cases (ltb 3 i) (leb most 255) t)
  where
    go : (o : Option ℕ) → numeral most w ≡ o → took_if o ws ≡ took v rest → v ≤ most
    go none q h = let z : ◌≡◌ {A = ℕ} 0 1 = cc in absurd (omega arith)
    go (some x) q h = let s : x ≡ v = cc in omega (arith, numeral-bound most w x q)
taken-fits (actions i) (w ∷ ws) v rest t e l =
    ⊎_elim (λ u. absurd (omega (arith, ltb→lt 3 i u))) (λ u. absurd (omega (arith, leb→le (2 ^ 64 - 1) 255 u))) (or_cases (ltb 3 i) (leb (2 ^ 64 - 1) 255) t)

filled-fits : (ps : List Slot) (ws : List Bytes) (xs ys : Fields) → T (every slot_fits ps) → BytesFit xs → filled ps ws xs ≡ some ys → BytesFit ys
unfolding filled every
filled-fits [] [] xs ys t h e = let q : xs ≡ ys = cc in subst BytesFit q h
filled-fits [] (w ∷ ws) xs ys t h e = let z : ◌≡◌ {A = ℕ} 0 1 = cc in absurd (omega arith)
filled-fits (p ∷ ps) ws xs ys t h e =
    go (taken p ws) refl (λ v rest. filled-fits ps rest (set xs (place p) v) ys (and_right (slot_fits p) (every slot_fits ps) t))
  where
    go : (o : Taken) → taken p ws ≡ o
        → ((v : ℕ) (rest : List Bytes) → BytesFit (set xs (place p) v) → filled ps rest (set xs (place p) v) ≡ some ys → BytesFit ys) → BytesFit ys
    go untaken q ih = let u : none ≡ some ys = rw (filled, q) at e in let z : ◌≡◌ {A = ℕ} 0 1 = cc in absurd (omega arith)
    go (took v rest) q ih =
        ih v rest (set-fits xs (place p) v h (taken-fits p ws v rest (and_left (slot_fits p) (every slot_fits ps) t) q)) (rw (filled, q) at e)

-- ---- a line

-- of every form
form_fits : Form → Bool
form_fits f = leb f.kind 255 && every slot_fits f.slots

bare-fits : (f : Form) → f.kind ≤ 255 → BytesFit (bare f)
unfolding bare
bare-fits f h zero l = h
bare-fits f h (suc zero) l = omega arith
bare-fits f h (suc (suc zero)) l = omega arith
bare-fits f h (suc (suc (suc zero))) l = omega arith
bare-fits f h (suc (suc (suc (suc i)))) l = absurd (omega arith)

form-fits : (form : ℕ) → form < form_count → T (form_fits (form_at form))
unfolding form_fits slot_fits listed every place bound form_at no_form forms
form-fits form h = tested_at (λ i. form_fits (form_at i)) form_count tt form h

module _ (form : ℕ) (fields : Fields) (h : form < form_count) where
  read_fits : (f : Form) (us : List Bytes) (o : Option Fields) → filled f.slots us (bare f) ≡ o → entry_if f o ≡ entry (form_at form) fields → BytesFit fields
  unfolding entry_if form_fits
  read_fits f us none q e = let z : ◌≡◌ {A = ℕ} 0 1 = cc in absurd (omega arith)
  read_fits f us (some ys) q e =
      let p : ys ≡ fields = cc in
      let r : form_at form ≡ f = cc in
      let t : T (form_fits f) = subst (λ (g : Form). T (form_fits g)) r (form-fits form h) in
      let a = leb f.kind 255 in
      let b = every slot_fits f.slots in
      subst BytesFit p (filled-fits f.slots us (bare f) ys (and_right a b t) (bare-fits f (leb→le f.kind 255 (and_left a b t))) q)

  entry-fits : (ws : List Bytes) → line_of ws ≡ entry (form_at form) fields → BytesFit fields
  unfolding line_of
  entry-fits [] e = let z : ◌≡◌ {A = ℕ} 0 1 = cc in absurd (omega arith)
  entry-fits (w ∷ ws) e = go (named w) refl
    where
      go : (o : Option Form) → named w ≡ o → BytesFit fields
      go none q = let u : unreadable ≡ entry (form_at form) fields = rw (line_of, q) at e in let z : ◌≡◌ {A = ℕ} 0 1 = cc in absurd (omega arith)
      go (some f) q = read_fits f ws (filled f.slots ws (bare f)) refl (rw (line_of, q) at e)

-- whatever words it was read from
pub line-fits : (line : code.Line) → InTable line → (ws : List Bytes) → line_of ws ≡ line_meant line → BytesFirst line
unfolding line_meant
line-fits Nothing h ws is = tt
line-fits Unreadable h ws is = tt
line-fits (Record form fields) h ws is = entry-fits form fields h ws is
