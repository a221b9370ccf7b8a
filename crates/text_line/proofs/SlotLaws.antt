-- Laws of a line's fields, filled slot by slot.
use Prim.Native.Nat.{ℕ, ◌≤◌, ◌<◌}
use mathlib.Core.Path.{◌≡◌, refl, sym, ◌∙◌, subst}
use mathlib.Core.List.{List, [], ◌∷◌}
use lib.Dec.{T, leb, ltb, leb→le, ltb→lt}
use lib.ListN.{length, drop, length-set}
use Rattle.actions.proofs.Tests.{and_left, and_right}
use Rattle.spec_policy.specs.Bytes.{Bytes}
use Rattle.spec_policy.specs.Lists.{every, listed}
use Rattle.spec_text.specs.Words.{words}
use Rattle.spec_text.specs.Forms.{Slot, number, actions, place, forms}
use Rattle.spec_text.specs.Reading.{took, untaken, taken, filled}
use Rattle.std.specs.Prelude.{Some, None}
use Rattle.text_words.specs.declared.Taken.{Taken}
use Rattle.text_forms.specs.Table.{form_count, no_form, form_at}
use Rattle.text_forms.proofs.TableLaws.{tested_at}
use Rattle.text_line.specs.declared.Filled.{Filled}
use Rattle.text_line.specs.Lines.{fitting, put_into, rest, Fills}

-- ---- every slot of the table can be read

pub all-fitting : (form : ℕ) → form < form_count → T (every fitting (form_at form).slots)
unfolding listed every fitting form_at no_form forms
all-fitting form h = tested_at (λ i. every fitting (form_at i).slots) form_count tt form h

pub first-fits : (qs : List Slot) (p : Slot) (ps : List Slot) → qs ≡ p ∷ ps → T (every fitting qs) → T (fitting p)
unfolding every
first-fits qs p ps e h = and_left (fitting p) (every fitting ps) (subst (λ (rs : List Slot). T (every fitting rs)) e h)

pub later-fit : (qs : List Slot) (p : Slot) (ps : List Slot) → qs ≡ p ∷ ps → T (every fitting qs) → T (every fitting ps)
unfolding every
later-fit qs p ps e h = and_right (fitting p) (every fitting ps) (subst (λ (rs : List Slot). T (every fitting rs)) e h)

pub number_fits : (i most : ℕ) → T (fitting (number i most)) → (i < 6) × (most ≤ 4_294_967_295)
unfolding fitting
number_fits i most h =
    let a = ltb i 6 in
    let b = leb most 4_294_967_295 in
    (ltb→lt i 6 (and_left a b h), leb→le most 4_294_967_295 (and_right a b h))

pub actions-fit : (i : ℕ) → T (fitting (actions i)) → i < 6
unfolding fitting
actions-fit i h = ltb→lt i 6 h

-- ---- one slot

-- what a slot takes does not depend on its place
pub taken-number : (i k most : ℕ) (ws : List Bytes) → taken (number i most) ws ≡ taken (number k most) ws
unfolding taken
taken-number i k most [] = refl
taken-number i k most (w ∷ ws) = refl

pub taken-actions : (i k : ℕ) (ws : List Bytes) → taken (actions i) ws ≡ taken (actions k) ws
unfolding taken
taken-actions i k [] = refl
taken-actions i k (w ∷ ws) = refl

module _ (line : Bytes) (f : Filled) (p : Slot) where
  pub fills-none : untaken ≡ taken p (words (drop f.at line)) → Fills line f p None
  unfolding rest filled
  fills-none e = record { sound = tt; is = λ ps. rw (rest, filled, sym e) }

  pub fills_one : length f.fields ≡ 6 → (t : Taken) → took t.value (words (drop t.end line)) ≡ taken p (words (drop f.at line)) → t.end ≤ length line
      → Fills line f p (Some (put_into f (place p) t))
  unfolding put_into rest filled
  fills_one six t e h = record {
    sound = record { inside = h; six = length-set f.fields (place p) t.value ∙ six };
    is = λ ps. rw (rest, filled, sym e);
  }
