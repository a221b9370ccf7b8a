-- `fill` meets its contract: the slots of the form's row one after another, and then no word more.
use Rattle.spec_policy.specs.Bytes.{Bytes}
use Prim.Native.Nat.{ℕ, ◌+◌, ◌<◌}
use native.Mathlib.Omega.{arith}
use mathlib.Core.Path.{◌≡◌, refl, sym, ap, ap₂, subst, ◌∙◌}
use mathlib.Core.List.{List, [], ◌∷◌}
use lib.Dec.{T}
use lib.ListN.{length, get_or, drop, drop_of_length-le}
use Rattle.std.specs.Prelude.{Option, Some, None}
use Rattle.spec_policy.specs.Lists.{every}
use Rattle.spec_text.specs.Words.{words}
use Rattle.spec_text.specs.Forms.{Fields, Slot, bare}
use Rattle.spec_text.specs.Reading.{filled}
use Rattle.text_words.specs.Scanned.{value_of, word_and}
use Rattle.text_forms.specs.declared.forms.Slot as code
use Rattle.text_forms.specs.Meant.{slot_of, slots_in, slots_of}
use Rattle.text_forms.proofs.SlotLaws.{slot-none, slot-some}
use Rattle.text_line.specs.declared.Filled.{Filled}
use Rattle.text_line.specs.Lines.{fitting, rest, Sound}
use Rattle.text_line.proofs.SlotLaws.{all-fitting, first-fits, later-fit}
use Rattle.text_line.proofs.fill.Goals as goal
use Rattle.text_line.proofs.fill.Goals.{in-Some+in_ok-filled, in_default}

-- the loop goes through slots that are the row's
module _ (os qs : List (Option code.Slot)) (same : os ≡ qs) where
  rest-same : (line : Bytes) (f : Filled) → filled (slots_in os) (words (drop f.at line)) f.fields ≡ rest line (Some f) (slots_in qs)
  unfolding rest
  rest-same line f = ap (λ (l : List (Option code.Slot)). filled (slots_in l) (words (drop f.at line)) f.fields) same

  fits-same : T (every fitting (slots_in os)) → T (every fitting (slots_in qs))
  fits-same h = subst (λ (l : List (Option code.Slot)). T (every fitting (slots_in l))) same h

three : (os : List (Option code.Slot)) (d : Option code.Slot) → length os ≡ 3 → os ≡ get_or os 0 d ∷ get_or os 1 d ∷ get_or os 2 d ∷ []
three [] d h = absurd (omega arith)
three (a ∷ []) d h = absurd (omega arith)
three (a ∷ b ∷ []) d h = absurd (omega arith)
three (a ∷ b ∷ e ∷ []) d h = refl
three (a ∷ b ∷ e ∷ f ∷ os) d h = absurd (omega arith)

pub loop-slot-init : goal.loop-slot-init
unfolding bare slots_of
loop-slot-init c = record {
  sound = record { inside = c.requires.0; six = refl };
  is = ap₂ (λ (ps : List Slot) (k : ℕ). filled ps (words (drop c.args.at c.args.line.now)) (k ∷ 0 ∷ 0 ∷ 0 ∷ 0 ∷ 0 ∷ [])) (sym c.form_at-row.ensures.slots) (sym (c.from.ensures ∙ c.form_at-row.ensures.kind))
      ∙ rest-same c.form_at-row.result.slots _ (grind (arith, three)) c.args.line.now _;
  fits = fits-same c.form_at-row.result.slots _ (grind (arith, three))
      (subst (λ (ps : List Slot). T (every fitting ps)) (sym c.form_at-row.ensures.slots) (all-fitting c.args.form c.requires.1));
}

-- the slot that the loop has come to; which slots the loop goes through is read off what is said of those left, so that no answer names them
some-next : (os : List (Option code.Slot)) (k : ℕ) → T (every fitting (slots_in (drop k os))) → k < length os → (d : Option code.Slot) (p : code.Slot) → get_or os k d ≡ Some p
    → slots_in (drop k os) ≡ slot_of p ∷ slots_in (drop (k + 1) os)
some-next os k fits h d p e = slot-some os k d h p e

none-next : (os : List (Option code.Slot)) (k : ℕ) → T (every fitting (slots_in (drop k os))) → k < length os → (d : Option code.Slot) → get_or os k d ≡ None
    → slots_in (drop k os) ≡ slots_in (drop (k + 1) os)
none-next os k fits h d e = slot-none os k d h e

rest-of : (line : Bytes) (f g : Filled) (ps : List Slot) → f ≡ g → rest line (Some f) ps ≡ rest line (Some g) ps
rest-of line f g ps e = ap (λ (x : Filled). rest line (Some x) ps) e

pub fill_slot-requires : goal.fill_slot-requires
fill_slot-requires c =
    (c.loop-slot.invariant.sound, first-fits _ _ _ (some-next _ c.loop-slot.slot-index c.loop-slot.invariant.fits (omega arith) _ c.in-Some.slot c.in-Some.is) c.loop-slot.invariant.fits)

pub returns-in_err-filled : goal.returns-in_err-filled
unfolding rest value_of
returns-in_err-filled c =
    let f = c.in_err-filled.ensures in
    ap (value_of {A = Fields}) c.from_residual.ensures
    ∙ sym (c.loop-slot.invariant.is ∙ ap (rest c.args.line.now (Some c.loop-slot.filled)) (some-next _ c.loop-slot.slot-index c.loop-slot.invariant.fits (omega arith) _ c.in-Some.slot c.in-Some.is) ∙ f.is _)

pub loop-slot-preserved : goal.loop-slot-preserved
unfolding rest
loop-slot-preserved c =
    elim c.match-slot.branch [
      | in-Some+in_ok-filled w ↦
          let f = w.in_ok-filled.ensures in
          record {
            sound = subst (λ (x : Filled). Sound c.args.line.now x) (sym w.filled-is) f.sound;
            is = c.loop-slot.invariant.is ∙ ap (rest c.args.line.now (Some c.loop-slot.filled)) (some-next _ c.loop-slot.slot-index c.loop-slot.invariant.fits (omega arith) _ w.in-Some.slot w.in-Some.is) ∙ f.is _
                ∙ rest-of _ _ _ _ (sym w.filled-is);
            fits = later-fit _ _ _ (some-next _ c.loop-slot.slot-index c.loop-slot.invariant.fits (omega arith) _ w.in-Some.slot w.in-Some.is) c.loop-slot.invariant.fits;
          }
      | in_default w ↦
          record {
            sound = subst (λ (x : Filled). Sound c.args.line.now x) (sym w.filled-is) c.loop-slot.invariant.sound;
            is = c.loop-slot.invariant.is ∙ ap (rest c.args.line.now (Some c.loop-slot.filled)) (none-next _ c.loop-slot.slot-index c.loop-slot.invariant.fits (omega arith) _ w.in_default.is)
                ∙ rest-of _ _ _ _ (sym w.filled-is);
            fits = subst (λ (ps : List Slot). T (every fitting ps)) (none-next _ c.loop-slot.slot-index c.loop-slot.invariant.fits (omega arith) _ w.in_default.is) c.loop-slot.invariant.fits;
          }
    ]

pub returns-in-Some-next_word : goal.returns-in-Some-next_word
unfolding rest value_of word_and slots_in filled
returns-in-Some-next_word c =
    sym (c.loop-slot.invariant.is
    ∙ ap (λ (os : List (Option code.Slot)). rest c.args.line.now (Some c.loop-slot.filled) (slots_in os)) (drop_of_length-le _ {i = c.loop-slot.slot-index} (omega arith))
    ∙ ap (λ (ws : List Bytes). filled [] ws c.loop-slot.filled.fields) c.in-Some-next_word.ensures.is)

pub returns-in-None : goal.returns-in-None
unfolding rest value_of word_and slots_in filled
returns-in-None c =
    sym (c.loop-slot.invariant.is
    ∙ ap (λ (os : List (Option code.Slot)). rest c.args.line.now (Some c.loop-slot.filled) (slots_in os)) (drop_of_length-le _ {i = c.loop-slot.slot-index} (omega arith))
    ∙ ap (λ (ws : List Bytes). filled [] ws c.loop-slot.filled.fields) c.in-None.ensures.is)
