-- What a line says: its arguments, a record's bytes, and which of the two a record is shown by.
use Prim.Native.Nat.{ℕ, ◌+◌, ◌≤◌, ◌<◌}
use native.Mathlib.Numerals.{add-one}
use mathlib.Core.Path.{◌≡◌, sym, ap}
use mathlib.Core.Bool.{true, false}
use mathlib.Core.List.{List, [], ◌∷◌, ◌++◌}
use mathlib.Core.Option.{none, some}
use Rattle.std.specs.Prelude.{Option}
use Rattle.text_forms.specs.declared.forms.Slot as code
use Rattle.text_forms.specs.Meant.{slots_in}
use lib.ListN.{length, get_or, drop, drop_of_length-le}
use lib.Seq.{drop-cons}
use Rattle.spec_policy.specs.Bytes.{Bytes}
use Rattle.spec_text.specs.Words.{newline, space}
use Rattle.spec_text.specs.Numerals.{decimal}
use Rattle.spec_text.specs.Forms.{Sort, Fields, fields_in, Slot, place, Form, of_kind}
use Rattle.spec_text.specs.Printing.{arguments, argument, line_text, says, printed_if, record_text, parted, bytes_text, shown_record}

-- ---- arguments

pub arguments_more : (ps qs : List Slot) (p : Slot) (xs : Fields) → ps ≡ p ∷ qs → argument p (get_or xs (place p) 0) ++ arguments qs xs ≡ arguments ps xs
unfolding arguments
arguments_more ps qs p xs e = sym (ap (λ (l : List Slot). arguments l xs) e)

pub arguments-over : (os : List (Option code.Slot)) (k : ℕ) (xs : Fields) → length os ≤ k → [] ≡ arguments (slots_in (drop k os)) xs
unfolding arguments slots_in
arguments-over os k xs h = ap (λ (l : List (Option code.Slot)). arguments (slots_in l) xs) (sym (drop_of_length-le os {i = k} h))

-- ---- bytes, the i-th and those after it

pub parted-next : (bs : Bytes) (i : ℕ) → i < length bs → (space ∷ decimal (get_or bs i 0)) ++ parted (drop (i + 1) bs) ≡ parted (drop i bs)
unfolding parted
parted-next bs i h = rw (add-one, drop-cons bs i 0)

pub parted-over : (bs : Bytes) (i : ℕ) → length bs ≤ i → [] ≡ parted (drop i bs)
unfolding parted
parted-over bs i h = ap parted (sym (drop_of_length-le bs {i = i} h))

-- ---- a record

module _ (s : Sort) (i : ℕ) (bs : Bytes) where
  pub record-unknown : of_kind s (get_or bs 0 0) ≡ none → bytes_text s i bs ≡ shown_record s i bs
  unfolding shown_record record_text
  record-unknown h = rw (shown_record, record_text, h)

  module _ (f : Form) (h : of_kind s (get_or bs 0 0) ≡ some f) where
    pub record-told : says s f bs ≡ true → line_text s f (fields_in s bs) i ++ (newline ∷ []) ≡ shown_record s i bs
    unfolding shown_record record_text printed_if
    record-told e = rw (shown_record, record_text, h, e)

    pub record-untold : says s f bs ≡ false → bytes_text s i bs ≡ shown_record s i bs
    unfolding shown_record record_text printed_if
    record-untold e = rw (shown_record, record_text, h, e)
