-- What the code reads of a line.
use Rattle.std.specs.Prelude.{ℕ, ◌≤◌, ◌<◌, ◌≡◌, Bool, ◌&&◌, List, ◌∷◌, Option, Some, None, IfSome, leb, ltb, length, drop, set}
use Rattle.std.proofs.Math.Option as math
use Rattle.spec_policy.specs.Bytes.{Bytes}
use Rattle.spec_text.specs.Words.{words}
use Rattle.spec_text.specs.Forms.{Fields, Slot, number, actions}
use Rattle.spec_text.specs.Reading as text
use Rattle.spec_text.specs.Reading.{nothing, unreadable, entry, filled}
use Rattle.text_words.specs.declared.Taken.{Taken}
use Rattle.text_forms.specs.Table.{form_count, form_at}
use Rattle.text_line.specs.declared.Filled.{Filled}
use Rattle.text_line.specs.declared.Line.{Line}
use Rattle.text_line.specs.declared.Line.TheVariants.{Nothing, Unreadable, Record}

-- a slot that can be read: its place is one of the six, and its number has at most four bytes
unfoldable pub fitting : Slot → Bool
fitting (number i most) = ltb i 6 && leb most 4_294_967_295
fitting (actions i) = ltb i 6

-- what was taken, put into the field at a place
unfoldable pub put_into : Filled → ℕ → Taken → Filled
put_into f i t = record { fields = set f.fields i t.value; at = t.end }

-- what the slots that are left make of the words that are left; nothing, if what was read before them did not fit
unfoldable pub rest : Bytes → Option Filled → List Slot → math.Option Fields
rest line None ps = math.none
rest line (Some f) ps = filled ps (words (drop f.at line)) f.fields

-- What was read so far ends in the line, and has six fields.
pub record Sound (line : Bytes) (f : Filled) : Type 0 where
  pub inside : f.at ≤ length line
  pub six : length f.fields ≡ 6

-- From f on this slot was read, and r is what was read then.
pub record Fills (line : Bytes) (f : Filled) (p : Slot) (r : Option Filled) : Type 0 where
  pub sound : IfSome r (Sound line)
  pub is : (ps : List Slot) → rest line (Some f) (p ∷ ps) ≡ rest line r ps

unfoldable pub line_meant : Line → text.Line
line_meant Nothing = nothing
line_meant Unreadable = unreadable
line_meant (Record form fields) = entry (form_at form) fields

-- a record's form is one of the table
abbrev pub InTable : Line → Type 0
InTable Nothing = Unit {0}
InTable Unreadable = Unit {0}
InTable (Record form fields) = form < form_count
