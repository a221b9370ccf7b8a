-- Laws of what was expected in a line.
use Prim.Native.Nat.{ℕ, zero, suc, ◌+◌, ◌≤◌, ◌<◌}
use native.Mathlib.Omega.{arith}
use mathlib.Core.Path.{◌≡◌, refl, sym, ap₂}
use mathlib.Core.Bool.{Bool}
use mathlib.Core.List.{List}
use mathlib.Core.Option.{Option, none, some}
use lib.Dec.{leb, leb→le, lit≤}
use lib.ListN.{length, length-append}
use Rattle.spec_policy.specs.Bytes.{Bytes}
use Rattle.spec_policy.specs.Lists.{every}
use Rattle.spec_text.specs.Words.{ascii, same_bytes, words}
use Rattle.spec_text.specs.Forms.{Form, forms, named}
use Rattle.spec_text.specs.Reading.{Line, nothing, unreadable, entry, line_of}
use Rattle.spec_text.proofs.TableLaws.{first_passes}
use Rattle.text_forms.specs.Usage.{usages, usage}
use Rattle.text_append.proofs.AddedLaws.{decimal-below}
use Rattle.text_fault.specs.Expected.{heading, line_says, expected, first_word, astray, fault, room_before, line_number, fault_in}

pub astray-none : (room : ℕ) → room ≡ 0 → ascii "a leaf before its steps" ≡ astray room
unfolding astray
astray-none zero e = refl
astray-none (suc r) e = absurd (omega arith)

pub astray-full : (room : ℕ) → (room ≡ 0 → ⊥) → ascii "at most 255 steps" ≡ astray room
unfolding astray
astray-full zero n = absurd (n refl)
astray-full (suc r) n = refl

pub fault-in : (text : Bytes) (n : ℕ) (line : Bytes) (room : ℕ) → line_number text n ≡ line → room ≡ room_before text n → fault (line_of (words line)) (words line) room ≡ fault_in text n
unfolding fault_in
fault-in text n line room e f = sym (ap₂ (λ (l : Bytes) (r : ℕ). fault (line_of (words l)) (words l) r) e (sym f))

-- ---- how long they are

abbrev short : Form → Bool
short f = leb (length (usage f)) 101

named-short : (w : Bytes) (o : Option Form) → named w ≡ o → length (expected o) ≤ 101
unfolding expected named every forms usage usages ascii
named-short w none e = lit≤ tt
named-short w (some f) e = leb→le (length (usage f)) 101 (first_passes (λ g. same_bytes (ascii g.name) w) short f forms tt e)

fault-short : (l : Line) (ws : List Bytes) (room : ℕ) → length (fault l ws room) ≤ 101
unfolding fault astray ascii
fault-short nothing ws room = lit≤ tt
fault-short unreadable ws room = named-short (first_word ws) (named (first_word ws)) refl
fault-short (entry f xs) ws zero = lit≤ tt
fault-short (entry f xs) ws (suc r) = lit≤ tt

-- of a number of the machine, which has at most 20 digits
pub says-short : (n : ℕ) (what : Bytes) → n < 18_446_744_073_709_551_616 → length (line_says n what) ≤ 28 + length what
unfolding line_says heading ascii
says-short n what h = simp length-append (omega (arith, decimal-below 19 n (omega arith)))

pub fault-in-short : (text : Bytes) (n : ℕ) → length (fault_in text n) ≤ 101
unfolding fault_in
fault-in-short text n = fault-short (line_of (words (line_number text n))) (words (line_number text n)) (room_before text n)
