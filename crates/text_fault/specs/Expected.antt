-- What is said of a text that cannot be read: the line, and what was expected in it.
use Rattle.std.specs.Prelude.{ℕ, zero, suc, ◌-◌, List, [], ◌∷◌, ◌++◌, take, get_or}
use Rattle.std.proofs.Math.Option.{Option, none, some}
use Rattle.spec_policy.specs.Bytes.{Bytes}
use Rattle.spec_text.specs.Words.{ascii, lines, words}
use Rattle.spec_text.specs.Numerals.{decimal}
use Rattle.spec_text.specs.Forms.{node, step, Form, named}
use Rattle.spec_text.specs.Reading.{Line, nothing, unreadable, entry, line_of, read_lines}
use Rattle.text_forms.specs.Usage.{usage}

-- a line in place of a file
unfoldable pub heading : ℕ → Bytes
heading n = ascii "line " ++ (decimal n ++ ascii ": ")

unfoldable pub line_says : ℕ → Bytes → Bytes
line_says n what = heading n ++ (what ++ ascii "\n")

-- ---- what was expected in a line

-- by the form of its first word
unfoldable pub expected : Option Form → Bytes
expected (some f) = usage f
expected none = ascii "leaf, trivial, unsatisfiable, and, seq-and, or, seq-or, next, ok, sup, ins, acase, spend, end or halt"

unfoldable pub first_word : List Bytes → Bytes
first_word [] = []
first_word (w ∷ ws) = w

-- a step that could be read: the room of the node before it was none, or was used up
unfoldable pub astray : ℕ → Bytes
astray zero = ascii "a leaf before its steps"
astray (suc r) = ascii "at most 255 steps"

unfoldable pub fault : Line → List Bytes → ℕ → Bytes
fault nothing ws room = []
fault unreadable ws room = expected (named (first_word ws))
fault (entry f xs) ws room = astray room

-- how many steps may follow the last node of these lines; `room` if there is none
unfoldable pub room_after : ℕ → List Line → ℕ
room_after room [] = room
room_after room (nothing ∷ ls) = room_after room ls
room_after room (unreadable ∷ ls) = room_after room ls
room_after room (entry f xs ∷ ls) = elim f.sort [ node ↦ room_after f.room ls | step ↦ room_after room ls ]

unfoldable pub room_before : Bytes → ℕ → ℕ
room_before text n = room_after 0 (take (n - 1) (read_lines text))

unfoldable pub line_number : Bytes → ℕ → Bytes
line_number text n = get_or (lines text) (n - 1) []

-- in line n of the text, where that is the first that cannot be read
unfoldable pub fault_in : Bytes → ℕ → Bytes
fault_in text n = let ws = words (line_number text n) in fault (line_of ws) ws (room_before text n)
