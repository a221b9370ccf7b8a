-- What a text is read as: the node records and the step records, or the first line that cannot be read.
use Rattle.std.specs.Prelude.{ℕ, zero, suc, true, false, List, [], ◌∷◌, ◌++◌, map, set}
use Rattle.std.proofs.Math.Option.{Option, none, some}
use Rattle.actions.specs.Sets.{ActionSet, EMPTY, single, union}
use Rattle.spec_policy.specs.Bytes.{Bytes}
use Rattle.spec_text.specs.Words.{ascii, same_bytes, lines, words}
use Rattle.spec_text.specs.Numerals.{numeral}
use Rattle.spec_text.specs.Forms.{node, step, Fields, record_of, Slot, number, actions, place, Form, named, bare}

-- A value taken from the front of a line's words, and the words that are left.
pub data Taken : Type 0 where
  took : (value : ℕ) (rest : List Bytes) → Taken
  untaken : Taken

unfoldable pub took_if : Option ℕ → List Bytes → Taken
took_if none ws = untaken
took_if (some v) ws = took v ws

-- the set of the actions listed up to the closing brace, in any order and as often as one likes, joined to s
unfoldable pub members : ActionSet → List Bytes → Taken
members s [] = untaken
members s (w ∷ ws) = elim (same_bytes w (ascii "}")) [
  | true ↦ took s ws
  | false ↦ elim (numeral 63 w) [ none ↦ untaken | some a ↦ members (union s (single a)) ws ]
]

unfoldable pub taken : Slot → List Bytes → Taken
taken p [] = untaken
taken (number i most) (w ∷ ws) = took_if (numeral most w) ws
taken (actions i) (w ∷ ws) = elim (same_bytes w (ascii "{")) [ true ↦ members EMPTY ws | false ↦ untaken ]

-- the fields with what the words say put into their places: each slot's, and no word more
unfoldable pub filled : List Slot → List Bytes → Fields → Option Fields
filled [] [] xs = some xs
filled [] (w ∷ ws) xs = none
filled (p ∷ ps) ws xs = elim (taken p ws) [ untaken ↦ none | took v rest ↦ filled ps rest (set xs (place p) v) ]

-- What a line is read as.
pub data Line : Type 0 where
  nothing unreadable : Line
  entry : (form : Form) (fields : Fields) → Line

unfoldable pub entry_if : Form → Option Fields → Line
entry_if f none = unreadable
entry_if f (some xs) = entry f xs

unfoldable pub line_of : List Bytes → Line
line_of [] = nothing
line_of (w ∷ ws) = elim (named w) [ none ↦ unreadable | some f ↦ entry_if f (filled f.slots ws (bare f)) ]

unfoldable pub read_lines : Bytes → List Line
read_lines text = map (λ l. line_of (words l)) (lines text)

-- What lines are read as: the steps that stand before the first node, and the records; or the number of the first line that is wrong.
pub data Found : Type 0 where
  found : (lead : ℕ) (nodes steps : Bytes) → Found
  wrong : (line : ℕ) → Found

-- a node before what follows it: it counts the steps up to the next node
unfoldable pub with_node : Fields → Found → Found
with_node xs (found k ns ss) = found 0 (record_of node k xs ++ ns) ss
with_node xs (wrong n) = wrong n

unfoldable pub with_step : Fields → Found → Found
with_step xs (found k ns ss) = found (suc k) ns (record_of step 0 xs ++ ss)
with_step xs (wrong n) = wrong n

-- The lines from number n on, where `room` more steps may follow before the next node. So a step that follows no leaf is wrong, and so is
-- a leaf's 256th.
unfoldable pub read_from : ℕ → ℕ → List Line → Found
read_from room n [] = found 0 [] []
read_from room n (nothing ∷ ls) = read_from room (suc n) ls
read_from room n (unreadable ∷ ls) = wrong n
read_from room n (entry f xs ∷ ls) = elim f.sort [
  | node ↦ with_node xs (read_from f.room (suc n) ls)
  | step ↦ elim room [ zero ↦ wrong n | suc r ↦ with_step xs (read_from r (suc n) ls) ]
]

-- What a text is read as.
pub data Read : Type 0 where
  records : (nodes steps : Bytes) → Read
  bad_line : (line : ℕ) → Read

unfoldable pub answer : Found → Read
answer (found k ns ss) = records ns ss
answer (wrong n) = bad_line n

-- lines are numbered from 1
unfoldable pub read_text : Bytes → Read
read_text text = answer (read_from 0 1 (read_lines text))
