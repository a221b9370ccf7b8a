-- Which record a refusal is about: in words, and by the line of a text that the record is read from. (02, request 03)
use Rattle.std.specs.Prelude.{ℕ, zero, suc, ◌+◌, ◌-◌, ◌*◌, ◌/◌, ◌≤◌, ◌<◌, ◌≡◌, Bool, true, false, ◌&&◌, List, [], ◌∷◌, ◌++◌, eqb, leb, ltb, length, get_or, take, drop}
use Rattle.spec_policy.specs.Bytes.{Bytes}
use Rattle.spec_policy.specs.Lists.{listed, one}
use Rattle.spec_policy.specs.Records.{Node, node_at, node_size}
use Rattle.spec_policy.specs.Spots.{Spot, nowhere, on_record, Fault}
use Rattle.spec_text.specs.Words.{ascii, lines, words}
use Rattle.spec_text.specs.Numerals.{decimal}
use Rattle.spec_text.specs.Forms.{Sort, node, step, same_sort, size, Fields, record_of, Form}
use Rattle.spec_text.specs.Printing.{count_in}
use Rattle.spec_text.specs.Reading.{Line, nothing, unreadable, entry, line_of, read_lines}

-- ---- which record

-- A record by its number: a node, or a step, "numbered over the whole file".
pub data Which : Type 0 where
  no_record : Which
  aRecord : (sort : Sort) (number : ℕ) → Which

-- "for 4, nodes come before steps, and step i counts as n + i"
unfoldable pub node_or_step : ℕ → ℕ → Which
node_or_step n p = elim (ltb p n) [ true ↦ aRecord node p | false ↦ aRecord step (p - n) ]

-- Rules 6 to 8 are about steps, rules 5, 9 and 10 about nodes.
unfoldable pub rule_sort : ℕ → Sort
rule_sort rule = elim (leb 6 rule && leb rule 8) [ true ↦ step | false ↦ node ]

-- the record that a refusal is about, in a file of n nodes
unfoldable pub which : ℕ → Fault → Which
which n f = elim f.spot [
  | nowhere ↦ no_record
  | on_record p ↦ elim (eqb f.number 4) [ true ↦ node_or_step n p | false ↦ aRecord (rule_sort f.number) p ]
]

-- ---- in words

-- The leaf that a step belongs to, by its node's number, with the step's offset in it.
pub data Owner : Type 0 where
  no_leaf : Owner
  leaf_at : (leaf offset : ℕ) → Owner

-- "Each leaf owns the next run of steps, leaves in node order." The nodes from number i on, and a step that is counted from their first one. A
-- step is refused only where rule 4 is kept by all nodes, and then no node but a leaf counts steps.
unfoldable pub owner_from : ℕ → List Node → ℕ → Owner
owner_from i [] s = no_leaf
owner_from i (x ∷ xs) s = elim (ltb s x.count) [ true ↦ leaf_at i s | false ↦ owner_from (suc i) xs (s - x.count) ]

-- `step 3 of leaf 2`: offset and node, as the text numbers them
unfoldable pub step_words : ℕ → Owner → Bytes
step_words s no_leaf = ascii "step " ++ (decimal s ++ ascii " of no leaf")
step_words s (leaf_at i o) = ascii "step " ++ (decimal o ++ (ascii " of leaf " ++ decimal i))

unfoldable pub record_words : List Node → Which → Bytes
record_words xs no_record = []
record_words xs (aRecord node i) = ascii "node " ++ decimal i
record_words xs (aRecord step i) = step_words i (owner_from 0 xs i)

-- the nodes that a run of node records spells
unfoldable pub nodes_held : Bytes → ℕ
nodes_held bs = length bs / node_size

unfoldable pub nodes_spelt : Bytes → List Node
nodes_spelt bs = listed (λ i. node_at bs (node_size * i)) 0 (nodes_held bs)

-- The record that a refusal is about, in words; none where it is about no record. From the file's node records.
unfoldable pub spot_says : Bytes → Fault → Bytes
spot_says ns f = record_words (nodes_spelt ns) (which (nodes_held ns) f)

-- ` at 9: step 3 of leaf 2`, or nothing
unfoldable pub place_words : Spot → Bytes → Bytes
place_words nowhere words = []
place_words (on_record p) words = ascii " at " ++ (decimal p ++ (ascii ": " ++ words))

-- `refused 7 at 9: step 3 of leaf 2`; where it is about no record, `refused 3`
unfoldable pub fault_says : Bytes → Fault → Bytes
fault_says ns f = ascii "refused " ++ (decimal f.number ++ place_words f.spot (spot_says ns f))

-- ---- by its line

-- a line that is read as a record of this sort
unfoldable pub is_of : Sort → Line → Bool
is_of s nothing = false
is_of s unreadable = false
is_of s (entry f xs) = same_sort f.sort s

-- the line that record i of this sort is read from, of lines from number n on; 0 if there are not so many
unfoldable pub line_from : Sort → ℕ → ℕ → List Line → ℕ
line_from s i n [] = 0
line_from s i n (l ∷ ls) = elim (is_of s l) [
  | true ↦ elim i [ zero ↦ n | suc j ↦ line_from s j (suc n) ls ]
  | false ↦ line_from s i (suc n) ls
]

-- lines are numbered from 1
unfoldable pub line_of_record : Bytes → Which → ℕ
line_of_record text no_record = 0
line_of_record text (aRecord s i) = line_from s i 1 (read_lines text)

-- The line of the record that a refusal is about, in the text from which these node records were read.
unfoldable pub spot_line : Bytes → Bytes → Fault → ℕ
spot_line text ns f = line_of_record text (which (nodes_held ns) f)

-- ---- what is promised of the line

-- record i of a run of records
unfoldable pub record_in : Sort → Bytes → ℕ → Bytes
record_in s bs i = take (size s) (drop (size s * i) bs)

-- how many of the lines are read as records of this sort
unfoldable pub how_many : Sort → List Line → ℕ
how_many s [] = 0
how_many s (l ∷ ls) = one (is_of s l) + how_many s ls

-- Record i of this sort, of these bytes, was read from a line of the text: that line is read as a record of the sort, so many of them stand before it,
-- and its fields make the record. A node's step count is the record's own, since no line names it.
pub record Source (text : Bytes) (s : Sort) (i : ℕ) (bs : Bytes) (line : ℕ) : Type 0 where
  pub from_one : 1 ≤ line
  pub inside : line ≤ length (lines text)
  pub form : Form
  pub fields : Fields
  pub sort : form.sort ≡ s
  pub read : line_of (words (get_or (lines text) (line - 1) [])) ≡ entry form fields
  pub before : how_many s (take (line - 1) (read_lines text)) ≡ i
  pub made : record_of s (count_in s bs) fields ≡ bs

-- of the two runs of records that a text is read as, the one of this sort
unfoldable pub run_of : Sort → Bytes → Bytes → Bytes
run_of node ns ss = ns
run_of step ns ss = ss

-- The line named for a record is the one that the record was read from. `each-sourced` of proofs/WhereLaws, of every text that is read as these records.
unfoldable pub Sourced : Bytes → Bytes → Bytes → Type 0
Sourced text ns ss = (s : Sort) (i : ℕ) → i < length (run_of s ns ss) / size s → Source text s i (record_in s (run_of s ns ss) i) (line_of_record text (aRecord s i))
