-- The memory of a call as the code keeps it, in words: a cell for each node, the inserts that were let out, and the tables.
use Rattle.std.specs.Prelude.{ℕ, ◌+◌, ◌*◌, ◌/◌, ◌%◌, ◌≡◌, List, true, false, ltb, eqb, length, get_or, set}
use Rattle.actions.specs.Sets.{Action}
use Rattle.spec_policy.specs.Records.{most_nodes}
use Rattle.spec_turns.specs.Status.{status_of}
use Rattle.turn_paths.specs.Memory.{Cell, Mem}

abbrev pub Words : Type 0
Words = List ℕ

-- Where things stand: a word for each node's cell; the number of inserts; the inserts, eight a word; and a word for each node in each of
-- three tables (its regulated set; the actions that a node above may give on; the nearest node above that gives on, and the leaf's first step).
abbrev pub count_place : ℕ
count_place = most_nodes

abbrev pub told_place : ℕ
told_place = 32

abbrev pub set_place : ℕ
set_place = 64

abbrev pub above_place : ℕ
above_place = 95

abbrev pub link_place : ℕ
link_place = 126

abbrev pub word_count : ℕ
word_count = 157

-- ---- cells

-- A node's cell is its record of the state as one big-endian number: status, offset, a mark where the state has a zero, a zero, counter (4).
abbrev pub status_in : ℕ → ℕ
status_in x = x / 72057594037927936 % 256

abbrev pub offset_in : ℕ → ℕ
offset_in x = x / 281474976710656 % 256

abbrev pub mark_in : ℕ → ℕ
mark_in x = x / 1099511627776 % 256

abbrev pub counter_in : ℕ → ℕ
counter_in x = x % 4294967296

abbrev pub packed : (status offset mark counter : ℕ) → ℕ
packed s o m c = s * 72057594037927936 + (o * 281474976710656 + (m * 1099511627776 + c))

unfoldable pub celled : ℕ → Cell
celled x = record { status = status_of (status_in x); asked = eqb (mark_in x) 1; offset = offset_in x; counter = counter_in x }

-- the cells that the words hold: what stands past the last node's is none
unfoldable pub memory_of : Words → Mem
memory_of ws i = celled (elim (ltb i most_nodes) [ true ↦ get_or ws i 0 | false ↦ 0 ])

-- ---- inserts

-- How many there are. The count is one byte, so that it always has room.
abbrev pub told_count : Words → ℕ
told_count ws = get_or ws count_place 0 % 256

-- one more insert: it stands lowest in its word
unfoldable pub pushed : Words → Action → Words
pushed ws b =
    let n = told_count ws in
    let at = told_place + n / 8 in
    set (set ws at (get_or ws at 0 % 72057594037927936 * 256 + b)) count_place (n + 1)

-- ---- what a write leaves

-- of the words only the one at i has changed
pub record Only (i : ℕ) (ws ws' : Words) : Type 0 where
  pub others : (k : ℕ) → (k ≡ i → ⊥) → get_or ws' k 0 ≡ get_or ws k 0
  pub sized : length ws' ≡ length ws
