-- Lines written into two buffers, record after record.
use Rattle.std.specs.Prelude.{ℕ, suc, ◌+◌, ◌*◌, ◌≤◌, ◌≡◌, List, [], ◌∷◌, Option, Some, None, length, get_or, drop}
use Rattle.spec_policy.specs.Bytes.{Bytes, put}
use Rattle.spec_text.specs.Forms.{node, step, size, record_of}
use Rattle.spec_text.specs.Reading.{Line, nothing, unreadable, entry, read_lines, found, read_from}
use Rattle.text_line.specs.declared.Line as code
use Rattle.text_line.specs.declared.Line.TheVariants.{Nothing, Unreadable, Record}
use Rattle.text_line.specs.Lines.{line_meant, InTable}

-- how many steps stand before the first node
unfoldable pub lead_in : List Line → ℕ
lead_in [] = 0
lead_in (nothing ∷ ls) = lead_in ls
lead_in (unreadable ∷ ls) = 0
lead_in (entry f xs ∷ ls) = elim f.sort [ node ↦ 0 | step ↦ suc (lead_in ls) ]

-- the steps that a line leads in with, before so many; none before a node
unfoldable pub leads : Option ℕ → ℕ → ℕ
leads None k = 0
leads (Some n) k = n + k

pub record Buffers : Type 0 where
  pub nodes : Bytes
  pub steps : Bytes

abbrev pub buffers : Bytes → Bytes → Buffers
buffers ns ss = record { nodes = ns; steps = ss }

-- each record at its place, the first node being number i and the first step number j
unfoldable pub written : List Line → ℕ → ℕ → Bytes → Bytes → Buffers
written [] i j ns ss = record { nodes = ns; steps = ss }
written (nothing ∷ ls) i j ns ss = written ls i j ns ss
written (unreadable ∷ ls) i j ns ss = record { nodes = ns; steps = ss }
written (entry f xs ∷ ls) i j ns ss = elim f.sort [
  | node ↦ written ls (i + 1) j (put ns (size node * i) (record_of node (lead_in ls) xs)) ss
  | step ↦ written ls i (j + 1) ns (put ss (size step * j) (record_of step 0 xs))
]

-- The lines are read as records, for which there is room from node i and step j on.
pub record Roomy (ls : List Line) (i j : ℕ) (ns ss : Bytes) : Type 0 where
  pub room : ℕ
  pub number : ℕ
  pub lead : ℕ
  pub nodes : Bytes
  pub steps : Bytes
  pub reads : read_from room number ls ≡ found lead nodes steps
  pub few : room ≤ 255
  pub nodes_fit : size node * i + length nodes ≤ length ns
  pub steps_fit : size step * j + length steps ≤ length ss

-- a record's first four fields are bytes
abbrev pub BytesFirst : code.Line → Type 0
BytesFirst Nothing = Unit {0}
BytesFirst Unreadable = Unit {0}
BytesFirst (Record form fields) = (k : ℕ) → k ≤ 3 → get_or fields k 0 ≤ 255

-- A line that was read may be copied, and those after it.
pub record Ready (text : Bytes) (next : ℕ) (line : code.Line) (i j : ℕ) (ns ss : Bytes) : Type 0 where
  pub inside : next ≤ length text
  pub in_table : InTable line
  pub bytes : BytesFirst line
  pub roomy : Roomy (line_meant line ∷ read_lines (drop next text)) i j ns ss

-- One line was copied: what is to be written after it is what was to be written, and there is room for it.
pub record Copied (l : Line) (ls : List Line) (i j : ℕ) (ns ss : Bytes) (i' j' : ℕ) (ns' ss' : Bytes) : Type 0 where
  pub same : written (l ∷ ls) i j ns ss ≡ written ls i' j' ns' ss'
  pub roomy : Roomy ls i' j' ns' ss'
