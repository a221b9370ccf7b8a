-- What guardwrite tells of a text: its file, or what is wrong.
use Rattle.std.specs.Prelude.{ℕ, ◌+◌, ◌*◌, true, false, ltb, length, take, replicate}
use Rattle.spec_policy.specs.Bytes.{Bytes}
use Rattle.spec_policy.specs.Spots.{Spot, nowhere, on_record, Fault}
use Rattle.spec_text.specs.Words.{ascii, lines}
use Rattle.spec_text.specs.Reading.{Read, records, bad_line, read_text}
use Rattle.spec_text.specs.Where.{fault_says, spot_line}
use Rattle.text_append.specs.Refusal.{refusal}
use Rattle.text_fault.specs.Expected.{line_says, fault_in}
use Rattle.spec_writer.specs.Writing.{wrote, refuses, Result, writes}
use Rattle.spec_policy.specs.Records.{node_size, step_size, most_nodes, most_steps, most_file}

-- The file goes to standard output. A message goes to standard error, and then not one byte to standard output.
pub data Said : Type 0 where
  file message : (bytes : Bytes) → Said

-- `refused 3`, where a refusal is about no record; else with its record and the line of the text that the record was read from:
-- `line 12: refused 7 at 9: step 3 of leaf 2`
unfoldable pub blamed : Spot → Bytes → Bytes → Fault → Bytes
blamed nowhere text ns f = refusal f
blamed (on_record p) text ns f = line_says (spot_line text ns f) (fault_says ns f)

-- of a text that is read as these node records: what the writer gave
unfoldable pub filed : Bytes → Bytes → Result → Said
filed text ns x = elim x.reply [ wrote n ↦ file (take n x.out) | refuses f ↦ message (blamed f.spot text ns f) ]

-- More nodes or steps than a file may have are refused with 3 by the writer, and so are more than there is room for.
unfoldable pub answered : Bytes → Bytes → Read → Said
answered room text (records ns ss) = filed text ns (writes ns ss room)
answered room text (bad_line n) = message (line_says n (fault_in text n))

abbrev pub most_text : ℕ
most_text = 262144

abbrev pub most_says : Bytes
most_says = ascii "a text of at most 262144 bytes"

-- the line in which the first byte lies that is too many
unfoldable pub too_long : Bytes → Bytes
too_long text = line_says (length (lines (take most_text text))) most_says

-- All that is told, from what the output held before and all that is read.
unfoldable pub made_over : Bytes → Bytes → Said
made_over room text = elim (ltb most_text (length text)) [ true ↦ message (too_long text) | false ↦ answered room text (read_text text) ]

-- the buffers into which a text is read: room for one node and one step more than a file may have
abbrev pub node_room : ℕ
node_room = node_size * (most_nodes + 1)

abbrev pub step_room : ℕ
step_room = step_size * (most_steps + 1)

-- "length is 6 + 16n + 12m", of 31 nodes and 512 steps
abbrev pub out_room : ℕ
out_room = most_file

-- All that is told, from all that is read: the same over any output of so many bytes (`tell`).
unfoldable pub made : Bytes → Said
made text = made_over (replicate out_room 0) text
