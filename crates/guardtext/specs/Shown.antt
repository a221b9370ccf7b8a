-- What guardtext prints of a file.
use Rattle.std.specs.Prelude.{ℕ, ◌≡◌, true, false, ◌++◌, ltb, length}
use Rattle.spec_policy.specs.Bytes.{Bytes}
use Rattle.spec_policy.specs.Records.{most_file, node_bytes, step_bytes}
use Rattle.spec_policy.specs.Spots.{Fault, bare_fault}
use Rattle.spec_check.specs.Check.{Answer, passes, refused, check}
use Rattle.spec_text.specs.Words.{ascii}
use Rattle.spec_text.specs.Reading.{records, read_text}
use Rattle.spec_text.specs.Printing.{shown_records}
use Rattle.spec_text.specs.Where.{fault_says}
use Rattle.text_append.specs.Refusal.{refusal}

-- No file's text is longer.
abbrev pub text_room : ℕ
text_room = 131_072

-- every record, where it lies by the file's counts
unfoldable pub records_text : Bytes → Bytes
records_text file = shown_records (node_bytes file) (step_bytes file)

-- a remark: `# refused 7 at 9: step 3 of leaf 2`
unfoldable pub heading : Bytes → Fault → Bytes
heading ns f = ascii "# " ++ (fault_says ns f ++ ascii "\n")

-- The rules that are about records. A file that is refused by one of them keeps rules 1 to 3, so its counts are to be believed.
abbrev pub first_of_records : ℕ
first_of_records = 4

unfoldable pub refused_text : Bytes → Fault → Bytes
refused_text file f = elim (ltb f.number first_of_records) [ true ↦ refusal f | false ↦ heading (node_bytes file) f ++ records_text file ]

unfoldable pub answered : Answer → Bytes → Bytes
answered (passes r e) file = records_text file
answered (refused f) file = refused_text file f

-- More than 6,646 bytes are no policy, whatever the first two say.
unfoldable pub shown : Bytes → Bytes
shown input = elim (ltb most_file (length input)) [ true ↦ refusal (bare_fault 1) | false ↦ answered (check input) input ]

-- From what is shown of the file its records are read. So it is for every file that passes, and for every file that is refused by a rule from 7 on: of these
-- each record has a line (`every-file-shown` and `refused-file-shown` of proofs/ShownLaws).
unfoldable pub ReadsBack : Bytes → Type 0
ReadsBack file = read_text (shown file) ≡ records (node_bytes file) (step_bytes file)
