-- What guardcheck prints of a file: the check's answer, and the root's spread.
use Rattle.std.specs.Prelude.{ℕ, true, false, ◌++◌, ltb, length}
use Rattle.actions.specs.Sets.{ActionSet}
use Rattle.spec_policy.specs.Bytes.{Bytes}
use Rattle.spec_policy.specs.Records.{most_file}
use Rattle.spec_policy.specs.Spots.{bare_fault}
use Rattle.spec_policy.specs.Tree.{tree}
use Rattle.spec_check.specs.Spread.{spread}
use Rattle.spec_check.specs.Check.{Answer, passes, refused, check}
use Rattle.spec_text.specs.Words.{ascii}
use Rattle.spec_text.specs.Numerals.{decimal}
use Rattle.spec_text.specs.Forms.{actions}
use Rattle.spec_text.specs.Printing.{argument}
use Rattle.text_append.specs.Refusal.{refusal}

-- a set after its name, as a text has it: `regulated {1 2 3}`
unfoldable pub set_line : Bytes → ActionSet → Bytes
set_line name s = name ++ (argument (actions 0) s ++ ascii "\n")

unfoldable pub passed_text : ActionSet → ActionSet → ℕ → Bytes
passed_text r e s = set_line (ascii "regulated") r ++ (set_line (ascii "effects") e ++ (ascii "spread " ++ (decimal s ++ ascii "\n")))

unfoldable pub answered : Answer → Bytes → Bytes
answered (passes r e) file = passed_text r e (spread (tree file))
answered (refused f) file = refusal f

-- More than 6,646 bytes are no policy, whatever the first two say.
unfoldable pub shown : Bytes → Bytes
shown input = elim (ltb most_file (length input)) [ true ↦ refusal (bare_fault 1) | false ↦ answered (check input) input ]

-- No file's lines are longer.
abbrev pub text_room : ℕ
text_room = 512
