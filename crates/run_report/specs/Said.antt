-- What guardrun prints of each call.
use Rattle.std.specs.Prelude.{Bool, true, false, [], ◌++◌}
use Rattle.spec_policy.specs.Bytes.{Bytes}
use Rattle.spec_text.specs.Words.{ascii}
use Rattle.spec_turns.specs.Status.{Status, is_halted}
use Rattle.spec_turns.specs.Turn.{Request, opening, offer, close}
use Rattle.spec_turns.specs.Entries.{Reply, answers, refuses}
use Rattle.text_append.specs.Refusal.{refusal}
use Rattle.run_report.specs.Lines.{line, word, lines}

-- What is printed of a call, and whether nothing follows it.
pub record Said : Type 0 where
  pub text : Bytes
  pub over : Bool

-- "It prints `open S`, .. (those of opening after the open line"
unfoldable pub heading : Request → Status → Bytes
heading opening s = line (ascii "open ") (word s)
heading (offer a) s = []
heading close s = []

-- "On a halt it stops reading and prints `close halted`."
unfoldable pub is_last : Request → Status → Bool
is_last opening s = is_halted s
is_last (offer a) s = is_halted s
is_last close s = true

-- "those of closing before the close line), and `close S`"
unfoldable pub ending : Bool → Status → Bytes
ending true s = line (ascii "close ") (word s)
ending false s = []

-- "A refused policy prints only `refused N`; a refused action prints that line and goes on." Closing a state that does not fit would be
-- refused too; each answered call leaves one that fits (`answered-leaves` of `laws_turns`).
unfoldable pub last_if_refused : Request → Bool
last_if_refused opening = true
last_if_refused (offer a) = false
last_if_refused close = true

unfoldable pub said : Request → Reply → Bytes → Said
said q (answers n s) room = record { text = heading q s ++ (lines n room ++ ending (is_last q s) s); over = is_last q s }
said q (refuses f) room = record { text = refusal f; over = last_if_refused q }
