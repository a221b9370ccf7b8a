-- What the C functions return: the entry points' answers, each in one word; a refusal is the same word everywhere (`fault_word`).
use Rattle.std.specs.Prelude.{ℕ, ◌+◌, ◌*◌, ◌≤◌, ◌≡◌, true, false, eqb, length, Ok, Err}
use Rattle.spec_policy.specs.Bytes.{Bytes}
use Rattle.spec_policy.specs.Spots.{bare_fault}
use Rattle.spec_check.specs.Check.{Answer, passes, refused}
use Rattle.spec_turns.specs.Status.{status_number}
use Rattle.spec_turns.specs.Saved.{state_size, count_at}
use Rattle.spec_turns.specs.Entries.{Reply, answers, refuses, Result}
use Rattle.faults.specs.Meaning.{fault_word}
use Rattle.call_answer.specs.Replies as guard
use Rattle.spec_writer.specs.Writing as writing

-- The check: zero and both sets, or the refusal, and then both stay as they were.
abbrev pub Says : Answer → ℕ → (a b a' b' : ℕ) → Type 0
Says (passes r e) n a b a' b' = (n ≡ 0) × ((a' ≡ r) × (b' ≡ e))
Says (refused f) n a b a' b' = (n ≡ fault_word f) × ((a' ≡ a) × (b' ≡ b))

-- The others: a refusal, or the root's status in the byte below the highest and the number of events in the rest.
unfoldable pub word : Reply → ℕ
word (answers n s) = 65536 * status_number s + n
word (refuses f) = fault_word f

-- an answer whose events can be counted in the word
abbrev pub Few : guard.Answer → Type 0
Few (Ok a) = a.events ≤ 256
Few (Err f) = Unit {0}

-- just this: the word, and every byte of the two lent buffers
pub record Gave (x : Result) (r : ℕ) (bytes room : Bytes) : Type 0 where
  pub answer : r ≡ word x.reply
  pub state : bytes ≡ x.state
  pub events : room ≡ x.events

-- How many leaves still run (request 04): the count in a state of 256 bytes; of a buffer of another length refusal 11.
unfoldable pub count_word : Bytes → ℕ
count_word state = elim (eqb (length state) state_size) [ true ↦ count_at state | false ↦ fault_word (bare_fault 11) ]

-- The writer: a refusal, or the length of the file.
unfoldable pub size_word : writing.Reply → ℕ
size_word (writing.wrote n) = n
size_word (writing.refuses f) = fault_word f

-- just this: the word, and every byte of the lent output
pub record Produced (x : writing.Result) (r : ℕ) (bytes : Bytes) : Type 0 where
  pub answer : r ≡ size_word x.reply
  pub out : bytes ≡ x.out
