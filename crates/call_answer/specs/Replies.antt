-- What the code's answer stands for: document 01's numbers for each of its cases.
use Rattle.std.specs.Prelude.{◌≡◌, Result, Ok, Err}
use Rattle.spec_policy.specs.Bytes.{Bytes}
use Rattle.spec_turns.specs.Status.{status_number}
use Rattle.spec_turns.specs.Entries as entries
use Rattle.spec_turns.specs.Entries.{Reply, answers, refuses}
use Rattle.faults.specs.Meaning.{fault_value}
use Rattle.faults.specs.declared.Fault.{Fault}
use Rattle.call_answer.specs.declared.Answered.{Answered}

-- the code's name for it
abbrev pub Answer : Type 0
Answer = Result Answered Fault

-- "The answer is the event count and the root's status." "A refusal returns that number and zero events"; "Every caller passes the place on unchanged."
unfoldable pub spoken : Reply → Answer
unfolding fault_value
spoken (answers n s) = Ok (record { events = n; status = status_number s })
spoken (refuses f) = Err (fault_value f)

-- The call gave just this: its answer, and every byte of the two lent buffers.
pub record Gave (x : entries.Result) (r : Answer) (bytes room : Bytes) : Type 0 where
  pub answer : r ≡ spoken x.reply
  pub state : bytes ≡ x.state
  pub events : room ≡ x.events
