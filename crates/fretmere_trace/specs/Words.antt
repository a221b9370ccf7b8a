-- What the C function returns and writes: the run's report in one word and three, and all that is lent to it.
use Rattle.std.specs.Prelude.{ℕ, ◌≡◌, List, [], ◌∷◌}
use Rattle.spec_policy.specs.Bytes.{Bytes}
use Rattle.spec_turns.specs.Status.{status_number}
use Rattle.spec_trace.specs.Traces.{Stop, unrefused, refused_with, Report, unopened, followed, Traced}
use Rattle.faults.specs.Meaning.{fault_word}

-- How the run ended: 0 where no call was refused, else the word of the refusal that stopped it.
unfoldable pub stop_word : Stop → ℕ
stop_word unrefused = 0
stop_word (refused_with f) = fault_word f

unfoldable pub trace_word : Report → ℕ
unfolding stop_word
trace_word (unopened f) = fault_word f
trace_word (followed z j n s) = stop_word z

-- "the number of actions judged, a halting one too, is returned"; then the events written in all, and the root's status. Where the policy was not opened
-- there is no root, and all three are 0, which is no status.
unfoldable pub reported : Report → List ℕ
reported (unopened f) = 0 ∷ 0 ∷ 0 ∷ []
reported (followed z j n s) = j ∷ n ∷ status_number s ∷ []

-- just this: the word, the three words of the report, every byte of the two lent buffers, and every count of the tally
pub record Gave (x : Traced) (r : ℕ) (report : List ℕ) (state events : Bytes) (steps actions : List ℕ) : Type 0 where
  pub word : r ≡ trace_word x.report
  pub report-is : report ≡ reported x.report
  pub state-is : state ≡ x.state
  pub events-are : events ≡ x.events
  pub steps-are : steps ≡ x.tally.steps
  pub actions-are : actions ≡ x.tally.actions
