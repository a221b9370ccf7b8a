-- What the code's report stands for, and what the run has while it goes on.
use Rattle.std.specs.Prelude.{ℕ, ◌*◌, ◌≤◌, ◌≡◌, false, List, T, length, Option, Some, None, Result, Ok, Err}
use Rattle.spec_policy.specs.Bytes.{Bytes}
use Rattle.spec_check.specs.Check.{passes, check}
use Rattle.spec_turns.specs.Status.{status_number, status_of}
use Rattle.spec_turns.specs.Saved.{state_size, fits}
use Rattle.spec_turns.specs.Entries.{broken14}
use Rattle.spec_trace.specs.Traces as spec
use Rattle.faults.specs.declared.Fault.{Fault}
use Rattle.faults.specs.Meaning.{fault_value}
use Rattle.trace_run.specs.declared.Followed.{Followed}

unfoldable pub stop_value : spec.Stop → Option Fault
stop_value spec.unrefused = None
stop_value (spec.refused_with f) = Some (fault_value f)

-- the code's name for it
abbrev pub Report : Type 0
Report = Result Followed Fault

unfoldable pub report_value : spec.Report → Report
unfolding stop_value
report_value (spec.unopened f) = Err (fault_value f)
report_value (spec.followed z j n s) = Ok (record { stop = stop_value z; judged = j; events = n; status = status_number s })

-- The run gave just this: its report, every byte of the two lent buffers, and every count.
pub record Told (x : spec.Traced) (r : Report) (state events : Bytes) (steps actions : List ℕ) : Type 0 where
  pub report : r ≡ report_value x.report
  pub state-is : state ≡ x.state
  pub events-are : events ≡ x.events
  pub steps-are : steps ≡ x.tally.steps
  pub actions-are : actions ≡ x.tally.actions

-- the run so far, from what the code has of it
unfoldable pub run_of : (state events : Bytes) (written : ℕ) (steps actions : List ℕ) (judged root : ℕ) → spec.Run
run_of state events written steps actions judged root = record {
  state = state;
  events = events;
  count = written;
  tally = record { steps = steps; actions = actions };
  judged = judged;
  root = status_of root;
}

-- The file has passed, the state fits, and the root has not halted.
pub record Running (policy : Bytes) (set : ℕ) (state events : Bytes) (written root : ℕ) : Type 0 where
  pub effects : ℕ
  pub passes-check : check policy ≡ passes set effects
  pub state-size : length state ≡ state_size
  pub state-fits : T (fits policy state)
  pub awake : broken14 state ≡ false
  pub a-status : root ≡ status_number (status_of root)
  pub inside : spec.event_size * written ≤ length events
