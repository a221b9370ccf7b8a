-- A trace run's bytes: entry 5, and its answer.
use Rattle.std.specs.Prelude.{ℕ, ◌^◌, ◌-◌, ◌≡◌, true, false, List, [], ◌∷◌, ◌++◌, eqb, take, drop}
use Rattle.spec_policy.specs.Bytes.{Bytes, spell}
use Rattle.spec_policy.specs.Spots.{Fault}
use Rattle.spec_turns.specs.Status.{status_number}
use Rattle.spec_trace.specs.Traces as runs
use Rattle.spec_trace.specs.Traces.{Stop, unrefused, refused_with, Report, unopened, followed, traces}
use Rattle.run_input.specs.Ends.{policy_part}
use Rattle.trials.specs.Calls.{policy_in, state_in, events_in, refusal_bytes, no_refusal}

-- The first field holds the policy and then its trace: the policy's first two bytes say where it ends, as guardrun reads them.
unfoldable pub trace_of : Bytes → Bytes → Bytes → List ℕ → List ℕ → runs.Traced
trace_of given state events steps actions =
    let end = policy_part given in traces (take end given) (drop end given) state events (record { steps = steps; actions = actions })

unfoldable pub trace_called : Bytes → List ℕ → List ℕ → runs.Traced
trace_called bs steps actions = trace_of (policy_in bs) (state_in bs) (events_in bs) steps actions

-- the refusal that stopped it
unfoldable pub stop_fault : Stop → Fault
stop_fault unrefused = no_refusal
stop_fault (refused_with f) = f

-- the refusal (3), actions judged (4), events written (4), status (1); after them state buffer, event buffer and the 704 counts of the tally, 4 bytes each
unfoldable pub report_bytes : Report → Bytes
unfolding refusal_bytes stop_fault
report_bytes (unopened f) = refusal_bytes f ++ (spell 4 0 ++ (spell 4 0 ++ (0 ∷ [])))
report_bytes (followed z j n s) = refusal_bytes (stop_fault z) ++ (spell 4 j ++ (spell 4 n ++ (status_number s ∷ [])))

pub record Traced (x : runs.Traced) (r saved room : Bytes) (steps actions : List ℕ) : Type 0 where
  pub report : r ≡ report_bytes x.report
  pub state : saved ≡ x.state
  pub events : room ≡ x.events
  pub steps-are : steps ≡ x.tally.steps
  pub actions-are : actions ≡ x.tally.actions

-- The action's byte says where all counts of the tally begin: 0, or so many below 4,294,967,296.
unfoldable pub tally_start : ℕ → ℕ
tally_start a = elim (eqb a 0) [ true ↦ 0 | false ↦ 2 ^ 32 - a ]
