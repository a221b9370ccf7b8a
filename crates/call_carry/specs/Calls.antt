-- What a call may ask: all that the entry points' refusals leave.
use Rattle.std.specs.Prelude.{ℕ, ◌≤◌, ◌≡◌, Bool, true, ◌&&◌, T, length}
use Rattle.actions.specs.Sets.{has}
use Rattle.spec_policy.specs.Bytes.{Bytes}
use Rattle.spec_policy.specs.Records.{node_count, step_count}
use Rattle.spec_policy.specs.Tree.{regulated, tree}
use Rattle.spec_check.specs.Passed.{Passed}
use Rattle.spec_turns.specs.Status.{status_of, is_running}
use Rattle.spec_turns.specs.Saved.{state_size, cells, status_at, fits}
use Rattle.spec_turns.specs.Entries.{event_room}
use Rattle.call_answer.specs.declared.Call.{Call}
use Rattle.call_answer.specs.declared.Call.TheVariants.{Open, Offer, Close}

-- Does the state that the call reads fit the policy? Opening reads none.
unfoldable pub readable : Call → Bytes → Bytes → Bool
readable Open policy state = true
readable (Offer a) policy state = fits policy state
readable Close policy state = fits policy state

-- The numbers beside the file are its own counts.
pub record Counted (policy : Bytes) (nodes steps : ℕ) : Type 0 where
  pub nodes-are : nodes ≡ node_count policy
  pub steps-are : steps ≡ step_count policy

-- None of the refusals 1 to 12 applies that the call has.
pub record Allowed (policy state room : Bytes) (call : Call) : Type 0 where
  pub passed : Passed policy
  pub state-size : length state ≡ state_size
  pub event-room : event_room ≤ length room
  pub reads : T (readable call policy state)

-- Is the root asked? "Only a running node that regulates a is asked"; opening and closing are about no action.
unfoldable pub asks_root : Call → Bytes → Bytes → Bool
asks_root Open policy state = true
asks_root (Offer a) policy state = is_running (status_of (status_at (cells state) 0)) && has (regulated (tree policy)) a
asks_root Close policy state = true

-- A call that runs the root: an action that it is not asked about does not.
pub record Runs (policy state room : Bytes) (call : Call) : Type 0 where
  pub allowed : Allowed policy state room call
  pub asks : T (asks_root call policy state)
