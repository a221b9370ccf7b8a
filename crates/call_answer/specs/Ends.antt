-- The verdict's event, and the call's end.
use Rattle.std.specs.Prelude.{ℕ, ◌+◌, ◌*◌, ◌≡◌, Bool, true, false, List, [], length, Ok}
use Rattle.actions.specs.Sets.{Action}
use Rattle.spec_policy.specs.Bytes.{Bytes, put}
use Rattle.spec_policy.specs.Tree.{Tree}
use Rattle.spec_turns.specs.Status.{Status, status_number, is_halted}
use Rattle.spec_turns.specs.State.{State, status}
use Rattle.spec_turns.specs.Turn.{verdict}
use Rattle.spec_turns.specs.Events.{Event, event_of, event_bytes}
use Rattle.spec_turns.specs.Saved.{saved}
use Rattle.call_answer.specs.Replies.{Answer}

-- "The verdict's event stands between the phases; a halt before the verdict has none." The root's status is s; u: the action is suppressed.
unfoldable pub verdicts : Status → Bool → Action → List Event
verdicts s u a = elim (is_halted s) [ true ↦ [] | false ↦ event_of (verdict u a) ]

-- events were written after so many, and are counted with them
pub record Added (es : List Event) (room room' : Bytes) (count count' : ℕ) : Type 0 where
  pub told : room' ≡ put room (2 * count) (event_bytes es)
  pub counted : count' ≡ count + length es

-- The call's end: its answer, and its state s saved.
pub record Ended (t : Tree) (s : State) (count : ℕ) (r : Answer) (bytes : Bytes) : Type 0 where
  pub answer : r ≡ Ok (record { events = count; status = status_number (status s) })
  pub state : bytes ≡ saved t s
