-- The inserts that were told, written as events.
use Rattle.std.specs.Prelude.{ℕ, ◌+◌, ◌*◌, ◌≤◌, ◌<◌, ◌≡◌, List, [], map, length, get_or}
use Rattle.actions.specs.Sets.{Action}
use Rattle.spec_policy.specs.Bytes.{Bytes, put}
use Rattle.spec_turns.specs.Events.{inserted, event_bytes}
use Rattle.turn_memory.specs.Words.{Words, count_place, set_place}
use Rattle.turn_memory.specs.Told.{Tells}

-- what telling leaves of the words: the cells and the tables
pub record Kept (ws ws' : Words) : Type 0 where
  pub size : length ws' ≡ length ws
  pub cells : (k : ℕ) → k < count_place → get_or ws' k 0 ≡ get_or ws k 0
  pub tables : (k : ℕ) → set_place ≤ k → get_or ws' k 0 ≡ get_or ws k 0

-- the inserts es stand in the room after so many events, so that there are r; and the words tell none
pub record Sent (es : List Action) (ws' : Words) (room room' : Bytes) (count r : ℕ) : Type 0 where
  pub counted : r ≡ count + length es
  pub events : room' ≡ put room (2 * count) (event_bytes (map inserted es))
  pub none : Tells ws' []
