-- Events, and what is counted of a run.
use Rattle.std.specs.Prelude.{ℕ, suc, List, [], ◌∷◌, ◌++◌}
use Rattle.actions.specs.Sets.{Action}
use Rattle.spec_policy.specs.Bytes.{Bytes}
use Rattle.spec_turns.specs.Process.{Item, ran, lets, sups, accepts, suppresses}

pub data Event : Type 0 where
  accepted suppressed inserted : Action → Event

-- the event that an item is, if it is one
unfoldable pub event_of : Item → List Event
event_of (ran i o) = []
event_of (lets b) = inserted b ∷ []
event_of (sups a) = []
event_of (accepts a) = accepted a ∷ []
event_of (suppresses a) = suppressed a ∷ []

unfoldable pub events : List Item → List Event
events [] = []
events (i ∷ xs) = event_of i ++ events xs

-- "Events are two bytes: 1 accepted, 2 suppressed, 3 inserted; then the action."
unfoldable pub event_bytes : List Event → Bytes
event_bytes [] = []
event_bytes (accepted a ∷ es) = 1 ∷ a ∷ event_bytes es
event_bytes (suppressed a ∷ es) = 2 ∷ a ∷ event_bytes es
event_bytes (inserted a ∷ es) = 3 ∷ a ∷ event_bytes es

-- "A single step is one step of one leaf": how many there are
unfoldable pub steps_run : List Item → ℕ
steps_run [] = 0
steps_run (ran i o ∷ xs) = suc (steps_run xs)
steps_run (lets b ∷ xs) = steps_run xs
steps_run (sups a ∷ xs) = steps_run xs
steps_run (accepts a ∷ xs) = steps_run xs
steps_run (suppresses a ∷ xs) = steps_run xs
