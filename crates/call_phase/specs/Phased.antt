-- One phase of the whole policy: what it asks of the call's memory, and what it gives.
use Rattle.std.specs.Prelude.{ℕ, ◌≡◌, Bool, List, [], length}
use Rattle.spec_policy.specs.Bytes.{Bytes}
use Rattle.spec_policy.specs.Tree.{Tree}
use Rattle.spec_check.specs.Passed.{Passed}
use Rattle.spec_turns.specs.State.{State}
use Rattle.spec_turns.specs.Process.{Item, Process, trace, items, outcome}
use Rattle.spec_turns.specs.Turn.{Phase, phase}
use Rattle.spec_turns.specs.Events.{Event, events}
use Rattle.turn_paths.specs.Memory.{Mem, held}
use Rattle.turn_memory.specs.Words.{Words, word_count}
use Rattle.turn_memory.specs.Told.{Tells}
use Rattle.turn_tables.specs.Tables.{Tabled}
use Rattle.call_answer.specs.Ends.{Added}

-- the tables of the passed policy are there, and no insert waits
pub record Ready (policy : Bytes) (ws : Words) : Type 0 where
  pub passed : Passed policy
  pub sized : length ws ≡ word_count
  pub tabled : Tabled policy ws
  pub none : Tells ws []

-- the items of a tree's phase, and its events
unfoldable pub items_of : Tree → Phase → State → List Item
items_of t ph s = items (trace (phase t ph s))

unfoldable pub events_of : Tree → Phase → State → List Event
events_of t ph s = events (items (trace (phase t ph s)))

-- The tree ran the phase to its end, from the memory m to m': its events stand in the room after others, and are counted with them; u: its
-- action is suppressed.
pub record Phased (t : Tree) (ph : Phase) (m m' : Mem) (room room' : Bytes) (count count' : ℕ) (u : Bool) : Type 0 where
  pub added : Added (events_of t ph (held t m)) room room' count count'
  pub ends : outcome (phase t ph (held t m)) ≡ record { state = held t m'; suppressed = u }

-- A process ran to its end: its events stand in the room from its beginning on, and the memory holds its last state.
pub record Played (t : Tree) (p : Process) (m : Mem) (room room' : Bytes) (count : ℕ) : Type 0 where
  pub added : Added (events (items (trace p))) room room' 0 count
  pub ends : held t m ≡ (outcome p).state
