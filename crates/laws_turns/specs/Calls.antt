-- What is said of an answered call: the state that it leaves, the events that it emits, and what it gives where it makes no change. That every call keeps
-- to it is proved in proofs/Lasting, proofs/Bounds and proofs/NoChange.
use Rattle.std.specs.Prelude.{ℕ, ◌+◌, ◌*◌, ◌≤◌, ◌≡◌, [], ◌∷◌, T, length, drop}
use Rattle.actions.specs.Sets.{Action}
use Rattle.spec_policy.specs.Bytes.{Bytes, put}
use Rattle.spec_policy.specs.Tree.{tree}
use Rattle.spec_check.specs.Spread.{spread}
use Rattle.spec_turns.specs.Status.{Status, status_of}
use Rattle.spec_turns.specs.Process.{outcome}
use Rattle.spec_turns.specs.Turn.{Request, call}
use Rattle.spec_turns.specs.Events.{accepted, event_bytes}
use Rattle.spec_turns.specs.Saved.{state_size, cells, status_at, load, running_leaves, count_at, fits}
use Rattle.spec_turns.specs.Entries.{answers, event_room, Result, entry}

-- What an answered call leaves in the state buffer: "the state is 256 bytes" (request 04), a state that fits again by "It fits when:", so that the
-- guard never refuses its own state, and one that is read back as the state in which the turn rules end. `answered-leaves`.
module _ (policy : Bytes) (state room : Bytes) where
  pub record Leaves (q : Request) : Type 0 where
    pub size : length (entry policy q state room).state ≡ state_size
    pub fits-again : T (fits policy (entry policy q state room).state)
    pub read_back : load (tree policy) (cells (entry policy q state room).state) ≡ (outcome (call (tree policy) q (load (tree policy) (cells state)))).state
    -- "Opening, each action and closing keep it true": the count
    pub counted : count_at (entry policy q state room).state ≡ running_leaves (tree policy) (outcome (call (tree policy) q (load (tree policy) (cells state)))).state

-- What a call that answers n events leaves in the event buffer. `answered-emits`.
module _ (policy : Bytes) (q : Request) (state room : Bytes) where
  pub record Emits (n : ℕ) : Type 0 where
    -- "One call emits at most spread + 1 events."
    pub few : n ≤ spread (tree policy) + 1
    -- so that two bytes each fit the 512 that rule 11 asks for
    pub room-enough : 2 * n ≤ event_room
    -- the buffer keeps its length; "Event bytes after the last event are unchanged."
    pub same_length : length (entry policy q state room).events ≡ length room
    pub untouched : drop (2 * n) (entry policy q state room).events ≡ drop (2 * n) room

-- the root's status, as the bytes of a state have it: node 0's
abbrev pub root_status : Bytes → Status
root_status state = status_of (status_at (cells state) 0)

-- What a call gives that makes no change: so many events, the root's status, and every byte of the state as it was. With no event and the event bytes
-- as they were it is "Closing a decided root emits nothing and answers its status." `decided-closes`.
unfoldable pub no_change : ℕ → Bytes → Bytes → Result
no_change count state events = record { reply = answers count (root_status state); state = state; events = events }

-- "an action not regulated is accepted with no change. So is any action once the root has ended": one event, accepted, and the event bytes after it are
-- unchanged. `unregulated-stays`, `ended-stays`.
unfoldable pub accepted_unchanged : Action → Bytes → Bytes → Result
unfolding no_change
accepted_unchanged a state room = no_change 1 state (put room 0 (event_bytes (accepted a ∷ [])))
