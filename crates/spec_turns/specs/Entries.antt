-- The four entry points: for each, one definition from all that it is given to all that it gives. The check's is `check` of crate
-- rules; here are opening, an offered action and closing.
use Rattle.std.specs.Prelude.{ℕ, Bool, true, false, ◌||◌, not, List, [], ◌∷◌, eqb, ltb, length}
use Rattle.actions.specs.Sets.{is_action}
use Rattle.spec_policy.specs.Bytes.{Bytes, put}
use Rattle.spec_policy.specs.Tree.{Tree, tree}
use Rattle.spec_policy.specs.Spots.{Fault, bare_fault}
use Rattle.spec_check.specs.Check.{passes, refused, check}
use Rattle.spec_turns.specs.Status.{Status, status_of, is_halted}
use Rattle.spec_turns.specs.State.{status}
use Rattle.spec_turns.specs.Process.{Process, outcome, trace, items}
use Rattle.spec_turns.specs.Turn.{Request, opening, offer, close, call}
use Rattle.spec_turns.specs.Events.{events, event_bytes}
use Rattle.spec_turns.specs.Saved.{state_size, cells, status_at, load, saved, fits}

-- the least room for events
abbrev pub event_room : ℕ
event_room = 512

-- "The answer is the event count and the root's status." "A refusal returns that number and zero events".
pub data Reply : Type 0 where
  answers : (count : ℕ) (root : Status) → Reply
  refuses : Fault → Reply

-- What a call gives: its answer, and all that the two lent buffers hold afterwards.
pub record Result : Type 0 where
  pub reply : Reply
  pub state : Bytes
  pub events : Bytes

-- "A refusal returns that number ..; state and event buffers keep every byte." "Every caller passes the place on unchanged."
unfoldable pub refusal : Fault → Bytes → Bytes → Result
refusal f state room = record { reply = refuses f; state = state; events = room }

-- what a call gives that runs a process: "Event bytes after the last event are unchanged."
unfoldable pub carried : Tree → Process → Bytes → Result
carried t p room =
    let es = events (items (trace p)) in
    record { reply = answers (length es) (status (outcome p).state); state = saved t (outcome p).state; events = put room 0 (event_bytes es) }

unfoldable pub carried_out : Bytes → Request → Bytes → Bytes → Result
unfolding carried
carried_out policy q state room = let t = tree policy in carried t (call t q (load t (cells state))) room

-- 11: "state buffer is not 248 bytes, or event buffer is under 512", and by request 04: "Refusal 11 now means 256 bytes"
unfoldable pub broken11 : Bytes → Bytes → Bool
broken11 state room = not (eqb (length state) state_size) || ltb (length room) event_room

-- 12: "the state doesn't fit the policy"
unfoldable pub broken12 : Bytes → Bytes → Bool
broken12 policy state = not (fits policy state)

-- 13: "action above 63"
unfoldable pub broken13 : ℕ → Bool
broken13 a = not (is_action a)

-- 14: "the root has halted"
unfoldable pub broken14 : Bytes → Bool
broken14 state = is_halted (status_of (status_at (cells state) 0))

-- A refusal's number, and whether it applies. "Refusals 4 to 10 shall also carry a place": those from 11 on have no spot.
pub record Refusal : Type 0 where
  pub number : ℕ
  pub applies : Bool

-- "opening 1–11; an offered action 1–14; closing 1–12": those after the check's, in the order in which they are tried
unfoldable pub refusals : Bytes → Request → Bytes → Bytes → List Refusal
refusals policy opening state room = record { number = 11; applies = broken11 state room } ∷ []
refusals policy (offer a) state room =
    record { number = 11; applies = broken11 state room }
    ∷ record { number = 12; applies = broken12 policy state }
    ∷ record { number = 13; applies = broken13 a }
    ∷ record { number = 14; applies = broken14 state }
    ∷ []
refusals policy close state room =
    record { number = 11; applies = broken11 state room }
    ∷ record { number = 12; applies = broken12 policy state }
    ∷ []

-- "The lowest number that applies is given."
unfoldable pub unless : List Refusal → Bytes → Request → Bytes → Bytes → Result
unless [] policy q state room = carried_out policy q state room
unless (r ∷ rs) policy q state room = elim r.applies [ true ↦ refusal (bare_fault r.number) state room | false ↦ unless rs policy q state room ]

unfoldable pub entry : Bytes → Request → Bytes → Bytes → Result
entry policy q state room = elim (check policy) [
  | refused f ↦ refusal f state room
  | passes r e ↦ unless (refusals policy q state room) policy q state room
]

-- policy, state, events
unfoldable pub opens : Bytes → Bytes → Bytes → Result
unfolding entry
opens policy state room = entry policy opening state room

-- policy, state, events, action
unfoldable pub offers : Bytes → Bytes → Bytes → ℕ → Result
unfolding entry
offers policy state room a = entry policy (offer a) state room

-- policy, state, events
unfoldable pub closes : Bytes → Bytes → Bytes → Result
unfolding entry
closes policy state room = entry policy close state room
