-- Document 02, request 05: a policy run over a trace. One total definition, from all that the run is given to all that it gives, built of the single
-- calls' own definitions.
use Rattle.std.specs.Prelude.{ℕ, suc, ◌+◌, ◌*◌, true, false, List, [], ◌∷◌, ◌++◌, ltb, length, take, drop, replicate}
use Rattle.actions.specs.Sets.{Action}
use Rattle.spec_policy.specs.Bytes.{Bytes}
use Rattle.spec_policy.specs.Spots.{Fault}
use Rattle.spec_policy.specs.Tree.{tree}
use Rattle.spec_check.specs.Check.{passes, refused, check}
use Rattle.spec_turns.specs.Status.{Status, is_halted}
use Rattle.spec_turns.specs.Process.{Item, trace, items}
use Rattle.spec_turns.specs.Turn.{Request, opening, offer, close, call}
use Rattle.spec_turns.specs.Saved.{cells, load}
use Rattle.spec_turns.specs.Entries.{event_room, answers, refuses, Result, refusal, Refusal, refusals, unless}
use Rattle.spec_trace.specs.Tallies.{Tally, tallied}

-- ---- a call of the run

-- "Refusals: those of the single calls, but 15, tried last, and not 11 when under 512 event bytes are left before a call": those that the call
-- has in a buffer with room, and then 15
unfoldable pub broken15 : Bytes → Refusal
broken15 room = record { number = 15; applies = ltb (length room) event_room }

unfoldable pub traced_refusals : Bytes → Request → Bytes → Bytes → List Refusal
unfolding broken15
traced_refusals policy q state room = refusals policy q state (replicate event_room 0) ++ broken15 room ∷ []

-- "The events are those that the single calls give": a call on this state, with this room for its events
unfoldable pub called : Bytes → Request → Bytes → Bytes → Result
unfolding traced_refusals
called policy q state room = elim (check policy) [
  | refused f ↦ refusal f state room
  | passes r e ↦ unless (traced_refusals policy q state room) policy q state room
]

-- the items of the run of a call that is carried out
unfoldable pub ran_by : Bytes → Request → Bytes → List Item
ran_by policy q state = let t = tree policy in items (trace (call t q (load t (cells state))))

-- ---- the run

-- What the run has so far: the lent buffers, how many events are written, the tally, how many actions were judged, the root's status.
pub record Run : Type 0 where
  pub state : Bytes
  pub events : Bytes
  pub count : ℕ
  pub tally : Tally
  pub judged : ℕ
  pub root : Status

-- "each call's events in the part that begins where the last ended"
abbrev pub event_size : ℕ
event_size = 2

unfoldable pub place : Run → ℕ
place x = event_size * x.count

unfoldable pub on_tail : Bytes → Request → Run → Result
unfolding called place
on_tail policy q x = called policy q x.state (drop (place x) x.events)

-- the run after an answered call, with so many events and this status of the root; j actions are judged then
unfoldable pub went : Bytes → Request → Run → Result → (count : ℕ) → Status → (j : ℕ) → Run
unfolding place ran_by
went policy q x r n s j = record {
  state = r.state;
  events = take (place x) x.events ++ r.events;
  count = x.count + n;
  tally = tallied policy (ran_by policy q x.state) x.tally;
  judged = j;
  root = s;
}

-- "The run stops at the first refusal or when the root halts": by a refusal, or by none where it halts or is closed
pub data Stop : Type 0 where
  unrefused : Stop
  refused_with : Fault → Stop

-- "the number of actions judged, a halting one too, is returned"; with it how many events are written, and the root's status. Where opening is
-- refused there is no root.
pub data Report : Type 0 where
  unopened : Fault → Report
  followed : Stop → (judged count : ℕ) (root : Status) → Report

-- What the run gives: its report, and all that is lent to it.
pub record Traced : Type 0 where
  pub report : Report
  pub state : Bytes
  pub events : Bytes
  pub tally : Tally

-- "what was written before stays"
unfoldable pub stops : Stop → Run → Traced
stops z x = record { report = followed z x.judged x.count x.root; state = x.state; events = x.events; tally = x.tally }

-- "the trace's actions and closing"
unfoldable pub follow : Bytes → List Action → Run → Traced
unfolding on_tail went stops
follow policy [] x = let r = on_tail policy close x in elim r.reply [
  | refuses f ↦ stops (refused_with f) x
  | answers n s ↦ stops unrefused (went policy close x r n s x.judged)
]
follow policy (a ∷ bs) x = let r = on_tail policy (offer a) x in elim r.reply [
  | refuses f ↦ stops (refused_with f) x
  | answers n s ↦ (let y = went policy (offer a) x r n s (suc x.judged) in elim (is_halted s) [ true ↦ stops unrefused y | false ↦ follow policy bs y ])
]

-- before opening: the state's bytes are not read, and no event is written
unfoldable pub unbegun : Bytes → Bytes → Tally → Status → Run
unbegun state room t s = record { state = state; events = room; count = 0; tally = t; judged = 0; root = s }

-- "Run opening, the trace's actions and closing": policy, trace, state, events, tally
unfoldable pub traces : Bytes → List Action → Bytes → Bytes → Tally → Traced
unfolding called went follow unbegun
traces policy bs state room t = let r = called policy opening state room in elim r.reply [
  | refuses f ↦ record { report = unopened f; state = state; events = room; tally = t }
  | answers n s ↦ (let y = went policy opening (unbegun state room t s) r n s 0 in elim (is_halted s) [ true ↦ stops unrefused y | false ↦ follow policy bs y ])
]
