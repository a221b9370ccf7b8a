-- A call of the run on the part of the event buffer that begins where the last call's events ended: what it asks, and what it gives.
use Rattle.std.specs.Prelude.{ℕ, ◌*◌, ◌≤◌, ◌≡◌, Bool, false, List, ◌++◌, T, length, take, drop, Ok, Err}
use Rattle.spec_policy.specs.Bytes.{Bytes}
use Rattle.spec_check.specs.Check.{passes, check}
use Rattle.spec_policy.specs.Tree.{tree}
use Rattle.spec_turns.specs.Status.{status_number}
use Rattle.spec_turns.specs.State.{status}
use Rattle.spec_turns.specs.Process.{outcome}
use Rattle.spec_turns.specs.Turn as Turn
use Rattle.spec_turns.specs.Turn.{Request}
use Rattle.spec_turns.specs.Saved.{state_size, cells, load}
use Rattle.spec_turns.specs.Entries.{event_room, Reply, answers, refuses, broken13, broken14}
use Rattle.spec_trace.specs.Tallies.{steps_tallied, actions_tallied}
use Rattle.spec_trace.specs.Traces.{called, ran_by, event_size}
use Rattle.faults.specs.declared.Fault.{Fault}
use Rattle.call_answer.specs.declared.Answered.{Answered}
use Rattle.call_answer.specs.declared.Call.{Call}
use Rattle.call_answer.specs.declared.Call.TheVariants.{Open, Offer, Close}
use Rattle.call_answer.specs.Replies.{Answer, spoken}
use Rattle.call_carry.specs.Calls.{readable}

-- refusals 13 and 14, which only an offered action has
unfoldable pub no_action : Call → Bool
no_action Open = false
no_action (Offer a) = broken13 a
no_action Close = false

unfoldable pub after_halt : Call → Bytes → Bool
after_halt Open state = false
after_halt (Offer a) state = broken14 state
after_halt Close state = false

-- The file has passed, and of the other refusals only 13 and 15 can apply; so many events are written.
pub record Callable (policy : Bytes) (set : ℕ) (state events : Bytes) (written : ℕ) (call : Call) : Type 0 where
  pub effects : ℕ
  pub passes-check : check policy ≡ passes set effects
  pub state-size : length state ≡ state_size
  pub reads : T (readable call policy state)
  pub awake : after_halt call state ≡ false
  pub inside : event_size * written ≤ length events

-- an answered call brings the tally up to date; a refused one leaves it
unfoldable pub if_answered : Reply → List ℕ → List ℕ → List ℕ
if_answered (answers n s) up old = up
if_answered (refuses f) up old = old

pub record Tailed (policy : Bytes) (q : Request) (state events : Bytes) (written : ℕ) (steps actions : List ℕ) (r : Answer) (state' events' : Bytes) (steps' actions' : List ℕ) : Type 0 where
  pub answer : r ≡ spoken (called policy q state (drop (event_size * written) events)).reply
  pub state-is : state' ≡ (called policy q state (drop (event_size * written) events)).state
  pub events-are : events' ≡ take (event_size * written) events ++ (called policy q state (drop (event_size * written) events)).events
  pub steps-are : steps' ≡ if_answered (called policy q state (drop (event_size * written) events)).reply (steps_tallied policy (ran_by policy q state) steps) steps
  pub actions-are : actions' ≡ if_answered (called policy q state (drop (event_size * written) events)).reply (actions_tallied (ran_by policy q state) actions) actions
  -- "A refusal returns that number ..; state and event buffers keep every byte", and the tally its counts; an answered call had room
  pub kept : {f : Fault} → r ≡ Err f → (state' ≡ state) × ((events' ≡ events) × ((steps' ≡ steps) × (actions' ≡ actions)))
  pub wide : {a : Answered} → r ≡ Ok a → event_room ≤ length (drop (event_size * written) events)
  pub root_is : {a : Answered} → r ≡ Ok a → a.status ≡ status_number (status (outcome (Turn.call (tree policy) q (load (tree policy) (cells state)))).state)
