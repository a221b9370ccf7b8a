-- What a call adds to a tally: a count for each item of its run that is a step, or an event.
use Rattle.std.specs.Prelude.{ℕ, ◌+◌, ◌*◌, Bool, true, false, List, [], ◌∷◌, ltb}
use Rattle.actions.specs.Sets.{Action}
use Rattle.spec_policy.specs.Bytes.{Bytes}
use Rattle.spec_policy.specs.Tree.{first_step}
use Rattle.spec_turns.specs.Process.{Item, ran, lets, sups, accepts, suppresses}
use Rattle.spec_turns.specs.Events.{Event, accepted, suppressed, inserted}
use Rattle.spec_trace.specs.Counts.{counted}

-- "for each step how often it ran, for each action how often it was accepted, suppressed or inserted": a count for each step of the file, by its
-- number over the whole file; and a count for each action in each of three tables.
pub record Tally : Type 0 where
  pub steps : List ℕ
  pub actions : List ℕ

-- Every size of a tally, named once: there are 512 steps at most, and 64 actions.
abbrev pub step_counts : ℕ
step_counts = 512

abbrev pub action_table : ℕ
action_table = 64

abbrev pub action_counts : ℕ
action_counts = 3 * action_table

-- where an action's three counts stand
abbrev pub accepted_place : Action → ℕ
accepted_place a = a

abbrev pub suppressed_place : Action → ℕ
suppressed_place a = action_table + a

abbrev pub inserted_place : Action → ℕ
inserted_place a = 2 * action_table + a

-- one more at an action's count, of which there are 192
unfoldable pub action_counted : List ℕ → ℕ → List ℕ
unfolding counted
action_counted counts place = elim (ltb place action_counts) [ true ↦ counted counts place | false ↦ counts ]

-- one more at a step's count, of which there are 512
unfoldable pub step_counted : List ℕ → ℕ → List ℕ
unfolding counted
step_counted counts step = elim (ltb step step_counts) [ true ↦ counted counts step | false ↦ counts ]

-- "for each step how often it ran": a step runs as the turn rules say, a next when it is left
unfoldable pub steps_tallied : Bytes → List Item → List ℕ → List ℕ
unfolding step_counted
steps_tallied policy [] counts = counts
steps_tallied policy (ran i o ∷ xs) counts = steps_tallied policy xs (step_counted counts (first_step policy i + o))
steps_tallied policy (lets b ∷ xs) counts = steps_tallied policy xs counts
steps_tallied policy (sups a ∷ xs) counts = steps_tallied policy xs counts
steps_tallied policy (accepts a ∷ xs) counts = steps_tallied policy xs counts
steps_tallied policy (suppresses a ∷ xs) counts = steps_tallied policy xs counts

-- the same as the code does it, which counts a call's steps only where that is asked: in a run over a trace
unfoldable pub step_if : Bool → List ℕ → ℕ → List ℕ
unfolding step_counted
step_if true counts step = step_counted counts step
step_if false counts step = counts

unfoldable pub steps_if : Bool → Bytes → List Item → List ℕ → List ℕ
unfolding steps_tallied
steps_if true policy xs counts = steps_tallied policy xs counts
steps_if false policy xs counts = counts

-- "for each action how often it was accepted, suppressed or inserted": by its events; what a leaf suppresses is none until it is the root's verdict
unfoldable pub actions_tallied : List Item → List ℕ → List ℕ
unfolding action_counted
actions_tallied [] counts = counts
actions_tallied (ran i o ∷ xs) counts = actions_tallied xs counts
actions_tallied (lets b ∷ xs) counts = actions_tallied xs (action_counted counts (inserted_place b))
actions_tallied (sups a ∷ xs) counts = actions_tallied xs counts
actions_tallied (accepts a ∷ xs) counts = actions_tallied xs (action_counted counts (accepted_place a))
actions_tallied (suppresses a ∷ xs) counts = actions_tallied xs (action_counted counts (suppressed_place a))

-- the same from the events themselves, which is how the code counts: `actions-by-events`
unfoldable pub events_tallied : List Event → List ℕ → List ℕ
unfolding action_counted
events_tallied [] counts = counts
events_tallied (accepted a ∷ es) counts = events_tallied es (action_counted counts (accepted_place a))
events_tallied (suppressed a ∷ es) counts = events_tallied es (action_counted counts (suppressed_place a))
events_tallied (inserted a ∷ es) counts = events_tallied es (action_counted counts (inserted_place a))

-- "brought up to date after every call": what the items of a call's run make of the tally that was there
unfoldable pub tallied : Bytes → List Item → Tally → Tally
unfolding steps_tallied actions_tallied
tallied policy xs t = record { steps = steps_tallied policy xs t.steps; actions = actions_tallied xs t.actions }
