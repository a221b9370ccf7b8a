-- What a phase does, as a process: single steps of leaves one after another, and, at a parallel node, two sides whose order is free.
-- Demand 2 takes the left side first (`outcome`, `trace`); demand 3 takes them in any order.
use Rattle.std.specs.Prelude.{ℕ, Bool, false, List, [], ◌∷◌, ◌++◌}
use Rattle.actions.specs.Sets.{Action, ActionSet, has}
use Rattle.spec_turns.specs.State.{State}

-- What can be seen of a run.
pub data Item : Type 0 where
  ran : (leaf offset : ℕ) → Item  -- a single step: that leaf's step at that offset has run
  lets : Action → Item  -- an insert is let out
  sups : Action → Item  -- a leaf suppresses its pending action
  accepts : Action → Item  -- the root's verdict
  suppresses : Action → Item  -- the root's verdict

-- The item lets out an insert, or suppresses an action, of the set.
unfoldable pub touches : ActionSet → Item → Bool
touches r (ran i o) = false
touches r (lets b) = has r b
touches r (sups a) = has r a
touches r (accepts a) = false
touches r (suppresses a) = false

-- How a phase ended: the state, and whether the pending action was suppressed. A halt is read from the state.
pub record Out : Type 0 where
  pub state : State
  pub suppressed : Bool

pub data Process : Type 0 where
  stop : Out → Process
  does : Item → Process → Process
  -- two sides, with the sets that each regulates, and what follows once both have stopped
  both : (left right : ActionSet) → Process → Process → (Out → Out → Process) → Process

-- what follows a process
unfoldable pub then : Process → (Out → Process) → Process
then (stop x) k = k x
then (does i p) k = does i (then p k)
then (both l r p q g) k = both l r p q (λ x y. then (g x y) k)

unfoldable pub outcome : Process → Out
outcome (stop x) = x
outcome (does i p) = outcome p
outcome (both l r p q g) = outcome (g (outcome p) (outcome q))

-- The items of a run, with the places kept where the order of two sides is free.
pub data Trace : Type 0 where
  none : Trace
  one : Item → Trace → Trace
  two : Trace → Trace → Trace → Trace  -- left side, right side, what follows

unfoldable pub trace : Process → Trace
unfolding outcome
trace (stop x) = none
trace (does i p) = one i (trace p)
trace (both l r p q g) = two (trace p) (trace q) (trace (g (outcome p) (outcome q)))

-- "Both asked sides run the phase to its end, left first".
unfoldable pub items : Trace → List Item
items none = []
items (one i t) = i ∷ items t
items (two s t u) = (items s ++ items t) ++ items u
