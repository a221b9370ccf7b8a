-- A leaf's part of a phase, as the code runs it: where one step leads, how the phase begins, and what the leaf came to.
use Rattle.std.specs.Prelude.{ℕ, suc, ◌+◌, ◌≤◌, ◌≡◌, Bool, true, false, List, [], ◌∷◌, T, length, get_or}
use Rattle.actions.specs.Sets.{Action, ActionSet}
use Rattle.spec_policy.specs.Steps.{Step, halt, targets, is_next}
use Rattle.spec_policy.specs.Bytes.{Bytes}
use Rattle.spec_policy.specs.Tree.{leaf, first_step}
use Rattle.spec_check.specs.Lawful.{AllAhead, Inside, LawfulLeaf}
use Rattle.spec_turns.specs.Status.{running, status_of}
use Rattle.spec_turns.specs.State.{State, leaf_state, leaf_over}
use Rattle.spec_turns.specs.Process.{Item, lets}
use Rattle.spec_turns.specs.Turn.{Phase, before, after, closing, take_of, done_of}
use Rattle.spec_turns.specs.Turn as turn
use Rattle.spec_trace.specs.Tallies.{step_if, steps_if}
use Rattle.turn_paths.specs.Run.{Run, halts, goes, flat, first, AllSilent}
use Rattle.turn_paths.specs.Memory.{Cell, held, ran_of}
use Rattle.turn_memory.specs.Words.{Words, memory_of, Only}
use Rattle.turn_memory.specs.Phases.{pending_in}
use Rattle.turn_leaf.specs.declared.Move.{Move}
use Rattle.turn_leaf.specs.declared.Move.TheVariants.{On, Ends, Stays}
use Rattle.turn_leaf.specs.declared.Last.{Last}
use Rattle.turn_leaf.specs.declared.Last.TheVariants.{Stay, Stops, Inserts, Over}
use Rattle.turn_leaf.specs.declared.Stop.{Stop}
use Rattle.turn_leaf.specs.declared.Progress.{Progress}
use Rattle.turn_leaf.specs.declared.Progress.TheVariants.{Insert, Done}

-- p is q after items that are no inserts; where that is asked (on), their steps are counted
pub record Quietly (on : Bool) (policy : Bytes) (cs cs' : List ℕ) (p q : Run) : Type 0 where
  pub items : List Item
  pub quiet : AllSilent items
  pub is : p ≡ first items q
  pub steps : cs' ≡ steps_if on policy items cs

-- how leaf i goes on from an offset with a counter, and from where its cell says
unfoldable pub goes_on : ℕ → List Step → Action → (offset counter : ℕ) → Run
goes_on i code a o c = flat (turn.goes i code a (suc (length code)) o c)

unfoldable pub onward : ℕ → List Step → Phase → Cell → Run
onward i code ph x = goes_on i code (pending_in ph) x.offset x.counter

-- ---- a step

unfoldable pub ends : State → Bool → Run
ends s u = halts (record { state = s; suppressed = u })

-- what a leaf's last move leads to, from offset o with counter c: it stays at a next, it stops for the verdict, it inserts, it is over
unfoldable pub lasts : ℕ → List Step → Action → (offset counter : ℕ) → Last → Run
lasts i code a o c Stay = ends (leaf_state running false o c) false
lasts i code a o c (Stops t u) = ends (leaf_state running true t c) u
lasts i code a o c (Inserts b t) = goes (lets b) (goes_on i code a t c)
lasts i code a o c (Over s) = ends (leaf_over (status_of s)) false

unfoldable pub follows : ℕ → List Step → Action → (offset counter : ℕ) → Move → Run
follows i code a o c (On t n) = goes_on i code a t n
follows i code a o c (Ends x) = lasts i code a o c x
follows i code a o c Stays = lasts i code a o c Stay

-- the step, of this number, has run, unless the leaf stays at it
unfoldable pub move_counted : Bool → Move → List ℕ → ℕ → List ℕ
move_counted on (On t n) cs number = step_if on cs number
move_counted on (Ends x) cs number = step_if on cs number
move_counted on Stays cs number = cs

-- where a move goes on, and the counter that it leaves
unfoldable pub target : Move → List ℕ
target (On t n) = t ∷ []
target (Ends x) = []
target Stays = []

unfoldable pub left : ℕ → Move → ℕ
left c (On t n) = n
left c (Ends x) = c
left c Stays = c

-- x is the move of the step s, on action a with counter c
pub record Taken (s : Step) (a : Action) (c : ℕ) (x : Move) : Type 0 where
  pub takes : (on : Bool) (policy : Bytes) (cs : List ℕ) (i o : ℕ) (code : List Step)
      → Quietly on policy cs (move_counted on x cs (first_step policy i + o)) (flat (turn.stepping i a (turn.goes i code a (suc (length code))) o c s)) (follows i code a o c x)
  pub ahead : (code : List Step) (o : ℕ) → AllAhead code o (targets s) → AllAhead code o (target x)
  pub inside : (n : ℕ) → Inside n (targets s) → Inside n (target x)
  pub less : left c x ≤ c
  pub stays : T (is_next s) → target x ≡ []

-- ---- up to what ends a run

-- a leaf that the rules let pass
pub record Passing (code : List Step) : Type 0 where
  pub set : ActionSet
  pub law : LawfulLeaf set code

-- from offset o with counter c the leaf, whose first step has this number, went on by itself as far as x says
pub record Stopped (on : Bool) (policy : Bytes) (base : ℕ) (cs cs' : List ℕ) (code : List Step) (a : Action) (o c : ℕ) (x : Stop) : Type 0 where
  pub stops : (i : ℕ) → base ≡ first_step policy i → Quietly on policy cs cs' (goes_on i code a o c) (lasts i code a x.offset x.counter x.last)
  pub less : x.counter ≤ c

-- ---- where a phase begins

-- the target of a next that is left for a turn, or at closing
unfoldable pub leaving : Bool → Step → ℕ
leaving true s = done_of s
leaving false s = take_of s

-- "Before: go from take .. After: go on": where a leaf at this offset begins the phase
unfoldable pub begins : Phase → List Step → ℕ → ℕ
begins (before a) code o = take_of (get_or code o halt)
begins after code o = o
begins closing code o = done_of (get_or code o halt)

-- the next, of this number, that the phase leaves has run
unfoldable pub left_counted : Bool → Phase → List ℕ → ℕ → List ℕ
left_counted on (before a) cs number = step_if on cs number
left_counted on after cs number = cs
left_counted on closing cs number = step_if on cs number

-- ---- what the code leaves behind

module _ (i : ℕ) (r : ActionSet) (c : ℕ) (code : List Step) (ph : Phase) where
  -- the phase has begun, and the leaf is to go on
  pub record Left (on : Bool) (policy : Bytes) (cs cs' : List ℕ) (ws ws' : Words) : Type 0 where
    pub begun : Quietly on policy cs cs' (ran_of (leaf i r c code) ph (held (leaf i r c code) (memory_of ws))) (onward i code ph (memory_of ws' i))
    pub runs : (memory_of ws' i).status ≡ running
    pub only : Only i ws ws'

  -- what the leaf came to: an insert, after which it goes on, or its phase's end
  unfoldable pub came : Words → Progress → Run
  came ws' (Insert b) = goes (lets b) (onward i code ph (memory_of ws' i))
  came ws' (Done u) = halts (record { state = held (leaf i r c code) (memory_of ws'); suppressed = u })

  -- a leaf that has inserted still runs
  unfoldable pub Waits : Words → Progress → Type 0
  Waits ws' (Insert b) = (memory_of ws' i).status ≡ running
  Waits ws' (Done u) = Unit {0}

  pub record Ran (on : Bool) (policy : Bytes) (cs cs' : List ℕ) (ws ws' : Words) (x : Progress) : Type 0 where
    pub gives : Quietly on policy cs cs' (onward i code ph (memory_of ws i)) (came ws' x)
    pub waits : Waits ws' x
    pub only : Only i ws ws'
