-- A process with the left side of every parallel node first: what the code runs, item by item.
use Rattle.std.specs.Prelude.{Bool, ◌&&◌, List, [], ◌∷◌, T}
use Rattle.std.proofs.Math.Bool.{true, false}
use Rattle.actions.specs.Sets.{Action, ActionSet, has}
use Rattle.spec_policy.specs.Tree.{Join}
use Rattle.spec_turns.specs.Status.{is_running, joined}
use Rattle.spec_turns.specs.State.{State, status, settled}
use Rattle.spec_turns.specs.Process.{Item, ran, lets, sups, accepts, suppresses, Out, Process, stop, does, both}
use Rattle.spec_turns.specs.Turn.{Phase, before, after, emitted}

pub data Run : Type 0 where
  halts : Out → Run
  goes : Item → Run → Run

unfoldable pub and_then : Run → (Out → Run) → Run
and_then (halts x) k = k x
and_then (goes i p) k = goes i (and_then p k)

unfoldable pub flat : Process → Run
unfolding and_then
flat (stop x) = halts x
flat (does i p) = goes i (flat p)
flat (both l r p q g) = and_then (flat p) (λ x. and_then (flat q) (λ y. flat (g x y)))

-- these items first, and then the run
unfoldable pub first : List Item → Run → Run
first [] p = p
first (i ∷ xs) p = goes i (first xs p)

-- the item is no insert
unfoldable pub silent : Item → Bool
silent (ran i o) = true
silent (lets b) = false
silent (sups a) = true
silent (accepts a) = true
silent (suppresses a) = true

unfoldable pub AllSilent : List Item → Type 0
AllSilent [] = Unit {0}
AllSilent (i ∷ xs) = T (silent i) × AllSilent xs

-- ---- the turn rules' parts, over runs

unfoldable pub unless_run : Join → Bool → Bool → State → State → Run → Run
unless_run j m u l r p = elim (is_running (joined j (status l) (status r))) [
  | true ↦ p
  | false ↦ halts (record { state = settled j m l r; suppressed = u })
]

unfoldable pub maybe : Bool → Item → Run → Run
maybe true i p = goes i p
maybe false i p = p

module _ (j : Join) (r : ActionSet) (right : Phase → State → Run) where
  -- the right side's turn on an insert b: after its verdict, and before it
  unfoldable pub fed_after : State → Run → (State → Run) → Run
  unfolding unless_run
  fed_after l q k = and_then q (λ y. unless_run j false false l y.state (k y.state))

  unfoldable pub fed_before : State → Action → Run → (State → Run) → Run
  unfolding fed_after maybe
  fed_before l b q k = and_then q (λ x. maybe (emitted j x) (lets b) (fed_after l (right after x.state) k))

  unfoldable pub given_run : State → Action → State → (State → Run) → Run
  unfolding fed_before
  given_run l b s k = elim (is_running (status s) && has r b) [ true ↦ fed_before l b (right (before b) s) k | false ↦ goes (lets b) (k s) ]

  unfoldable pub feed_run : State → Run → State → (Out → State → Run) → Run
  unfolding given_run
  feed_run l (halts x) s k = k x s
  feed_run l (goes (ran i o) p) s k = goes (ran i o) (feed_run l p s k)
  feed_run l (goes (lets b) p) s k = given_run l b s (λ s'. feed_run l p s' k)
  feed_run l (goes (sups a) p) s k = goes (sups a) (feed_run l p s k)
  feed_run l (goes (accepts a) p) s k = goes (accepts a) (feed_run l p s k)
  feed_run l (goes (suppresses a) p) s k = goes (suppresses a) (feed_run l p s k)
