-- This file is here to show why the third demand has its premise: on a passed policy that breaks it, what is let out depends on the
-- order of the left part. "Giving upstream inserts in any order: a right side that accepts only the first of 3 and 6 would then choose
-- differently."
use Rattle.std.specs.Prelude.{ℕ, ◌+◌, ◌^◌, ◌≡◌, false, List, [], ◌∷◌, ◌++◌, replicate}
use Rattle.actions.specs.Sets.{Action, ActionSet}
use Rattle.spec_policy.specs.Bytes.{Bytes}
use Rattle.spec_policy.specs.Parts.{pair_of, file_of, «V», V', F, built}
use Rattle.spec_policy.specs.Steps.{Step, next, ok, sup, ins, end}
use Rattle.spec_policy.specs.Tree.{parallel, sequential, Join, and, Tree, leaf, node, regulated, tree}
use Rattle.spec_check.specs.Check.{passes, check}
use Rattle.spec_turns.specs.State.{State, left_of, right_of, settled}
use Rattle.spec_turns.specs.Process.{Item, ran, lets, sups, accepts, suppresses, Out, Process, stop, does, then, outcome, trace, items}
use Rattle.spec_turns.specs.Turn.{closing, Behaviour, quiet, unless_decided, given, feed, sequential_work, phase, close, call}
use Rattle.spec_turns.specs.Events.{Event, inserted, events}
use Rattle.spec_turns.specs.Saved.{state_size, cells, load}
use Rattle.spec_turns.specs.Entries.{event_room, opens}
use Rattle.spec_orders.specs.Orders.{Order}
use Rattle.spec_orders.specs.Demand.{premise, OneOrder}

-- ---- giving on what the left part did, in an order of its own

module _ (j : Join) (r : ActionSet) (right : Behaviour) where
  -- the items of a finished order of the left part, from its state l, given on one after another
  unfoldable pub given_on : State → List Item → State → (State → Process) → Process
  given_on l [] s k = k s
  given_on l (ran i o ∷ xs) s k = does (ran i o) (given_on l xs s k)
  given_on l (lets b ∷ xs) s k = given j r right l b s (λ t. given_on l xs t k)
  given_on l (sups a ∷ xs) s k = does (sups a) (given_on l xs s k)
  given_on l (accepts a ∷ xs) s k = does (accepts a) (given_on l xs s k)
  given_on l (suppresses a ∷ xs) s k = does (suppresses a) (given_on l xs s k)

  -- closing a sequential node whose left part has done these items and ended so
  unfoldable pub closed_with : State → List Item → Out → Process
  closed_with s xs x =
      given_on (left_of s) xs (right_of s)
      (λ t. unless_decided j false false x.state t (then (right closing t) (λ y. quiet (settled j false x.state y.state))))

-- ---- the policy

-- "V: set {4}; 0 next 1/3, 1 sup 2, 2 ins 3 to 0, 3 ins 3 to 4, 4 end. V': V with set {5} and inserting 6."
unfoldable pub inserting : Action → List Step
inserting b = next 1 3 ∷ sup 2 ∷ ins b 0 ∷ ins b 4 ∷ end ∷ []

-- F, "a right side that accepts only the first"
unfoldable pub only_first : List Step
only_first = next 1 4 ∷ ok 2 ∷ next 3 4 ∷ sup 2 ∷ end ∷ []

unfoldable pub left : Tree
unfolding inserting
left = node parallel and 1 (leaf 2 (2 ^ 4) 0 (inserting 3)) (leaf 3 (2 ^ 5) 0 (inserting 6))

unfoldable pub right : Tree
unfolding only_first
right = leaf 4 (2 ^ 3 + 2 ^ 6) 0 only_first

-- its file
unfoldable pub policy : Bytes
unfolding built
policy = file_of (pair_of 5 1 4 ∷ pair_of 4 2 3 ∷ «V» ∷ V' ∷ F ∷ [])

-- as opening leaves it
unfoldable pub after_opening : State
unfolding policy
after_opening = load (tree policy) (cells (opens policy (replicate state_size 0) (replicate event_room 0)).state)

-- what a leaf of the left part, number i, does at closing
unfoldable pub closing_items : ℕ → Action → List Item
closing_items i b = ran i 0 ∷ ran i 3 ∷ lets b ∷ ran i 4 ∷ []

-- its two sides one after the other
unfoldable pub left_side_first : List Item
unfolding closing_items
left_side_first = closing_items 2 3 ++ closing_items 3 6

unfoldable pub right_side_first : List Item
unfolding closing_items
right_side_first = closing_items 3 6 ++ closing_items 2 3

unfoldable pub left_part : Process
unfolding left after_opening
left_part = phase left closing (left_of after_opening)

-- the events of closing, where the left part has done these items
unfoldable pub closing_events : List Item → List Event
unfolding closed_with right after_opening left_part
closing_events xs = events (items (trace (closed_with and (regulated right) (phase right) after_opening xs (outcome left_part))))

-- ---- what is proved

pub record PremiseNeeded : Type 0 where
  -- The turn rules give on the left part's items in the order left side first, in every phase; so at closing.
  pub whole-first : (j : Join) (r : ActionSet) (side : Behaviour) (l : State) (p : Process) (s : State) (k : Out → State → Process)
      → feed j r side l p s k ≡ given_on j r side l (items (trace p)) s (k (outcome p))
  pub closes-so : (j : Join) (r : ActionSet) (first side : Behaviour) (s : State)
      → sequential_work j r first side closing s ≡ closed_with j r side s (items (trace (first closing (left_of s)))) (outcome (first closing (left_of s)))
  -- The file holds the policy, and passes the check; the left part has a parallel node.
  pub holds : tree policy ≡ node sequential and 0 left right
  pub passed : check policy ≡ passes (2 ^ 3 + 2 ^ 4 + 2 ^ 5 + 2 ^ 6) (2 ^ 3 + 2 ^ 4 + 2 ^ 5 + 2 ^ 6)
  pub unmet : premise (tree policy) ≡ false
  -- Both are finished orders of the left part's closing, and end alike.
  pub left-first : Order left_part left_side_first 9 (stop (outcome left_part))
  pub right-first : Order left_part right_side_first 9 (stop (outcome left_part))
  -- So the left part has more than one order.
  pub more-orders : ¬ OneOrder left_part
  -- Closing gives what the first of them gives. Given on in the one order, insert 3 is let out and no other; in the other, insert 6.
  pub rules-give : events (items (trace (call (tree policy) close after_opening))) ≡ closing_events left_side_first
  pub lets-3 : closing_events left_side_first ≡ inserted 3 ∷ []
  pub lets-6 : closing_events right_side_first ≡ inserted 6 ∷ []
