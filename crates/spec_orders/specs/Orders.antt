-- Orders: the two sides of every parallel node may take their single steps in any order.
--
-- A process is what a call is to do. Its `trace`, left side first, is what the turn rules say; here any side that can go on may go
-- on. The single steps are the `ran` items. What a step brings about (an insert let out, an action suppressed, the verdict) and the
-- moment at which both sides have stopped are moves of their own, so that there are more orders here than the paper has, and not fewer.
use Rattle.std.specs.Prelude.{ℕ, zero, suc, ◌≤◌, ◌≡◌, ◌⊎◌, Bool, true, false, ◌&&◌, not, List, [], ◌∷◌, ◌++◌, T, eqb, get_or}
use Rattle.actions.specs.Sets.{Action, ActionSet}
use Rattle.spec_policy.specs.Steps.{Step, next, ok, sup, ins, acase, spend, end, halt}
use Rattle.spec_policy.specs.Tree.{Tree, leaf, trivial, unsatisfiable, node}
use Rattle.spec_turns.specs.Process.{Item, ran, lets, sups, accepts, suppresses, Out, Process, stop, does, both, touches, Trace, none, one, two, items, outcome, trace}
use Rattle.spec_turns.specs.Events.{Event, event_of, events, steps_run}

-- no item lets out or suppresses an action of the set
unfoldable pub clear : ActionSet → List Item → Bool
clear r [] = true
clear r (i ∷ xs) = not (touches r i) && clear r xs

-- A move, with what is seen of it. A side may not let out or suppress what the other side regulates.
pub data Move : Process → List Item → Process → Type 0 where
  acts : {i : Item} {p : Process} → Move (does i p) (i ∷ []) p
  on_left : {l r : ActionSet} {p p' q : Process} {g : Out → Out → Process} {xs : List Item}
      → Move p xs p' → T (clear r xs) → Move (both l r p q g) xs (both l r p' q g)
  on_right : {l r : ActionSet} {p q q' : Process} {g : Out → Out → Process} {xs : List Item}
      → Move q xs q' → T (clear l xs) → Move (both l r p q g) xs (both l r p q' g)
  meet : {l r : ActionSet} {x y : Out} {g : Out → Out → Process} → Move (both l r (stop x) (stop y) g) [] (g x y)

-- An order: moves one after another, with all that is seen of them, and how many they are.
pub data Order : Process → List Item → ℕ → Process → Type 0 where
  start : {p : Process} → Order p [] zero p
  then : {p p' p'' : Process} {xs ys : List Item} {n : ℕ} → Move p xs p' → Order p' ys n p'' → Order p (xs ++ ys) (suc n) p''

-- "An order is stuck where one side of a parallel node lets out an insert, or suppresses an action, that the other side regulates."
pub data Stuck : Process → Type 0 where
  left_blocked : {l r : ActionSet} {p p' q : Process} {g : Out → Out → Process} {xs : List Item} → Move p xs p' → T (not (clear r xs)) → Stuck (both l r p q g)
  right_blocked : {l r : ActionSet} {p q q' : Process} {g : Out → Out → Process} {xs : List Item} → Move q xs q' → T (not (clear l xs)) → Stuck (both l r p q g)
  in_left : {l r : ActionSet} {p q : Process} {g : Out → Out → Process} → Stuck p → Stuck (both l r p q g)
  in_right : {l r : ActionSet} {p q : Process} {g : Out → Out → Process} → Stuck q → Stuck (both l r p q g)

pub data Stopped : Process → Type 0 where
  stopped : {x : Out} → Stopped (stop x)

-- ---- what is seen, up to interleaving

-- the third list interleaves the first two
pub data Mixed {A : Type 0} : List A → List A → List A → Type 0 where
  nil : Mixed [] [] []
  from_left : {a : A} {xs ys zs : List A} → Mixed xs ys zs → Mixed (a ∷ xs) ys (a ∷ zs)
  from_right : {a : A} {xs ys zs : List A} → Mixed xs ys zs → Mixed xs (a ∷ ys) (a ∷ zs)

-- The list is formed from the trace by interleaving, at each place where the order of two sides is free, lists so formed.
pub data Formed : Trace → List Item → Type 0 where
  formed-none : Formed none []
  formed-one : {i : Item} {t : Trace} {xs : List Item} → Formed t xs → Formed (one i t) (i ∷ xs)
  formed-two : {s t u : Trace} {xs ys zs ws : List Item} → Formed s xs → Formed t ys → Mixed xs ys zs → Formed u ws → Formed (two s t u) (zs ++ ws)

-- the same of the events alone
pub data Told : Trace → List Event → Type 0 where
  told_none : Told none []
  told-one : {i : Item} {t : Trace} {es : List Event} → Told t es → Told (one i t) (event_of i ++ es)
  told-two : {s t u : Trace} {es fs gs hs : List Event} → Told s es → Told t fs → Mixed es fs gs → Told u hs → Told (two s t u) (gs ++ hs)

-- ---- what is one leaf's

unfoldable pub only : (Item → Bool) → List Item → List Item
only f [] = []
only f (i ∷ xs) = elim (f i) [ true ↦ i ∷ only f xs | false ↦ only f xs ]

-- a step of leaf n
unfoldable pub of_leaf : ℕ → Item → Bool
of_leaf n (ran i o) = eqb i n
of_leaf n (lets b) = false
of_leaf n (sups a) = false
of_leaf n (accepts a) = false
of_leaf n (suppresses a) = false

unfoldable pub is_verdict : Item → Bool
is_verdict (ran i o) = false
is_verdict (lets b) = false
is_verdict (sups a) = false
is_verdict (accepts a) = true
is_verdict (suppresses a) = true

-- the steps of leaf n
unfoldable pub code_of : Tree → ℕ → List Step
code_of (leaf i r c code) n = elim (eqb i n) [ true ↦ code | false ↦ [] ]
code_of (trivial i) n = []
code_of (unsatisfiable i) n = []
code_of (node w j i l r) n = code_of l n ++ code_of r n

-- the action that a step inserts, if it is an ins
unfoldable pub insert_of : Step → List Action
insert_of (next t d) = []
insert_of (ok t) = []
insert_of (sup t) = []
insert_of (ins b t) = b ∷ []
insert_of (acase s y z) = []
insert_of (spend n y z) = []
insert_of end = []
insert_of halt = []

unfoldable pub inserted : List Step → List Item → List Action
inserted code [] = []
inserted code (ran i o ∷ xs) = insert_of (get_or code o halt) ++ inserted code xs
inserted code (lets b ∷ xs) = inserted code xs
inserted code (sups a ∷ xs) = inserted code xs
inserted code (accepts a ∷ xs) = inserted code xs
inserted code (suppresses a ∷ xs) = inserted code xs

-- the actions that leaf n inserts, in order
unfoldable pub inserts_of : Tree → ℕ → List Item → List Action
inserts_of t n xs = inserted (code_of t n) (only (of_leaf n) xs)

-- ---- what is said of a process: no order is endless or stuck, and all agree

pub record OrderFree (t : Tree) (p : Process) : Type 0 where
  -- every order ends: none has more than so many moves
  pub most : ℕ
  pub ends : {xs : List Item} {n : ℕ} {p' : Process} → Order p xs n p' → n ≤ most
  -- no order is stuck, and each goes on until the process has stopped
  pub free : {xs : List Item} {n : ℕ} {p' : Process} → Order p xs n p' → ¬ Stuck p'
  pub goes-on : {xs : List Item} {n : ℕ} {p' : Process} → Order p xs n p' → Stopped p' ⊎ ((ys : List Item) × (p'' : Process) × Move p' ys p'')
  -- the same state, and so the same statuses
  pub same : {xs : List Item} {n : ℕ} {x : Out} → Order p xs n (stop x) → x ≡ outcome p
  -- the same verdict
  pub verdict : {xs : List Item} {n : ℕ} {x : Out} → Order p xs n (stop x) → only is_verdict xs ≡ only is_verdict (items (trace p))
  -- each leaf runs the same steps in the same order, and so makes the same inserts in the same order
  pub leaves : {xs : List Item} {n : ℕ} {x : Out} → Order p xs n (stop x) → (i : ℕ) → only (of_leaf i) xs ≡ only (of_leaf i) (items (trace p))
  pub inserts : {xs : List Item} {n : ℕ} {x : Out} → Order p xs n (stop x) → (i : ℕ) → inserts_of t i xs ≡ inserts_of t i (items (trace p))
  -- what is seen is an interleaving of what the turn rules give, formed recursively by the tree; and so are the events
  pub formed : {xs : List Item} {n : ℕ} {x : Out} → Order p xs n (stop x) → Formed (trace p) xs
  pub told : {xs : List Item} {n : ℕ} {x : Out} → Order p xs n (stop x) → Told (trace p) (events xs)
  -- the same number of steps
  pub steps : {xs : List Item} {n : ℕ} {x : Out} → Order p xs n (stop x) → steps_run xs ≡ steps_run (items (trace p))
  -- demand 2's own order, left side first, is one of the orders
  pub moves : ℕ
  pub left-first : Order p (items (trace p)) moves (stop (outcome p))
