-- The turn rules.
use Rattle.std.specs.Prelude.{ℕ, zero, suc, ◌-◌, Bool, ◌&&◌, ◌||◌, not, List, leb, length, get_or}
use Rattle.std.proofs.Math.Bool.{true, false}
use Rattle.actions.specs.Sets.{Action, ActionSet, EMPTY, has}
use Rattle.spec_policy.specs.Steps.{Step, next, ok, sup, ins, acase, spend, end, halt}
use Rattle.spec_policy.specs.Tree.{parallel, sequential, Join, and, or, Tree, leaf, trivial, unsatisfiable, node, regulated}
use Rattle.spec_turns.specs.Status.{running, ended, halted, is_running, is_halted, joined}
use Rattle.spec_turns.specs.State.{State, leaf_state, pair_state, status, asked, offset, counter, left_of, right_of, leaf_over, settled}
use Rattle.spec_turns.specs.Process.{Item, ran, lets, sups, accepts, suppresses, Out, Process, stop, does, both, then}

-- "A turn on action a has two phases: before the verdict, and after it." "Closing is one phase".
pub data Phase : Type 0 where
  before : Action → Phase
  after : Phase
  closing : Phase

-- what a node does in a phase, from a state
abbrev pub Behaviour : Type 0
Behaviour = Phase → State → Process

-- the phase ends in this state, and nothing was suppressed
unfoldable pub quiet : State → Process
quiet s = stop (record { state = s; suppressed = false })

-- ---- a leaf

-- Document 02, request 01: "Spend shall go to its yes target when the counter is at least n." (Document 01 compared strictly.)
unfoldable pub affords : ℕ → ℕ → Bool
affords c n = leb n c

unfoldable pub which : Bool → ℕ → ℕ → ℕ
which true y z = y
which false y z = z

-- One step of leaf i: at offset o, with counter c and pending action a; `go` goes on at another offset, with its counter.
-- "A next runs when it is left", so here the leaf only stops at it.
unfoldable pub stepping : ℕ → Action → (ℕ → ℕ → Process) → ℕ → ℕ → Step → Process
unfolding quiet which
stepping i a go o c (next t d) = quiet (leaf_state running false o c)
stepping i a go o c (ok t) = does (ran i o) (quiet (leaf_state running true t c))
stepping i a go o c (sup t) = does (ran i o) (does (sups a) (stop (record { state = leaf_state running true t c; suppressed = true })))
stepping i a go o c (ins b t) = does (ran i o) (does (lets b) (go t c))
stepping i a go o c (acase s y z) = does (ran i o) (go (which (has s a) y z) c)
stepping i a go o c (spend n y z) = does (ran i o) (go (which (affords c n) y z) (which (affords c n) (c - n) c))
stepping i a go o c end = does (ran i o) (quiet (leaf_over ended))
stepping i a go o c halt = does (ran i o) (quiet (leaf_over halted))

-- The leaf goes on from an offset, up to ok, sup, end, halt or a next. The fuel is one more than the leaf's steps: on a leaf that
-- rule 6 lets pass it does not run out (`conduct/proofs/Fuel`).
unfoldable pub goes : ℕ → List Step → Action → ℕ → ℕ → ℕ → Process
unfolding quiet
goes i code a zero o c = quiet (leaf_over halted)
goes i code a (suc fuel) o c = stepping i a (goes i code a fuel) o c (get_or code o halt)

unfoldable pub take_of : Step → ℕ
take_of (next t d) = t
take_of (ok t) = 0
take_of (sup t) = 0
take_of (ins b t) = 0
take_of (acase s y z) = 0
take_of (spend n y z) = 0
take_of end = 0
take_of halt = 0

unfoldable pub done_of : Step → ℕ
done_of (next t d) = d
done_of (ok t) = 0
done_of (sup t) = 0
done_of (ins b t) = 0
done_of (acase s y z) = 0
done_of (spend n y z) = 0
done_of end = 0
done_of halt = 0

-- "Before: go from take up to ok (accepted), sup (suppressed), end (ended, accepted) or halt. After: go on to a next, end or halt."
-- "Closing .. sends every running leaf to its done target". No action is pending after the verdict and at closing: there the 0 is
-- never read on a passed policy, for acase and sup stand only in pending mode.
unfoldable pub leaf_work : ℕ → List Step → Behaviour
leaf_work i code (before a) s = does (ran i (offset s)) (goes i code a (suc (length code)) (take_of (get_or code (offset s) halt)) (counter s))
leaf_work i code after s = goes i code 0 (suc (length code)) (offset s) (counter s)
leaf_work i code closing s = does (ran i (offset s)) (goes i code 0 (suc (length code)) (done_of (get_or code (offset s) halt)) (counter s))

-- ---- a parallel node

-- a node that was asked before the verdict and still runs is asked again after it
unfoldable pub still_asked : Phase → Bool
still_asked (before a) = true
still_asked after = false
still_asked closing = false

-- "A node halted gives halt; otherwise suppressed if an asked side suppressed."
unfoldable pub judged : State → Bool → Out
judged s u = record { state = s; suppressed = not (is_halted (status s)) && u }

-- "Both asked sides run the phase to its end, left first; then the node's status is read."
unfoldable pub parallel_work : Join → ActionSet → ActionSet → Behaviour → Behaviour → Behaviour
parallel_work j l r left right ph s =
    both l r (left ph (left_of s)) (right ph (right_of s))
    (λ x y. stop (judged (settled j (still_asked ph) x.state y.state) (x.suppressed || y.suppressed)))

-- ---- a sequential node

-- "Status is read after each insert and each part; a decided node stops there: halted halts; ended accepts a, unless the part that
-- has just finished suppressed it, which then stands" (u). Otherwise p follows.
unfoldable pub unless_decided : Join → Bool → Bool → State → State → Process → Process
unless_decided j m u l r p = elim (is_running (joined j (status l) (status r))) [
  | true ↦ p
  | false ↦ stop (record { state = settled j m l r; suppressed = u })
]

-- "Accepted, it is emitted between that turn's phases; suppressed, nothing is emitted; where the right halts instead, nothing is
-- emitted in kind 5, but in kind 7 the insert is."
unfoldable pub emitted : Join → Out → Bool
emitted and x = not (is_halted (status x.state)) && not x.suppressed
emitted or x = is_halted (status x.state) || not x.suppressed

unfoldable pub perhaps : Bool → Item → Process → Process
perhaps true i p = does i p
perhaps false i p = p

module _ (j : Join) (r : ActionSet) (right : Behaviour) where
  -- "each insert of the left side that the right regulates is given to the right as a turn of its own." "Other inserts go straight
  -- out." The left side l waits meanwhile, and counts as running.
  unfoldable pub given : State → Action → State → (State → Process) → Process
  unfolding perhaps
  given l b s k = elim (is_running (status s) && has r b) [
    | true ↦ then (right (before b) s) (λ x. perhaps (emitted j x) (lets b) (then (right after x.state) (λ y. unless_decided j false false l y.state (k y.state))))
    | false ↦ does (lets b) (k s)
  ]

  -- The left side's process, its inserts given on as they come; k is what follows once the left side has stopped. A parallel node
  -- inside the left side is taken left side first: hence the third demand's premise.
  unfoldable pub feed : State → Process → State → (Out → State → Process) → Process
  unfolding given
  feed l (stop x) s k = k x s
  feed l (does (ran i o) p) s k = does (ran i o) (feed l p s k)
  feed l (does (lets b) p) s k = given l b s (λ s'. feed l p s' k)
  feed l (does (sups a) p) s k = does (sups a) (feed l p s k)
  feed l (does (accepts a) p) s k = does (accepts a) (feed l p s k)
  feed l (does (suppresses a) p) s k = does (suppresses a) (feed l p s k)
  feed l (both u v p q g) s k = feed l p s (λ x s'. feed l q s' (λ y s''. feed l (g x y) s'' k))

-- "Before: the left side runs if asked; .. If the left suppressed a, the verdict is suppressed; otherwise the right is asked. After:
-- the right first, if it was asked on a, then the left, if asked, its inserts given on as before." "a sequential node closes its
-- left side first, its inserts given on." Opening, too, takes the right side first: it is an "after" phase.
unfoldable pub sequential_work : Join → ActionSet → Behaviour → Behaviour → Behaviour
sequential_work j r left right (before a) s =
    feed j r right (left_of s) (left (before a) (left_of s)) (right_of s) (λ x t.
    unless_decided j true x.suppressed x.state t
    (elim x.suppressed [
      | true ↦ stop (record { state = settled j true x.state t; suppressed = true })
      | false ↦ then (right (before a) t) (λ y. stop (record { state = settled j true x.state y.state; suppressed = y.suppressed }))
    ]))
sequential_work j r left right after s =
    then (right after (right_of s)) (λ y.
    unless_decided j false false (left_of s) y.state
    (feed j r right (left_of s) (left after (left_of s)) y.state (λ x t. quiet (settled j false x.state t))))
sequential_work j r left right closing s =
    feed j r right (left_of s) (left closing (left_of s)) (right_of s) (λ x t.
    unless_decided j false false x.state t
    (then (right closing t) (λ y. quiet (settled j false x.state y.state))))

-- ---- any node

-- "Only a running node that regulates a is asked; the rest accept." After the verdict: a node that was asked and still runs.
-- Closing: every node that runs.
unfoldable pub is_asked : ActionSet → Phase → State → Bool
is_asked r (before a) s = is_running (status s) && has r a
is_asked r after s = asked s
is_asked r closing s = is_running (status s)

-- the work where the node is asked; else nothing happens
unfoldable pub if_asked : ActionSet → Behaviour → Behaviour
unfolding quiet
if_asked r work ph s = elim (is_asked r ph s) [ true ↦ work ph s | false ↦ quiet s ]

unfoldable pub phase : Tree → Behaviour
unfolding if_asked
phase (leaf i r c code) = if_asked r (leaf_work i code)
phase (trivial i) = if_asked EMPTY (λ ph s. quiet (leaf_over ended))
phase (unsatisfiable i) = if_asked EMPTY (λ ph s. quiet (leaf_over halted))
phase (node parallel j i l r) = if_asked (regulated (node parallel j i l r)) (parallel_work j (regulated l) (regulated r) (phase l) (phase r))
phase (node sequential j i l r) = if_asked (regulated (node sequential j i l r)) (sequential_work j (regulated r) (phase l) (phase r))

-- ---- the calls

-- "Opening is an "after" phase from offset 0 and the counter starts; .. a side not yet opened counts as running."
unfoldable pub fresh : Tree → State
fresh (leaf i r c code) = leaf_state running true 0 c
fresh (trivial i) = leaf_state running true 0 0
fresh (unsatisfiable i) = leaf_state running true 0 0
fresh (node w j i l r) = pair_state running true (fresh l) (fresh r)

pub data Request : Type 0 where
  opening : Request
  offer : Action → Request
  close : Request

unfoldable pub verdict : Bool → Action → Item
verdict true a = suppresses a
verdict false a = accepts a

-- "At the root, an action not regulated is accepted with no change. So is any action once the root has ended." "The verdict's event
-- stands between the phases; a halt before the verdict has none." "Closing a decided root emits nothing and answers its status."
unfoldable pub call : Tree → Request → State → Process
call t opening s = phase t after (fresh t)
call t (offer a) s = elim (is_asked (regulated t) (before a) s) [
  | true ↦ then (phase t (before a) s) (λ x. perhaps (not (is_halted (status x.state))) (verdict x.suppressed a) (phase t after x.state))
  | false ↦ does (accepts a) (quiet s)
]
call t close s = phase t closing s
