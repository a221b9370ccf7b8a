-- What the turn rules can put into a phase, whatever the state: never a verdict, and sides whose order is free only where the tree has
-- a parallel node.
use Prim.Native.Nat.{ℕ, zero, suc}
use mathlib.Core.Bool.{Bool, true, false, ◌&&◌}
use mathlib.Core.List.{List}
use lib.Dec.{T}
use lib.ListN.{get_or}
use Rattle.actions.specs.Sets.{Action, ActionSet, has}
use Rattle.spec_policy.specs.Steps.{Step, next, ok, sup, ins, acase, spend, end, halt}
use Rattle.spec_policy.specs.Tree.{parallel, sequential, Join, Tree, leaf, trivial, unsatisfiable, node, regulated}
use Rattle.spec_turns.specs.Status.{is_running, joined}
use Rattle.spec_turns.specs.State.{State, status, left_of}
use Rattle.spec_turns.specs.Process.{Item, ran, lets, sups, accepts, suppresses, Out, Process, stop, does, both, then, outcome}
use Rattle.spec_turns.specs.Turn.{Phase, before, after, closing, Behaviour, quiet, stepping, goes, leaf_work}
use Rattle.spec_turns.specs.Turn.{parallel_work, unless_decided, perhaps, emitted, given, feed, sequential_work, is_asked, if_asked, phase}
use Rattle.spec_turns.proofs.Safe.{All, no_verdict}

-- Every item passes the test, and there are two sides only if `free`: with `true` this is `All`, with `false` the process goes in line.
unfoldable pub Only : (Item → Bool) → Bool → Process → Type 0
unfolding outcome
Only f free (stop x) = Unit {0}
Only f free (does i p) = T (f i) × Only f free p
Only f free (both l r p q g) = T free × Only f free p × Only f free q × Only f free (g (outcome p) (outcome q))

module _ (f : Item → Bool) (free : Bool) where
  abbrev O : Process → Type 0
  O p = Only f free p

  only_then : (p : Process) (k : Out → Process) → O p → ((x : Out) → O (k x)) → O (then p k)
  unfolding Only then outcome
  only_then (stop x) k h n = n x
  only_then (does i p) k h n = (h.0, only_then p k h.1 n)
  only_then (both l r p q g) k h n = (h.0, h.1, h.2, only_then (g (outcome p) (outcome q)) k h.3 n)

  only_if : (b : Bool) (p q : Process) → O p → O q → O (elim b [ true ↦ p | false ↦ q ])
  only_if true p q h k = h
  only_if false p q h k = k

  only-stop : (x : Out) → O (stop x)
  unfolding Only
  only-stop x = tt

  only-perhaps : (b : Bool) (i : Item) (p : Process) → T (f i) → O p → O (perhaps b i p)
  unfolding Only perhaps
  only-perhaps true i p t h = (t, h)
  only-perhaps false i p t h = h

  only-unless : (j : Join) (m u : Bool) (l r : State) (p : Process) → O p → O (unless_decided j m u l r p)
  unfolding unless_decided
  only-unless j m u l r p h = only_if (is_running (joined j (status l) (status r))) p _ h (only-stop _)

  -- ---- a leaf

  module _ (i : ℕ) (runs : (o : ℕ) → T (f (ran i o))) (out : (b : Action) → T (f (lets b))) (hold : (a : Action) → T (f (sups a))) where
    only_step : (a : Action) (go : ℕ → ℕ → Process) (o c : ℕ) (k : Step) → ((t c' : ℕ) → O (go t c')) → O (stepping i a go o c k)
    unfolding stepping Only quiet
    only_step a go o c (next t d) h = tt
    only_step a go o c (ok t) h = (runs o, tt)
    only_step a go o c (sup t) h = (runs o, (hold a, tt))
    only_step a go o c (ins b t) h = (runs o, (out b, h t c))
    only_step a go o c (acase s y n) h = (runs o, h _ c)
    only_step a go o c (spend m y n) h = (runs o, h _ _)
    only_step a go o c end h = (runs o, tt)
    only_step a go o c halt h = (runs o, tt)

    only-goes : (code : List Step) (a : Action) (fuel o c : ℕ) → O (goes i code a fuel o c)
    unfolding goes quiet
    only-goes code a zero o c = only-stop _
    only-goes code a (suc fuel) o c = only_step a (goes i code a fuel) o c (get_or code o halt) (λ t c'. only-goes code a fuel t c')

    only-leaf : (code : List Step) (ph : Phase) (s : State) → O (leaf_work i code ph s)
    unfolding leaf_work Only
    only-leaf code (before a) s = (runs _, only-goes code a _ _ _)
    only-leaf code after s = only-goes code 0 _ _ _
    only-leaf code closing s = (runs _, only-goes code 0 _ _ _)

  -- ---- a node

  module _ (j : Join) (r : ActionSet) (right : Behaviour) (right-only : (ph : Phase) (s : State) → O (right ph s)) where
    only-given : (l : State) (b : Action) (s : State) (k : State → Process) → T (f (lets b)) → ((t : State) → O (k t)) → O (given j r right l b s k)
    unfolding given
    only-given l b s k t h =
        only_if (is_running (status s) && has r b) _ _
        (only_then (right (before b) s) _ (right-only (before b) s) (λ x. only-perhaps (emitted j x) (lets b) _ t
        (only_then (right after x.state) _ (right-only after x.state) (λ y. only-unless j false false l y.state _ (h y.state)))))
        (unfold Only in (t, h s))

    only-feed : (l : State) (p : Process) (s : State) (k : Out → State → Process) → O p → ((t : State) → O (k (outcome p) t)) → O (feed j r right l p s k)
    unfolding feed Only outcome
    only-feed l (stop x) s k h n = n s
    only-feed l (does (ran i o) p) s k h n = (h.0, only-feed l p s k h.1 n)
    only-feed l (does (lets b) p) s k h n = only-given l b s (λ t. feed j r right l p t k) h.0 (λ t. only-feed l p t k h.1 n)
    only-feed l (does (sups a) p) s k h n = (h.0, only-feed l p s k h.1 n)
    only-feed l (does (accepts a) p) s k h n = (h.0, only-feed l p s k h.1 n)
    only-feed l (does (suppresses a) p) s k h n = (h.0, only-feed l p s k h.1 n)
    only-feed l (both u v p q g) s k h n =
        only-feed l p s (λ x t. feed j r right l q t (λ y t'. feed j r right l (g x y) t' k)) h.1
        (λ t. only-feed l q t (λ y t'. feed j r right l (g (outcome p) y) t' k) h.2 (λ t'. only-feed l (g (outcome p) (outcome q)) t' k h.3 n))

    only-sequential : (left : Behaviour) → ((ph : Phase) (s : State) → O (left ph s)) → (ph : Phase) (s : State) → O (sequential_work j r left right ph s)
    unfolding sequential_work quiet
    only-sequential left h (before a) s =
        let p = left (before a) (left_of s) in
        only-feed _ p _ _ (h (before a) _) (λ t. only-unless j true _ _ t _
        (only_if (outcome p).suppressed _ _ (only-stop _) (only_then (right (before a) t) _ (right-only (before a) t) (λ y. only-stop _))))
    only-sequential left h after s =
        only_then _ _ (right-only after _) (λ y. only-unless j false false _ y.state _ (only-feed _ _ _ _ (h after _) (λ t. only-stop _)))
    only-sequential left h closing s =
        only-feed _ _ _ _ (h closing _) (λ t. only-unless j false false _ t _ (only_then (right closing t) _ (right-only closing t) (λ y. only-stop _)))

  only-asked : (r : ActionSet) (b : Behaviour) → ((ph : Phase) (s : State) → O (b ph s)) → (ph : Phase) (s : State) → O (if_asked r b ph s)
  unfolding if_asked quiet
  only-asked r b h ph s = only_if (is_asked r ph s) _ _ (h ph s) (only-stop _)

  -- ---- a tree

  -- the steps of each of its leaves pass the test, and it has a parallel node only if `free`
  unfoldable pub Suits : Tree → Type 0
  Suits (leaf i r c code) = (o : ℕ) → T (f (ran i o))
  Suits (trivial i) = Unit {0}
  Suits (unsatisfiable i) = Unit {0}
  Suits (node parallel j i l r) = T free × Suits l × Suits r
  Suits (node sequential j i l r) = Suits l × Suits r

  pub only-phase : ((b : Action) → T (f (lets b))) → ((a : Action) → T (f (sups a))) → (t : Tree) → Suits t → (ph : Phase) (s : State) → O (phase t ph s)
  unfolding phase Suits parallel_work quiet Only
  only-phase out hold (leaf i r c code) h = only-asked r (leaf_work i code) (only-leaf i h out hold code)
  only-phase out hold (trivial i) h = only-asked _ _ (λ ph s. tt)
  only-phase out hold (unsatisfiable i) h = only-asked _ _ (λ ph s. tt)
  only-phase out hold (node parallel j i l r) h =
      only-asked _ _ (λ ph s. (h.0, only-phase out hold l h.1 ph _, only-phase out hold r h.2 ph _, tt))
  only-phase out hold (node sequential j i l r) h =
      only-asked _ _ (only-sequential j (regulated r) (phase r) (only-phase out hold r h.1) (phase l) (only-phase out hold l h.0))

-- ---- where two sides are allowed

pub only-all : (f : Item → Bool) (p : Process) → Only f true p → All f p
unfolding Only All outcome
only-all f (stop x) h = tt
only-all f (does i p) h = (h.0, only-all f p h.1)
only-all f (both l r p q g) h = (only-all f p h.1, only-all f q h.2, only-all f (g (outcome p) (outcome q)) h.3)

-- a phase gives no verdict
no-verdicts : (t : Tree) → Suits no_verdict true t
unfolding Suits no_verdict
no-verdicts (leaf i r c code) = λ o. tt
no-verdicts (trivial i) = tt
no-verdicts (unsatisfiable i) = tt
no-verdicts (node parallel j i l r) = (tt, no-verdicts l, no-verdicts r)
no-verdicts (node sequential j i l r) = (no-verdicts l, no-verdicts r)

pub phase-no-verdict : (t : Tree) (ph : Phase) (s : State) → All no_verdict (phase t ph s)
unfolding no_verdict
phase-no-verdict t ph s = only-all no_verdict _ (only-phase no_verdict true (λ b. tt) (λ a. tt) t (no-verdicts t) ph s)
