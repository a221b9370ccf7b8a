-- What is counted along a process, left side first: inserts, events or single steps. A leaf's count is bounded by its steps ahead.
--
use Prim.Native.Nat.{ℕ, zero, suc, ◌+◌, ◌*◌, ◌-◌, ◌≤◌, ◌<◌, zero-le}
use native.Mathlib.Nat.{le_refl, le_of_suc-le-suc, not-suc-le-zero}
use native.Mathlib.Omega.{arith}
use mathlib.Core.Path.{◌≡◌, refl, sym, subst, ap, ◌∙◌}
use mathlib.Core.Logic.{inl, inr}
use mathlib.Core.Bool.{Bool, true, false, not}
use mathlib.Core.List.{List, [], ◌∷◌, ◌++◌, append_assoc}
use lib.ListN.{length, get_or, drop}
use Rattle.actions.specs.Sets.{Action, ActionSet, has}
use Rattle.actions.proofs.Tests.{yes_of}
use Rattle.spec_policy.specs.Lists.{one}
use Rattle.spec_policy.specs.Steps.{Step, next, ok, sup, ins, acase, spend, end, halt, targets, is_next, is_ins}
use Rattle.spec_policy.specs.Tree.{Join}
use Rattle.spec_check.specs.Lawful.{Ahead, AllAhead, Inside, Forward, LawfulLeaf}
use Rattle.spec_turns.specs.Status.{is_running, joined}
use Rattle.spec_turns.specs.State.{State, status, asked, offset, leaf_over, settled}
use Rattle.spec_turns.specs.Process.{Item, ran, Out, Process, stop, does, both, then, outcome, items, trace}
use Rattle.spec_turns.specs.Turn.{quiet, which, affords, stepping, goes, unless_decided, perhaps}
use Rattle.spec_turns.specs.Events.{Event, event_of, events}
use Rattle.laws_turns.specs.Counts.{worth, count}

-- ---- counting

module _ (w : Item → ℕ) where
  unfoldable pub valued : List Item → ℕ
  valued [] = 0
  valued (i ∷ xs) = w i + valued xs

  valued-append : (xs ys : List Item) → valued (xs ++ ys) ≡ valued xs + valued ys
  unfolding valued
  valued-append [] ys = omega arith
  valued-append (i ∷ xs) ys = omega (arith, valued-append xs ys)

  pub count-items : (p : Process) → count w p ≡ valued (items (trace p))
  unfolding count valued items trace
  count-items (stop x) = refl
  count-items (does i p) = omega (arith, count-items p)
  count-items (both l r p q g) =
      omega (
        arith,
        count-items p,
        count-items q,
        count-items (g (outcome p) (outcome q)),
        valued-append (items (trace p)) (items (trace q)),
        valued-append (items (trace p) ++ items (trace q)) (items (trace (g (outcome p) (outcome q)))),
      )

-- ---- with what may still follow the outcome

module _ (w : Item → ℕ) where
  unfoldable pub weight : (Out → ℕ) → Process → ℕ
  weight f p = count w p + f (outcome p)

  pub weight-then : (f g : Out → ℕ) (p : Process) (k : Out → Process) (m n : ℕ) → weight g p ≤ m → ((x : Out) → weight f (k x) ≤ g x + n)
      → weight f (then p k) ≤ m + n
  unfolding weight count outcome then
  weight-then f g p k m n h q = omega (arith, go p, q (outcome p))
    where
      go : (p : Process) → weight f (then p k) ≡ count w p + weight f (k (outcome p))
      go (stop x) = omega arith
      go (does i p) = omega (arith, go p)
      go (both l r p q g) = omega (arith, go (g (outcome p) (outcome q)))

module _ (w : Item → ℕ) (f : Out → ℕ) where
  pub weight-if : (b : Bool) (p q : Process) (n : ℕ) → (b ≡ true → weight w f p ≤ n) → (b ≡ false → weight w f q ≤ n) → weight w f (elim b [ true ↦ p | false ↦ q ]) ≤ n
  weight-if true p q n h k = h refl
  weight-if false p q n h k = k refl

  pub weight-unless : (j : Join) (m u : Bool) (l r : State) (p : Process) (n : ℕ) → f (record { state = settled j m l r; suppressed = u }) ≤ n → weight w f p ≤ n
      → weight w f (unless_decided j m u l r p) ≤ n
  unfolding unless_decided weight count outcome
  weight-unless j m u l r p n q h =
      let x : Out = record { state = settled j m l r; suppressed = u } in
      weight-if (is_running (joined j (status l) (status r))) p (stop x) n (λ e. h) (λ e. omega arith)

  pub weight-perhaps : (b : Bool) (i : Item) (p : Process) (n : ℕ) → weight w f p ≤ n → weight w f (perhaps b i p) ≤ n + w i
  unfolding weight count outcome perhaps
  weight-perhaps true i p n h = omega arith
  weight-perhaps false i p n h = omega arith

-- ---- what is owed

unfoldable pub none_if : Bool → ℕ → ℕ
none_if true n = 0
none_if false n = n

pub none-le : (b : Bool) (n : ℕ) → none_if b n ≤ n
unfolding none_if
none-le true n = zero-le
none-le false n = le_refl n

-- Only a marked node owes anything: d, which goes by its state.
unfoldable pub owing : (State → ℕ) → State → ℕ
owing d s = none_if (not (asked s)) (d s)

pub owing-le : (d : State → ℕ) (s : State) → owing d s ≤ d s
unfolding owing
owing-le d s = none-le (not (asked s)) (d s)

-- ---- a leaf: a step runs at most once on the way to the next, for every target is later than its step or is a next

module _ (u v : ℕ) where
  -- what a step is worth that runs
  unfoldable pub price : Step → ℕ
  price k = none_if (is_next k) u + v * one (is_ins k)

  unfoldable pub prices : List Step → ℕ
  prices [] = 0
  prices (k ∷ code) = price k + prices code

  -- what the leaf may still be worth from offset o on: nothing where it waits
  unfoldable pub ahead : List Step → ℕ → ℕ
  ahead code o = none_if (is_next (get_or code o halt)) (price (get_or code o halt) + prices (drop (suc o) code))

  -- a step is among those from o on
  pub ahead_in : (code : List Step) (o t : ℕ) → o ≤ t → t < length code → ahead code t ≤ prices (drop o code)
  unfolding ahead prices
  ahead_in [] o t h l = absurd (not-suc-le-zero l)
  ahead_in (k ∷ code) zero zero h l = none-le (is_next k) (price k + prices code)
  ahead_in (k ∷ code) zero (suc t) h l = omega (arith, ahead_in code zero t zero-le (le_of_suc-le-suc l))
  ahead_in (k ∷ code) (suc o) zero h l = absurd (not-suc-le-zero h)
  ahead_in (k ∷ code) (suc o) (suc t) h l = ahead_in code o t (le_of_suc-le-suc h) (le_of_suc-le-suc l)

  -- what may follow the step at o, after it
  pub ahead-target : (code : List Step) (o t : ℕ) → Ahead code o t → t < length code → ahead code t ≤ prices (drop (suc o) code)
  unfolding Ahead ahead none_if
  ahead-target code o t (inl h) l = ahead_in code (suc o) t h l
  ahead-target code o t (inr h) l =
      subst (λ (b : Bool). none_if b (price (get_or code t halt) + prices (drop (suc t) code)) ≤ prices (drop (suc o) code)) (sym (yes_of (is_next (get_or code t halt)) h)) zero-le

  Near : List Step → ℕ → List ℕ → Type 0
  Near code n [] = Unit {0}
  Near code n (t ∷ ts) = (ahead code t ≤ n) × Near code n ts

  near : (code : List Step) (o : ℕ) (ts : List ℕ) → AllAhead code o ts → Inside (length code) ts → Near code (prices (drop (suc o) code)) ts
  unfolding Near AllAhead Inside
  near code o [] h k = tt
  near code o (t ∷ ts) h k = (ahead-target code o t h.0 k.0, near code o ts h.1 k.1)

  module _ (z i : ℕ) (code : List Step) where
    -- what a leaf owes
    abbrev left : Out → ℕ
    left x = owing (λ s. ahead code (offset s)) x.state

    which-le : (n : ℕ) (F : ℕ → ℕ) (b : Bool) (x y : ℕ) → F x ≤ n → F y ≤ n → F (which b x y) ≤ n
    unfolding which
    which-le n F true x y p q = p
    which-le n F false x y p q = q

    step-le : (a : Action) (go : ℕ → ℕ → Process) (o c n : ℕ) (k : Step) → Near code n (targets k) → ((t c' : ℕ) → weight (worth u v z) left (go t c') ≤ ahead code t)
        → weight (worth u v z) left (stepping i a go o c k) ≤ none_if (is_next k) (price k + n)
    unfolding stepping quiet weight worth count outcome owing none_if asked offset leaf_over targets Near is_ins is_next one price
    step-le a go o c n (next t d) h f = omega arith
    step-le a go o c n (ok t) h f = omega arith
    step-le a go o c n (sup t) h f = omega arith
    step-le a go o c n (ins b t) h f = omega (arith, f t c)
    step-le a go o c n (acase s x y) h f = which-le _ (λ t. weight (worth u v z) left (does (ran i o) (go t c))) (has s a) x y (omega (arith, f x c)) (omega (arith, f y c))
    step-le a go o c n (spend m x y) h f =
        let c' : ℕ = which (affords c m) (c - m) c in
        which-le _ (λ t. weight (worth u v z) left (does (ran i o) (go t c'))) (affords c m) x y (omega (arith, f x c')) (omega (arith, f y c'))
    step-le a go o c n end h f = omega arith
    step-le a go o c n halt h f = omega arith

    pub goes-le : {r : ActionSet} → LawfulLeaf r code → (a : Action) (fuel o c : ℕ) → weight (worth u v z) left (goes i code a fuel o c) ≤ ahead code o
    unfolding goes ahead Forward quiet weight count outcome owing leaf_over none_if asked
    goes-le law a zero o c = zero-le
    goes-le law a (suc fuel) o c =
        step-le a (goes i code a fuel) o c (prices (drop (suc o) code)) (get_or code o halt)
        (near code o (targets (get_or code o halt)) (law.forward o) (law.inside o)) (λ t c'. goes-le law a fuel t c')

-- ---- events of items in a row

pub events-append : (xs ys : List Item) → events (xs ++ ys) ≡ events xs ++ events ys
unfolding events
events-append [] ys = refl
events-append (x ∷ xs) ys = ap (λ (l : List Event). event_of x ++ l) (events-append xs ys) ∙ sym (append_assoc (event_of x) (events xs) (events ys))
