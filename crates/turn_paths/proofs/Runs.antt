-- A process and what it runs, left side first.
use mathlib.Core.Path.{◌≡◌, refl, sym, ap, ◌∙◌}
use mathlib.Core.Bool.{Bool, true, false, ◌&&◌}
use Rattle.actions.specs.Sets.{Action, ActionSet, has}
use Rattle.spec_policy.specs.Tree.{Join}
use Rattle.spec_turns.specs.Status.{is_running, joined}
use Rattle.spec_turns.specs.State.{State, status, settled}
use Rattle.spec_turns.specs.Process.{Item, ran, lets, sups, accepts, suppresses, Out, Process, stop, does, both, then}
use Rattle.spec_turns.specs.Turn.{Phase, before, after, Behaviour, emitted, unless_decided, perhaps, given, feed}
use Rattle.turn_paths.specs.Run.{Run, halts, goes, and_then, flat, unless_run, maybe, fed_after, fed_before, given_run, feed_run}

pub ext : {A B : Type 0} {f g : A → B} → ((x : A) → f x ≡ g x) → f ≡ g
ext h = λ i x. h x i

pub ext₂ : {A B C : Type 0} {f g : A → B → C} → ((x : A) (y : B) → f x y ≡ g x y) → f ≡ g
ext₂ h = λ i x y. h x y i

-- ---- what a process runs

pub assoc : (p : Run) (k n : Out → Run) → and_then (and_then p k) n ≡ and_then p (λ x. and_then (k x) n)
unfolding and_then
assoc (halts x) k n = refl
assoc (goes i p) k n = ap (goes i) (assoc p k n)

pub flat-then : (p : Process) (k : Out → Process) → flat (then p k) ≡ and_then (flat p) (λ x. flat (k x))
unfolding flat then and_then
flat-then (stop x) k = refl
flat-then (does i p) k = ap (goes i) (flat-then p k)
flat-then (both l r p q g) k =
    ap (and_then (flat p)) (ext (λ x. ap (and_then (flat q)) (ext (λ y. flat-then (g x y) k)) ∙ sym (assoc (flat q) (λ y. flat (g x y)) (λ z. flat (k z)))))
    ∙ sym (assoc (flat p) (λ x. and_then (flat q) (λ y. flat (g x y))) (λ z. flat (k z)))

pub flat-if : (b : Bool) (p q : Process) → flat (elim b [ true ↦ p | false ↦ q ]) ≡ elim b [ true ↦ flat p | false ↦ flat q ]
flat-if true p q = refl
flat-if false p q = refl

pub flat-unless : (j : Join) (m u : Bool) (l r : State) (p : Process) → flat (unless_decided j m u l r p) ≡ unless_run j m u l r (flat p)
unfolding flat unless_decided unless_run
flat-unless j m u l r p = flat-if (is_running (joined j (status l) (status r))) p (stop (record { state = settled j m l r; suppressed = u }))

pub flat-perhaps : (b : Bool) (i : Item) (p : Process) → flat (perhaps b i p) ≡ maybe b i (flat p)
unfolding flat perhaps maybe
flat-perhaps true i p = refl
flat-perhaps false i p = refl

-- feeding one run after another
module _ (j : Join) (r : ActionSet) (right : Phase → State → Run) (l : State) where
  pub feed-then : (p : Run) (n : Out → Run) (s : State) (k : Out → State → Run)
      → feed_run j r right l (and_then p n) s k ≡ feed_run j r right l p s (λ x t. feed_run j r right l (n x) t k)
  unfolding and_then feed_run
  feed-then (halts x) n s k = refl
  feed-then (goes (ran i o) p) n s k = ap (goes (ran i o)) (feed-then p n s k)
  feed-then (goes (lets b) p) n s k = ap (given_run j r right l b s) (ext (λ t. feed-then p n t k))
  feed-then (goes (sups a) p) n s k = ap (goes (sups a)) (feed-then p n s k)
  feed-then (goes (accepts a) p) n s k = ap (goes (accepts a)) (feed-then p n s k)
  feed-then (goes (suppresses a) p) n s k = ap (goes (suppresses a)) (feed-then p n s k)

module _ (j : Join) (r : ActionSet) (right : Behaviour) (l : State) where
  -- what follows the right side's turn on an insert, before its verdict
  flat-given-on : (b : Action) (k : State → Process) (x : Out)
      → flat (perhaps (emitted j x) (lets b) (then (right after x.state) (λ y. unless_decided j false false l y.state (k y.state))))
      ≡ maybe (emitted j x) (lets b) (fed_after j r (λ ph s. flat (right ph s)) l (flat (right after x.state)) (λ t. flat (k t)))
  unfolding fed_after
  flat-given-on b k x =
      flat-perhaps (emitted j x) (lets b) _
      ∙ ap (maybe (emitted j x) (lets b)) (flat-then (right after x.state) _
      ∙ ap (and_then (flat (right after x.state))) (ext (λ y. flat-unless j false false l y.state (k y.state))))

  pub flat-given : (b : Action) (s : State) (k : State → Process)
      → flat (given j r right l b s k) ≡ given_run j r (λ ph s. flat (right ph s)) l b s (λ t. flat (k t))
  unfolding given given_run fed_before flat
  flat-given b s k =
      flat-if (is_running (status s) && has r b) _ (does (lets b) (k s))
      ∙ ap (λ (p : Run). elim (is_running (status s) && has r b) [ true ↦ p | false ↦ goes (lets b) (flat (k s)) ])
      (flat-then (right (before b) s) _ ∙ ap (and_then (flat (right (before b) s))) (ext (flat-given-on b k)))

  -- feeding the process, and feeding what it runs
  pub flat-feed : (p : Process) (s : State) (k : Out → State → Process)
      → flat (feed j r right l p s k) ≡ feed_run j r (λ ph s. flat (right ph s)) l (flat p) s (λ x t. flat (k x t))
  unfolding flat feed feed_run
  flat-feed (stop x) s k = refl
  flat-feed (does (ran i o) p) s k = ap (goes (ran i o)) (flat-feed p s k)
  flat-feed (does (lets b) p) s k =
      flat-given b s (λ t. feed j r right l p t k) ∙ ap (given_run j r (λ ph s. flat (right ph s)) l b s) (ext (λ t. flat-feed p t k))
  flat-feed (does (sups a) p) s k = ap (goes (sups a)) (flat-feed p s k)
  flat-feed (does (accepts a) p) s k = ap (goes (accepts a)) (flat-feed p s k)
  flat-feed (does (suppresses a) p) s k = ap (goes (suppresses a)) (flat-feed p s k)
  flat-feed (both u v p q g) s k =
      let rr : Phase → State → Run = λ ph s. flat (right ph s) in
      flat-feed p s (λ x t. feed j r right l q t (λ y t'. feed j r right l (g x y) t' k))
      ∙ ap (feed_run j r rr l (flat p) s) (ext₂ (λ x t.
      flat-feed q t (λ y t'. feed j r right l (g x y) t' k)
      ∙ ap (feed_run j r rr l (flat q) t) (ext₂ (λ y t'. flat-feed (g x y) t' k))
      ∙ sym (feed-then j r rr l (flat q) (λ y. flat (g x y)) t (λ z w. flat (k z w)))))
      ∙ sym (feed-then j r rr l (flat p) (λ x. and_then (flat q) (λ y. flat (g x y))) s (λ z w. flat (k z w)))

-- ---- an insert that stays in, and a status that was read

pub maybe-no : {u : Bool} (i : Item) (p : Run) → u ≡ false → maybe u i p ≡ p
unfolding maybe
maybe-no i p e = rw (e, maybe)

module _ (j : Join) (m u : Bool) (l r : State) (p : Run) where
  pub unless-running : is_running (joined j (status l) (status r)) ≡ true → unless_run j m u l r p ≡ p
  unfolding unless_run
  unless-running e = rw (e, unless_run)

  pub unless-decided : is_running (joined j (status l) (status r)) ≡ false → unless_run j m u l r p ≡ halts (record { state = settled j m l r; suppressed = u })
  unfolding unless_run
  unless-decided e = rw (e, unless_run)
