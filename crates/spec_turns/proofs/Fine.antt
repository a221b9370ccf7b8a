-- A process whose items all pass a test, whose parallel sides leave each other alone, and whose outcome has a property. What the
-- turn rules build keeps it.
use Prim.Native.Nat.{ℕ}
use mathlib.Core.Path.{◌≡◌, refl}
use mathlib.Core.Bool.{Bool, true, false, ◌&&◌}
use lib.Dec.{T}
use Rattle.actions.specs.Sets.{Action, ActionSet, has}
use Rattle.spec_policy.specs.Tree.{Join}
use Rattle.spec_turns.specs.Status.{is_running, joined}
use Rattle.spec_turns.specs.State.{State, status, settled}
use Rattle.spec_turns.specs.Process.{Item, ran, lets, sups, accepts, suppresses, Out, Process, stop, does, both, then, outcome}
use Rattle.spec_turns.specs.Turn.{before, after, closing, Behaviour, perhaps, emitted, unless_decided, given, feed}
use Rattle.spec_turns.proofs.Safe.{All, Safe}

-- The item's action, where it has one, is in the set, and its leaf is one of these. The root's verdict is no node's own item.
unfoldable pub inside : ActionSet → (ℕ → Bool) → Item → Bool
inside e own (ran i o) = own i
inside e own (lets b) = has e b
inside e own (sups a) = has e a
inside e own (accepts a) = false
inside e own (suppresses a) = false

unfoldable pub any : Item → Bool
any i = true

pub record Fine (f : Item → Bool) (Q : Out → Type 0) (p : Process) : Type 0 where
  pub all : All f p
  pub safe : Safe p
  pub outs : Q (outcome p)

-- ---- a weaker test, a weaker property

pub weaken : (f g : Item → Bool) → ((i : Item) → T (f i) → T (g i)) → (p : Process) → All f p → All g p
unfolding All outcome
weaken f g w (stop x) a = tt
weaken f g w (does i p) a = (w i a.0, weaken f g w p a.1)
weaken f g w (both u v p q k) a = (weaken f g w p a.0, weaken f g w q a.1, weaken f g w (k (outcome p) (outcome q)) a.2)

pub fine-weaken : (f g : Item → Bool) (Q : Out → Type 0) → ((i : Item) → T (f i) → T (g i)) → (p : Process) → Fine f Q p → Fine g Q p
fine-weaken f g Q w p h = record { all = weaken f g w p h.all; safe = h.safe; outs = h.outs }

pub fine-any : (f : Item → Bool) (Q : Out → Type 0) (p : Process) → Fine f Q p → Fine any Q p
unfolding any
fine-any f Q = fine-weaken f any Q (λ i t. tt)

pub fine-outs : (f : Item → Bool) (P Q : Out → Type 0) (p : Process) → ((x : Out) → P x → Q x) → Fine f P p → Fine f Q p
fine-outs f P Q p w h = record { all = h.all; safe = h.safe; outs = w (outcome p) h.outs }

-- ---- the parts of a process

pub fine-stop : (f : Item → Bool) (Q : Out → Type 0) (x : Out) → Q x → Fine f Q (stop x)
unfolding All Safe outcome
fine-stop f Q x q = record { all = tt; safe = tt; outs = q }

pub fine-does : (f : Item → Bool) (Q : Out → Type 0) (i : Item) {p : Process} → T (f i) → Fine f Q p → Fine f Q (does i p)
unfolding All Safe outcome
fine-does f Q i t h = record { all = (t, h.all); safe = h.safe; outs = h.outs }

pub fine-then : (f : Item → Bool) (P Q : Out → Type 0) (p : Process) (k : Out → Process) → Fine f P p → ((x : Out) → P x → Fine f Q (k x)) → Fine f Q (then p k)
unfolding All Safe outcome then
fine-then f P Q (stop x) k h n = n x h.outs
fine-then f P Q (does i p) k h n =
    let r = fine-then f P Q p k (record { all = h.all.1; safe = h.safe; outs = h.outs }) n in
    record { all = (h.all.0, r.all); safe = r.safe; outs = r.outs }
fine-then f P Q (both u v p q g) k h n =
    let r = fine-then f P Q (g (outcome p) (outcome q)) k (record { all = h.all.2; safe = h.safe.3; outs = h.outs }) n in
    record { all = (h.all.0, h.all.1, r.all); safe = (h.safe.0, h.safe.1, h.safe.2, r.safe); outs = r.outs }

pub fine-if : (f : Item → Bool) (Q : Out → Type 0) (b : Bool) (p q : Process) → (b ≡ true → Fine f Q p) → (b ≡ false → Fine f Q q)
    → Fine f Q (elim b [ true ↦ p | false ↦ q ])
fine-if f Q true p q h n = h refl
fine-if f Q false p q h n = n refl

pub fine-perhaps : (f : Item → Bool) (Q : Out → Type 0) (b : Bool) (i : Item) {p : Process} → T (f i) → Fine f Q p → Fine f Q (perhaps b i p)
unfolding perhaps
fine-perhaps f Q true i t h = fine-does f Q i t h
fine-perhaps f Q false i t h = h

-- decided: the outcome is the node settled; else what follows
pub fine-unless : (f : Item → Bool) (Q : Out → Type 0) (j : Join) (m u : Bool) (l r : State) (p : Process)
    → (is_running (joined j (status l) (status r)) ≡ false → Q (record { state = settled j m l r; suppressed = u })) → Fine f Q p
    → Fine f Q (unless_decided j m u l r p)
unfolding unless_decided
fine-unless f Q j m u l r p q h = fine-if f Q (is_running (joined j (status l) (status r))) _ _ (λ e. h) (λ e. fine-stop f Q _ (q e))

-- ---- a behaviour that is fine: from a state at rest before the verdict to one between the phases, and back; closing decides it

pub record Good (f : Item → Bool) (Rest Mid Over : State → Type 0) (b : Behaviour) : Type 0 where
  pub pre : (a : Action) (s : State) → Rest s → Fine f (λ x. Mid x.state) (b (before a) s)
  pub post : (s : State) → Mid s → Fine f (λ x. Rest x.state) (b after s)
  pub shut : (s : State) → Rest s → Fine f (λ x. Over x.state) (b closing s)

pub good-weaken : (f g : Item → Bool) (R M O : State → Type 0) (b : Behaviour) → ((i : Item) → T (f i) → T (g i)) → Good f R M O b → Good g R M O b
good-weaken f g R M O b w h = record {
  pre = λ a s q. fine-weaken f g (λ x. M x.state) w (b (before a) s) (h.pre a s q);
  post = λ s q. fine-weaken f g (λ x. R x.state) w (b after s) (h.post s q);
  shut = λ s q. fine-weaken f g (λ x. O x.state) w (b closing s) (h.shut s q);
}

-- ---- feeding: the left side's items pass the test, and the right side is at rest whenever an insert comes

module _ (f : Item → Bool) (R M O : State → Type 0) (j : Join) (r : ActionSet) (right : Behaviour) (good : Good f R M O right)
    (Q : Out → Type 0) (l : State)
    (decided : (t : State) → R t → is_running (joined j (status l) (status t)) ≡ false → Q (record { state = settled j false l t; suppressed = false })) where
  fine-given : (b : Action) (s : State) (k : State → Process) → T (f (lets b)) → R s → ((t : State) → R t → Fine f Q (k t)) → Fine f Q (given j r right l b s k)
  unfolding given
  fine-given b s k t h n =
      fine-if f Q (is_running (status s) && has r b) _ _
      (λ e. fine-then f (λ x. M x.state) Q (right (before b) s) _ (good.pre b s h)
      (λ x m. fine-perhaps f Q (emitted j x) (lets b) t
      (fine-then f (λ y. R y.state) Q (right after x.state) _ (good.post x.state m)
      (λ y m'. fine-unless f Q j false false l y.state (k y.state) (decided y.state m') (n y.state m')))))
      (λ e. fine-does f Q (lets b) t (n s h))

  pub fine-feed : (p : Process) (s : State) (k : Out → State → Process) → All f p → R s → ((t : State) → R t → Fine f Q (k (outcome p) t))
      → Fine f Q (feed j r right l p s k)
  unfolding feed All outcome
  fine-feed (stop x) s k a h n = n s h
  fine-feed (does (ran i o) p) s k a h n = fine-does f Q (ran i o) a.0 (fine-feed p s k a.1 h n)
  fine-feed (does (lets b) p) s k a h n = fine-given b s (λ s'. feed j r right l p s' k) a.0 h (λ t h'. fine-feed p t k a.1 h' n)
  fine-feed (does (sups b) p) s k a h n = fine-does f Q (sups b) a.0 (fine-feed p s k a.1 h n)
  fine-feed (does (accepts b) p) s k a h n = fine-does f Q (accepts b) a.0 (fine-feed p s k a.1 h n)
  fine-feed (does (suppresses b) p) s k a h n = fine-does f Q (suppresses b) a.0 (fine-feed p s k a.1 h n)
  fine-feed (both u v p q g) s k a h n =
      fine-feed p s _ a.0 h (λ t h'. fine-feed q t _ a.1 h' (λ t' h''. fine-feed (g (outcome p) (outcome q)) t' k a.2 h'' n))
