-- An insert on its way up: past a node whose right side is not asked, to one whose right side takes it, out at the root.
use Prim.Native.Nat.{ℕ}
use mathlib.Core.Path.{◌≡◌, refl, sym, ap, ◌∙◌, subst}
use mathlib.Core.Bool.{Bool, true, false, ◌&&◌}
use mathlib.Core.List.{List, [], ◌∷◌}
use Rattle.actions.specs.Sets.{Action, ActionSet, has}
use Rattle.actions.proofs.Tests.{or-false-right}
use Rattle.spec_policy.specs.Tree.{Join, regulated}
use Rattle.spec_check.specs.Lawful.{holds}
use Rattle.spec_turns.specs.Status.{is_running}
use Rattle.spec_turns.specs.State.{State, status}
use Rattle.spec_turns.specs.Process.{Item, lets, Out}
use Rattle.spec_turns.specs.Turn.{Phase, before, fresh}
use Rattle.turn_paths.specs.Run.{Run, goes, and_then, fed_before, feed_run, given_run, first}
use Rattle.turn_paths.specs.Memory.{Mem, held, ran_of}
use Rattle.turn_paths.proofs.Frames.{held_same}
use Rattle.turn_paths.specs.Paths.{Feeder, Outside, root, follows, feeds, feeders, within, Shows, Ended, done, stopped, Stops, GoesOn, rights, numbers, is_stop, Beside, Rose}
use Rattle.turn_paths.specs.Rising.{onward}
use Rattle.turn_paths.proofs.PathLaws.{shows-as, shows-from, stops-in, not_own, stops-past, stops-map}

-- ---- lists

IsEmpty : List Feeder → Type 0
IsEmpty [] = Unit {0}
IsEmpty (x ∷ xs) = ⊥

first_or : Feeder → List Feeder → Feeder
first_or d [] = d
first_or d (x ∷ xs) = x

rest_of : List Feeder → List Feeder
rest_of [] = []
rest_of (x ∷ xs) = xs

-- ---- from any place beneath the same nodes to the nearest of them

unfoldable pub Rises : Outside → Action → Mem → Mem → List Item → Ended → Type 0
Rises c b m m' xs x = (p : Run) → GoesOn c m' (λ u. p) x (Shows (within c m (goes (lets b) p)) xs)

pub goes-follows : (k : Out → Run) (c : Outside) (m : Mem) (p : Bool → Run) (x : Ended) (P : Run → Type 0)
    → GoesOn c m (λ u. and_then (p u) k) x P → GoesOn (follows k c) m p x P
unfolding GoesOn within Stops
goes-follows k c m p (done u) P h = h
goes-follows k c m p (stopped n) P h = h

module _ (b : Action) (m m' : Mem) (xs : List Item) (x : Ended) where
  rises-follows : (k : Out → Run) (c : Outside) → Rises c b m m' xs x → Rises (follows k c) b m m' xs x
  unfolding Rises within and_then
  rises-follows k c h p = goes-follows k c m' (λ u. p) x _ (h (and_then p k))

  pub to-nearest : {f : Feeder} {gs : List Feeder} → ((k : Out → State → Run) (c : Outside) → feeders c ≡ gs → Rises (feeds f k c) b m m' xs x)
      → (c : Outside) → feeders c ≡ f ∷ gs → Rises c b m m' xs x
  unfolding feeders IsEmpty first_or rest_of
  to-nearest h root e = absurd (subst IsEmpty e tt)
  to-nearest h (follows k c) e = rises-follows k c (to-nearest h c e)
  to-nearest {f} {gs} h (feeds g k c) e = subst (λ (z : Feeder). Rises (feeds z k c) b m m' xs x) (sym (ap (first_or f) e)) (h k c (ap rest_of e))

-- ---- no node above: the insert goes out

out : (c : Outside) → feeders c ≡ [] → (m : Mem) (b : Action) (p : Run) → within c m (goes (lets b) p) ≡ goes (lets b) (within c m p)
unfolding feeders within and_then IsEmpty
out root e m b p = refl
out (follows k c) e m b p = out c e m b (and_then p k)
out (feeds f k c) e m b p = absurd (subst IsEmpty (sym e) tt)

pub rose-out : (b : Action) (m : Mem) → Rose [] b m m (lets b ∷ []) (done false)
unfolding GoesOn first
rose-out b m = record { runs = λ c e p. record { is = out c e m b p }; kept = λ i o s. refl }

-- ---- a node whose right side is not asked

given-no : (j : Join) (r : ActionSet) (right : Phase → State → Run) (l : State) (b : Action) (s : State) (k : State → Run)
    → (is_running (status s) && has r b) ≡ false → given_run j r right l b s k ≡ goes (lets b) (k s)
unfolding given_run
given-no j r right l b s k e = rw (e, given_run)

pub given_yes : (j : Join) (r : ActionSet) (right : Phase → State → Run) (l : State) (b : Action) (s : State) (k : State → Run)
    → (is_running (status s) && has r b) ≡ true → given_run j r right l b s k ≡ fed_before j r right l b (right (before b) s) k
unfolding given_run
given_yes j r right l b s k e = rw (e, given_run)

pub within-feeds : (f : Feeder) (k : Out → State → Run) (c : Outside) (m : Mem) (p : Run) → within (feeds f k c) m p ≡ within c m (onward f k p (held f.right m))
unfolding within onward
within-feeds f k c m p = refl

-- an insert that the right side is not asked about, and one that it is
into-past : (f : Feeder) (k : Out → State → Run) (c : Outside) (m : Mem) (b : Action) (p : Run)
    → (is_running (status (held f.right m)) && has (regulated f.right) b) ≡ false
    → within (feeds f k c) m (goes (lets b) p) ≡ within c m (goes (lets b) (onward f k p (held f.right m)))
unfolding within feed_run onward
into-past f k c m b p a = ap (within c m) (given-no f.join (regulated f.right) (ran_of f.right) (fresh f.left) b (held f.right m) (λ s. onward f k p s) a)

module _ (f : Feeder) (gs : List Feeder) (z : Beside f gs) where
  -- a stop further up
  pub past : (k : Out → State → Run) (c : Outside) → feeders c ≡ gs → (n : ℕ) (m : Mem) (P : Run → Type 0) → Stops n c m P → Stops n (feeds f k c) m P
  past k c ec n m P h = stops-past n f k c m P (not_own gs f.number n z.numbers (subst (λ (fs : List Feeder). numbers fs n ≡ true) ec (stops-in n c m P h))) h

  -- a rise above the node leaves its right side's cells
  pub right-same : {b : Action} {m m' : Mem} {xs : List Item} {u : Bool} → Rose gs b m m' xs (done u) → held f.right m' ≡ held f.right m
  unfolding is_stop
  right-same {b} {m} {m'} h = held_same f.right m m' (λ i e. h.kept i (z.apart.rights i e) refl)

  module _ {b : Action} {m m' : Mem} {xs : List Item} (a : (is_running (status (held f.right m)) && has (regulated f.right) b) ≡ false) where
    rises-past : (x : Ended) → Rose gs b m m' xs x → (k : Out → State → Run) (c : Outside) → feeders c ≡ gs → Rises (feeds f k c) b m m' xs x
    unfolding Rises GoesOn
    rises-past (done u) h k c ec p =
        shows-from (into-past f k c m b p a) (shows-as (h.runs c ec (onward f k p (held f.right m)))
        (ap (λ (s : State). within c m' (onward f k p s)) (sym (right-same h)) ∙ sym (within-feeds f k c m' p)))
    rises-past (stopped j) h k c ec p =
        past k c ec j m' _ (stops-map j c m' _ _ (λ r g. shows-from (into-past f k c m b p a) g) (h.runs c ec (onward f k p (held f.right m))))

    pub rose-past : {x : Ended} → Rose gs b m m' xs x → Rose (f ∷ gs) b m m' xs x
    unfolding rights Rises
    rose-past {x} h = record {
      runs = to-nearest b m m' xs x (rises-past x h);
      kept = λ i o s. h.kept i (or-false-right (holds f.right i) (rights gs i) o) s;
    }
