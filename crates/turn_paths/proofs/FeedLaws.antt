-- An insert that a node gives to its right side as a turn of its own: the phase before the verdict, the insert's way on, the phase after it, the node's
-- status.
use Prim.Native.Nat.{ℕ}
use mathlib.Core.Path.{◌≡◌, refl, sym, ap, ap₂, ◌∙◌, subst}
use mathlib.Core.Bool.{Bool, true, false, ◌&&◌}
use mathlib.Core.List.{List, ◌∷◌, ◌++◌}
use lib.Dec.{eqb, eqb_refl}
use Rattle.actions.specs.Sets.{Action, has}
use Rattle.actions.proofs.Tests.{yes_of, or-false-left, or-false-right, true-not-false}
use Rattle.spec_policy.specs.Tree.{Join, and, or, Tree, regulated, number_of}
use Rattle.spec_check.specs.Lawful.{holds}
use Rattle.spec_turns.specs.Status.{Status, running, is_running, joined}
use Rattle.spec_turns.specs.State.{State, status, settled}
use Rattle.spec_turns.specs.Process.{Item, lets, Out}
use Rattle.spec_turns.specs.Turn.{before, after, emitted, fresh}
use Rattle.spec_turns.proofs.Walk.{fresh-runs}
use Rattle.turn_paths.specs.Run.{Run, halts, goes, and_then, maybe, fed_after, fed_before, feed_run}
use Rattle.turn_paths.specs.Memory.{Mem, held, ran_of}
use Rattle.turn_paths.specs.Choices.{KeptBut, emits}
use Rattle.turn_paths.proofs.Runs.{unless-running, unless-decided}
use Rattle.turn_paths.proofs.Begin.{held-status}
use Rattle.turn_paths.proofs.Frames.{held_same, held-apart}
use Rattle.turn_paths.specs.Paths.{Feeder, Outside, follows, feeds, feeders, within, Shows, done, stopped, Decided, cut_short, Stops, GoesOn, rights, is_stop, Beside, Turned, Rose}
use Rattle.turn_paths.specs.Rising.{onward, after_on, Half}
use Rattle.turn_paths.proofs.PathLaws.{shows_then, shows-as, shows-from, within_same, stops-here, stops-map}
use Rattle.turn_paths.proofs.RiseLaws.{Rises, to-nearest, given_yes, within-feeds, past, right-same}

-- what follows the right side's turn on an insert, before its verdict
unfoldable pub before_on : Feeder → Action → (Out → State → Run) → Run → Out → Run
before_on f b k p x = maybe (emitted f.join x) (lets b) (and_then (ran_of f.right after x.state) (after_on f k p))

-- whether the insert goes out, by the right side's status
emits-is : (j : Join) (x : Out) → emitted j x ≡ emits j (status x.state) x.suppressed
unfolding emitted emits
emits-is and x = refl
emits-is or x = refl

-- the right side in a state
abbrev out : Tree → Mem → Bool → Out
out t m u = record { state = held t m; suppressed = u }

module _ (f : Feeder) (k : Out → State → Run) (c : Outside) (b : Action) (p : Run) where
  into-fed : (m : Mem) → (is_running (status (held f.right m)) && has (regulated f.right) b) ≡ true
      → within (feeds f k c) m (goes (lets b) p) ≡ within (follows (before_on f b k p) c) m (ran_of f.right (before b) (held f.right m))
  unfolding within feed_run onward fed_before fed_after before_on after_on
  into-fed m a = ap (within c m) (given_yes f.join (regulated f.right) (ran_of f.right) (fresh f.left) b (held f.right m) (λ s. onward f k p s) a)

  goes-out : (m : Mem) (u : Bool) → emitted f.join (out f.right m u) ≡ true
      → before_on f b k p (out f.right m u) ≡ goes (lets b) (and_then (ran_of f.right after (held f.right m)) (after_on f k p))
  unfolding before_on maybe
  goes-out m u e = rw (e, before_on)

  stays-in : (m : Mem) (u : Bool) → emitted f.join (out f.right m u) ≡ false
      → before_on f b k p (out f.right m u) ≡ and_then (ran_of f.right after (held f.right m)) (after_on f k p)
  unfolding before_on maybe
  stays-in m u e = rw (e, before_on)

-- The right side has taken the insert: the node's status is to be read.
pub record Fed (f : Feeder) (gs : List Feeder) (b : Action) (m m' : Mem) (xs : List Item) : Type 0 where
  pub runs : (k : Out → State → Run) (c : Outside) → feeders c ≡ gs → (p : Run)
      → Shows (within (feeds f k c) m (goes (lets b) p)) xs (within c m' (after_on f k p (record { state = held f.right m'; suppressed = false })))
  pub kept : (i : ℕ) → holds f.right i ≡ false → rights gs i ≡ false → m' i ≡ m i

module _ (f : Feeder) (gs : List Feeder) (z : Beside f gs) {b : Action} {m m₁ : Mem} {xs : List Item} {u : Bool}
    (a : (is_running (status (held f.right m)) && has (regulated f.right) b) ≡ true) (g : Turned gs f.right (before b) m m₁ xs (done u)) where
  emitted-as : {v : Bool} → emits f.join (m₁ (number_of f.right)).status u ≡ v → emitted f.join (out f.right m₁ u) ≡ v
  emitted-as e = emits-is f.join (out f.right m₁ u) ∙ ap (λ (s : Status). emits f.join s u) (held-status f.right m₁) ∙ e

  -- the phase before the verdict
  first : (k : Out → State → Run) (c : Outside) → feeders c ≡ gs → (p : Run)
      → Shows (within (feeds f k c) m (goes (lets b) p)) xs (within c m₁ (before_on f b k p (out f.right m₁ u)))
  unfolding GoesOn within and_then feeders
  first k c ec p = shows-from (into-fed f k c b p m a) (g.runs (follows (before_on f b k p) c) ec)

  -- "suppressed, nothing is emitted"
  pub half_in : emits f.join (m₁ (number_of f.right)).status u ≡ false → Half f gs b m m₁ xs
  unfolding within is_stop
  half_in e = record {
    runs = λ k c ec p. shows-as (first k c ec p) (ap (within c m₁) (stays-in f k c b p m₁ u (emitted-as e)));
    kept = λ i o r. g.kept i o r refl;
  }

  -- "Accepted, it is emitted between that turn's phases"
  module _ (e : emits f.join (m₁ (number_of f.right)).status u ≡ true) where
    before-out : (k : Out → State → Run) (c : Outside) → feeders c ≡ gs → (p : Run)
        → Shows (within (feeds f k c) m (goes (lets b) p)) xs (within c m₁ (goes (lets b) (and_then (ran_of f.right after (held f.right m₁)) (after_on f k p))))
    before-out k c ec p = shows-as (first k c ec p) (ap (within c m₁) (goes-out f k c b p m₁ u (emitted-as e)))

    pub half_out : {m₂ : Mem} {ys : List Item} {w : Bool} → Rose gs b m₁ m₂ ys (done w) → Half f gs b m m₂ (xs ++ ys)
    unfolding within is_stop GoesOn
    half_out {m₂} h = record {
      runs = λ k c ec p. shows-as (shows_then (before-out k c ec p) (h.runs c ec _))
          (ap (λ (s : State). within c m₂ (and_then (ran_of f.right after s) (after_on f k p))) (sym (right-same f gs z h)));
      kept = λ i o r. h.kept i r refl ∙ g.kept i o r refl;
    }

    rises-stop-out : {m₂ : Mem} {ys : List Item} {q : ℕ} → Rose gs b m₁ m₂ ys (stopped q)
        → (k : Out → State → Run) (c : Outside) → feeders c ≡ gs → Rises (feeds f k c) b m m₂ (xs ++ ys) (stopped q)
    unfolding Rises GoesOn
    rises-stop-out {m₂} {ys} {q} h k c ec p = past f gs z k c ec q m₂ _ (stops-map q c m₂ _ _ (λ r y. shows_then (before-out k c ec p) y) (h.runs c ec _))

    -- a node further up stops it
    pub rose-stop-out : {m₂ : Mem} {ys : List Item} {q : ℕ} → Rose gs b m₁ m₂ ys (stopped q) → Rose (f ∷ gs) b m m₂ (xs ++ ys) (stopped q)
    unfolding rights is_stop Rises
    rose-stop-out {m₂} {ys} {q} h = record {
      runs = to-nearest b m m₂ (xs ++ ys) (stopped q) (rises-stop-out h);
      kept = λ i o s. h.kept i (or-false-right (holds f.right i) (rights gs i) o) s
          ∙ g.kept i (or-false-left (holds f.right i) (rights gs i) o) (or-false-right (holds f.right i) (rights gs i) o) refl;
    }

-- the phase after the verdict
module _ (f : Feeder) (gs : List Feeder) (z : Beside f gs) {b : Action} {m m₂ : Mem} {xs : List Item} (g : Half f gs b m m₂ xs) where
  pub fed : {m₃ : Mem} {ys : List Item} {v : Bool} → Turned gs f.right after m₂ m₃ ys (done v) → Fed f gs b m m₃ (xs ++ ys)
  unfolding within and_then after_on is_stop GoesOn feeders
  fed h = record { runs = λ k c ec p. shows_then (g.runs k c ec p) (h.runs (follows (after_on f k p) c) ec); kept = λ i o r. h.kept i o r refl ∙ g.kept i o r }

  rises-stop-after : {m₃ : Mem} {ys : List Item} {q : ℕ} → Turned gs f.right after m₂ m₃ ys (stopped q)
      → (k : Out → State → Run) (c : Outside) → feeders c ≡ gs → Rises (feeds f k c) b m m₃ (xs ++ ys) (stopped q)
  unfolding Rises GoesOn Stops feeders
  rises-stop-after {m₃} {ys} {q} h k c ec p =
      past f gs z k c ec q m₃ _ (stops-map q c m₃ _ _ (λ r y. shows_then (g.runs k c ec p) y) (h.runs (follows (after_on f k p) c) ec))

  pub rose-stop-after : {m₃ : Mem} {ys : List Item} {q : ℕ} → Turned gs f.right after m₂ m₃ ys (stopped q) → Rose (f ∷ gs) b m m₃ (xs ++ ys) (stopped q)
  unfolding rights Rises
  rose-stop-after {m₃} {ys} {q} h = record {
    runs = to-nearest b m m₃ (xs ++ ys) (stopped q) (rises-stop-after h);
    kept = λ i o s. h.kept i (or-false-left (holds f.right i) (rights gs i) o) (or-false-right (holds f.right i) (rights gs i) o) s
        ∙ g.kept i (or-false-left (holds f.right i) (rights gs i) o) (or-false-right (holds f.right i) (rights gs i) o);
  }

-- ---- the node's status, its left side counting as running

-- as the two cells tell it
joined-waiting : (f : Feeder) (m : Mem) → joined f.join (status (fresh f.left)) (status (held f.right m)) ≡ joined f.join running (m (number_of f.right)).status
joined-waiting f m = ap₂ (joined f.join) (fresh-runs f.left) (held-status f.right m)

module _ (f : Feeder) (gs : List Feeder) (z : Beside f gs) {b : Action} {m m₃ : Mem} {xs : List Item} (h : Fed f gs b m m₃ xs) where
  -- the left side goes on
  rises-on : is_running (joined f.join running (m₃ (number_of f.right)).status) ≡ true
      → (k : Out → State → Run) (c : Outside) → feeders c ≡ gs → Rises (feeds f k c) b m m₃ xs (done false)
  unfolding Rises GoesOn after_on
  rises-on e k c ec p =
      shows-as (h.runs k c ec p) (ap (within c m₃) (unless-running f.join false false (fresh f.left) (held f.right m₃) (onward f k p (held f.right m₃))
      (ap is_running (joined-waiting f m₃) ∙ e)) ∙ sym (within-feeds f k c m₃ p))

  pub rose-on : is_running (joined f.join running (m₃ (number_of f.right)).status) ≡ true → Rose (f ∷ gs) b m m₃ xs (done false)
  unfolding rights Rises
  rose-on e = record {
    runs = to-nearest b m m₃ xs (done false) (rises-on e);
    kept = λ i o s. h.kept i (or-false-left (holds f.right i) (rights gs i) o) (or-false-right (holds f.right i) (rights gs i) o);
  }

  -- the node is decided: its status is written, and nothing beneath it goes on
  module _ {m₄ : Mem} (w : KeptBut f.number m₃ m₄) (e : is_running (joined f.join running (m₃ (number_of f.right)).status) ≡ false)
      (s : (m₄ f.number).status ≡ joined f.join running (m₃ (number_of f.right)).status) where
    unwritten : held f.right m₄ ≡ held f.right m₃
    unwritten = held_same f.right m₃ m₄ (λ i g. w i (held-apart f.right g z.own))

    decides : Decided f m₄
    decides =
        let q : (m₄ (number_of f.right)).status ≡ (m₃ (number_of f.right)).status = sym (held-status f.right m₄) ∙ ap status unwritten ∙ held-status f.right m₃ in
        record { status = s ∙ ap (joined f.join running) (sym q); over = ap is_running s ∙ e }

    above_same : (c : Outside) → feeders c ≡ gs → (p : Run) → within c m₄ p ≡ within c m₃ p
    above_same c ec p =
        within_same c m₃ m₄ (λ i g. w i (λ q. true-not (subst (λ (fs : List Feeder). rights fs i ≡ true) ec g) (subst (λ (j : ℕ). rights gs j ≡ false) (sym q) z.rights))) p
      where
        true-not : {x : Bool} → x ≡ true → x ≡ false → ⊥
        true-not a b = true-not-false a b

    rises-stop : (k : Out → State → Run) (c : Outside) → feeders c ≡ gs → Rises (feeds f k c) b m m₄ xs (stopped f.number)
    unfolding Rises GoesOn after_on cut_short
    rises-stop k c ec p =
        stops-here f k c m₄ (Shows (within (feeds f k c) m (goes (lets b) p)) xs) decides (shows-as (h.runs k c ec p) (ap (within c m₃)
        (unless-decided f.join false false (fresh f.left) (held f.right m₃) (onward f k p (held f.right m₃)) (ap is_running (joined-waiting f m₃) ∙ e)
        ∙ ap (λ (t : State). halts (record { state = settled f.join false (fresh f.left) t; suppressed = false })) (sym unwritten)) ∙ sym (above_same c ec _)))

    pub rose-stop : Rose (f ∷ gs) b m m₄ xs (stopped f.number)
    unfolding rights is_stop Rises
    rose-stop = record {
      runs = to-nearest b m m₄ xs (stopped f.number) rises-stop;
      kept = λ i o q. w i (λ g. true-not-false (ap (eqb f.number) g ∙ yes_of (eqb f.number f.number) (eqb_refl f.number)) q)
          ∙ h.kept i (or-false-left (holds f.right i) (rights gs i) o) (or-false-right (holds f.right i) (rights gs i) o);
    }

-- ---- a node further up stops it in the phase before the verdict

module _ (f : Feeder) (gs : List Feeder) (z : Beside f gs) {b : Action} {m : Mem} (a : (is_running (status (held f.right m)) && has (regulated f.right) b) ≡ true) where
  rises-stop-before : {m₁ : Mem} {xs : List Item} {q : ℕ} → Turned gs f.right (before b) m m₁ xs (stopped q)
      → (k : Out → State → Run) (c : Outside) → feeders c ≡ gs → Rises (feeds f k c) b m m₁ xs (stopped q)
  unfolding Rises GoesOn Stops within and_then feeders
  rises-stop-before {m₁} {xs} {q} h k c ec p =
      past f gs z k c ec q m₁ _ (stops-map q c m₁ _ _ (λ r g. shows-from (into-fed f k c b p m a) g) (h.runs (follows (before_on f b k p) c) ec))

  pub rose-stop-before : {m₁ : Mem} {xs : List Item} {q : ℕ} → Turned gs f.right (before b) m m₁ xs (stopped q) → Rose (f ∷ gs) b m m₁ xs (stopped q)
  unfolding rights Rises
  rose-stop-before {m₁} {xs} {q} h = record {
    runs = to-nearest b m m₁ xs (stopped q) (rises-stop-before h);
    kept = λ i o s. h.kept i (or-false-left (holds f.right i) (rights gs i) o) (or-false-right (holds f.right i) (rights gs i) o) s;
  }
