-- What a run shows where it stands in the tree.
use Prim.Native.Nat.{ℕ}
use mathlib.Core.Path.{◌≡◌, refl, sym, ap, ◌∙◌, subst}
use mathlib.Core.Bool.{Bool, true, false, ◌||◌}
use mathlib.Core.Logic.{⊎_elim}
use mathlib.Core.List.{List, [], ◌∷◌, ◌++◌}
use lib.Dec.{T, eqb, eqb→eq, eqb_refl}
use Rattle.actions.specs.Sets.{ActionSet}
use Rattle.actions.proofs.Tests.{yes_of, bool_cases, true-not-false}
use Rattle.spec_policy.specs.Tree.{Join, regulated}
use Rattle.spec_check.specs.Lawful.{holds}
use Rattle.spec_turns.specs.State.{State}
use Rattle.spec_turns.specs.Process.{Item, ran, lets, sups, accepts, suppresses, Out}
use Rattle.spec_turns.specs.Turn.{Phase, fresh}
use Rattle.turn_paths.specs.Run.{Run, halts, goes, and_then, feed_run, first, silent, AllSilent}
use Rattle.turn_paths.specs.Memory.{Mem, held, ran_of}
use Rattle.turn_paths.proofs.Frames.{held_same}
use Rattle.turn_paths.specs.Paths.{Feeder, Outside, root, follows, feeds, feeders, within, Shows, Ended, done, stopped, Decided, cut_short, If, Stops, GoesOn, rights, numbers}

-- ---- what is seen

pub first-append : (xs ys : List Item) (p : Run) → first (xs ++ ys) p ≡ first xs (first ys p)
unfolding first
first-append [] ys p = refl
first-append (i ∷ xs) ys p = ap (goes i) (first-append xs ys p)

pub shows_same : {p q : Run} → p ≡ q → Shows p [] q
unfolding first
shows_same e = record { is = e }

pub shows_then : {p q r : Run} {xs ys : List Item} → Shows p xs q → Shows q ys r → Shows p (xs ++ ys) r
shows_then {p} {q} {r} {xs} {ys} h g = record { is = h.is ∙ ap (first xs) g.is ∙ sym (first-append xs ys r) }

pub shows-as : {p q r : Run} {xs : List Item} → Shows p xs q → q ≡ r → Shows p xs r
shows-as {p} {q} {r} {xs} h e = record { is = h.is ∙ ap (first xs) e }

pub shows-from : {p q r : Run} {xs : List Item} → p ≡ q → Shows q xs r → Shows p xs r
shows-from e h = record { is = e ∙ h.is }

-- ---- what a node does besides letting out is seen at the root as it is

feed-silent : (j : Join) (r : ActionSet) (right : Phase → State → Run) (l : State) (i : Item) → T (silent i) → (p : Run) (s : State) (k : Out → State → Run)
    → feed_run j r right l (goes i p) s k ≡ goes i (feed_run j r right l p s k)
unfolding silent feed_run
feed-silent j r right l (ran i o) h p s k = refl
feed-silent j r right l (lets b) h p s k = absurd h
feed-silent j r right l (sups a) h p s k = refl
feed-silent j r right l (accepts a) h p s k = refl
feed-silent j r right l (suppresses a) h p s k = refl

pub within-silent : (c : Outside) (m : Mem) (i : Item) → T (silent i) → (p : Run) → within c m (goes i p) ≡ goes i (within c m p)
unfolding within and_then
within-silent root m i h p = refl
within-silent (follows k c) m i h p = within-silent c m i h (and_then p k)
within-silent (feeds f k c) m i h p =
    ap (within c m) (feed-silent f.join (regulated f.right) (ran_of f.right) (fresh f.left) i h p (held f.right m) k)
    ∙ within-silent c m i h (feed_run f.join (regulated f.right) (ran_of f.right) (fresh f.left) p (held f.right m) k)

pub shows-silent : (c : Outside) (m : Mem) (xs : List Item) → AllSilent xs → (p : Run) → Shows (within c m (first xs p)) xs (within c m p)
unfolding first AllSilent
shows-silent c m [] h p = record { is = refl }
shows-silent c m (i ∷ xs) h p = record { is = within-silent c m i h.0 (first xs p) ∙ ap (goes i) (shows-silent c m xs h.1 p).is }

-- ---- the states of the right sides above are all that a memory matters for

or-true-left : (p q : Bool) → p ≡ true → p || q ≡ true
or-true-left p q e = rw e

or_true_right : (p q : Bool) → q ≡ true → p || q ≡ true
or_true_right true q e = refl
or_true_right false q e = e

pub within_same : (c : Outside) (m m' : Mem) → ((i : ℕ) → rights (feeders c) i ≡ true → m' i ≡ m i) → (p : Run) → within c m' p ≡ within c m p
unfolding within feeders rights
within_same root m m' h p = refl
within_same (follows k c) m m' h p = within_same c m m' h (and_then p k)
within_same (feeds f k c) m m' h p =
    within_same c m m' (λ i e. h i (or_true_right (holds f.right i) (rights (feeders c) i) e)) _
    ∙ ap (λ (s : State). within c m (feed_run f.join (regulated f.right) (ran_of f.right) (fresh f.left) p s k))
    (held_same f.right m m' (λ i e. h i (or-true-left (holds f.right i) (rights (feeders c) i) e)))

-- ---- stops

no_or : (p q : Bool) → p || q ≡ true → p ≡ false → q ≡ true
no_or true q e f = absurd (true-not-false refl f)
no_or false q e f = e

-- a node that stops is one of those above
pub stops-in : (n : ℕ) (c : Outside) (m : Mem) (P : Run → Type 0) → Stops n c m P → numbers (feeders c) n ≡ true
unfolding Stops feeders numbers
stops-in n root m P h = absurd h
stops-in n (follows k c) m P h = stops-in n c m P h
stops-in n (feeds f k c) m P h = on (λ g. stops-in n c m P g) (eqb f.number n) refl h
  where
    on : (Stops n c m P → numbers (feeders c) n ≡ true) → (b : Bool) → eqb f.number n ≡ b
        → If b (Decided f m × P (within c m (halts (cut_short f m)))) (Stops n c m P) → eqb f.number n || numbers (feeders c) n ≡ true
    on rec true e h = or-true-left (eqb f.number n) (numbers (feeders c) n) e
    on rec false e h = or_true_right (eqb f.number n) (numbers (feeders c) n) (rec h)

-- a node whose own number is not among those above stops no other
pub not_own : (fs : List Feeder) (k n : ℕ) → numbers fs k ≡ false → numbers fs n ≡ true → eqb k n ≡ false
not_own fs k n e h = ⊎_elim (λ z. absurd (true-not-false h (subst (λ (i : ℕ). numbers fs i ≡ false) (eqb→eq k n z) e))) (λ z. z) (bool_cases (eqb k n))

pub stops-past : (n : ℕ) (f : Feeder) (k : Out → State → Run) (c : Outside) (m : Mem) (P : Run → Type 0) → eqb f.number n ≡ false
    → Stops n c m P → Stops n (feeds f k c) m P
unfolding Stops
stops-past n f k c m P e h = rw (e, Stops) h

pub stops-here : (f : Feeder) (k : Out → State → Run) (c : Outside) (m : Mem) (P : Run → Type 0) → Decided f m → P (within c m (halts (cut_short f m)))
    → Stops f.number (feeds f k c) m P
unfolding Stops
stops-here f k c m P d h = rw (yes_of (eqb f.number f.number) (eqb_refl f.number), Stops) (d, h)

-- what is shown first, before a stop
pub stops-map : (n : ℕ) (c : Outside) (m : Mem) (P Q : Run → Type 0) → ((p : Run) → P p → Q p) → Stops n c m P → Stops n c m Q
unfolding Stops
stops-map n root m P Q g h = h
stops-map n (follows k c) m P Q g h = stops-map n c m P Q g h
stops-map n (feeds f k c) m P Q g h = on (λ z. stops-map n c m P Q g z) (eqb f.number n) h
  where
    on : (Stops n c m P → Stops n c m Q) → (b : Bool) → If b (Decided f m × P (within c m (halts (cut_short f m)))) (Stops n c m P)
        → If b (Decided f m × Q (within c m (halts (cut_short f m)))) (Stops n c m Q)
    on rec true h = (h.0, g _ h.1)
    on rec false h = rec h

pub goes_map : (c : Outside) (m : Mem) (p : Bool → Run) (x : Ended) (P Q : Run → Type 0) → ((r : Run) → P r → Q r) → GoesOn c m p x P → GoesOn c m p x Q
unfolding GoesOn
goes_map c m p (done u) P Q g h = g _ h
goes_map c m p (stopped n) P Q g h = stops-map n c m P Q g h
