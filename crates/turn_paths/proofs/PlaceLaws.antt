-- Where a node stands: its cells and those above are apart; heights; the root.
use Prim.Native.Nat.{ℕ, suc, ◌<◌}
use native.Mathlib.Omega.{arith}
use borrow.Author.Tests.{leb-false}
use mathlib.Core.Path.{◌≡◌, refl, subst}
use mathlib.Core.Bool.{Bool, true, false, ◌||◌}
use mathlib.Core.Logic.{⊎_elim}
use mathlib.Core.List.{List, [], ◌∷◌}
use lib.Dec.{eqb, leb, eqb→eq}
use Rattle.actions.proofs.Tests.{bool_cases, true-not-false}
use Rattle.spec_policy.specs.Tree.{Way, parallel, sequential, Join, Tree, node, number_of}
use Rattle.spec_check.specs.Lawful.{holds, Numbered, Lawful}
use Rattle.spec_turns.specs.Process.{Item}
use Rattle.spec_turns.specs.Turn.{Phase}
use Rattle.turn_paths.specs.Run.{halts, first}
use Rattle.turn_paths.specs.Memory.{Mem, held, ran_of}
use Rattle.turn_paths.proofs.Frames.{own-number, not-right-of-left}
use Rattle.turn_paths.specs.Paths.{Feeder, root, feeders, within, done, stopped, Stops, GoesOn, rights, numbers, Apart, Beside, Clear, Turned}
use Rattle.turn_paths.specs.Beneath.{Beneath, top, on_parallel_left, on_left, on_right, height}

or-true-left : (p q : Bool) → p ≡ true → p || q ≡ true
or-true-left p q e = rw e

or_true_right : (p q : Bool) → q ≡ true → p || q ≡ true
or_true_right true q e = refl
or_true_right false q e = e

-- ---- cells

in-left : (w : Way) (j : Join) (n : ℕ) (l r : Tree) (i : ℕ) → holds l i ≡ true → holds (node w j n l r) i ≡ true
unfolding holds
in-left w j n l r i e = or_true_right (eqb n i) (holds l i || holds r i) (or-true-left (holds l i) (holds r i) e)

in-right : (w : Way) (j : Join) (n : ℕ) (l r : Tree) (i : ℕ) → holds r i ≡ true → holds (node w j n l r) i ≡ true
unfolding holds
in-right w j n l r i e = or_true_right (eqb n i) (holds l i || holds r i) (or_true_right (holds l i) (holds r i) e)

pub record Standing (t : Tree) (fs : List Feeder) : Type 0 where
  pub lawful : Lawful t
  pub apart : Apart t fs
  pub clear : Clear fs

narrow : {t s : Tree} {fs : List Feeder} → ((i : ℕ) → holds s i ≡ true → holds t i ≡ true) → Apart t fs → Apart s fs
narrow h a = record { rights = λ i e. a.rights i (h i e); numbers = λ i e. a.numbers i (h i e) }

not-it : (l : Tree) (n i : ℕ) → holds l n ≡ false → holds l i ≡ true → eqb n i ≡ false
not-it l n i e h = ⊎_elim (λ z. absurd (true-not-false h (subst (λ (k : ℕ). holds l k ≡ false) (eqb→eq n i z) e))) (λ z. z) (bool_cases (eqb n i))

module _ {j : Join} {n : ℕ} {l r : Tree} {fs : List Feeder} (sd : Numbered n l r) (a : Apart (node sequential j n l r) fs) where
  abbrev here : Feeder
  here = record { number = n; join = j; left = l; right = r }

  pub beside : Beside here fs
  unfolding number_of
  beside = record {
    apart = narrow (in-right sequential j n l r) a;
    own = sd.not_right;
    rights = a.rights n (own-number (node sequential j n l r));
    numbers = a.numbers n (own-number (node sequential j n l r));
  }

  left-apart : Apart l (here ∷ fs)
  unfolding rights numbers
  left-apart = record {
    rights = λ i e. rw (not-right-of-left sd i e) (a.rights i (in-left sequential j n l r i e));
    numbers = λ i e. rw (not-it l n i sd.not_left e) (a.numbers i (in-left sequential j n l r i e));
  }

-- every node of a lawful tree stands so
pub stands : {whole t : Tree} {fs : List Feeder} → Lawful whole → Beneath whole t fs → Standing t fs
unfolding Lawful Clear rights numbers
stands h top = record { lawful = h; apart = record { rights = λ i e. refl; numbers = λ i e. refl }; clear = tt }
stands h (on_parallel_left {j} {i} {l} {r} b) = let s = stands h b in record { lawful = s.lawful.0; apart = narrow (in-left parallel j i l r) s.apart; clear = s.clear }
stands h (on_left {j} {i} {l} {r} b) =
    let s = stands h b in
    record { lawful = s.lawful.0; apart = left-apart s.lawful.3 s.apart; clear = (beside s.lawful.3 s.apart, s.clear) }
stands h (on_right {w} {j} {i} {l} {r} b) = let s = stands h b in record { lawful = s.lawful.1; apart = narrow (in-right w j i l r) s.apart; clear = s.clear }

-- ---- heights

-- "node height falls" from a node to its right side
pub right-lower : (w : Way) (j : Join) (i : ℕ) (l r : Tree) → height r < height (node w j i l r)
unfolding height
right-lower w j i l r = go (leb (height l) (height r)) refl
  where
    go : (b : Bool) → leb (height l) (height r) ≡ b → height r < suc (elim b [ true ↦ height r | false ↦ height l ])
    go true e = omega arith
    go false e = omega (arith, leb-false (height l) (height r) e)

-- ---- at the root: the whole phase

pub at-root : {t : Tree} {ph : Phase} {m m' : Mem} {xs : List Item} {u : Bool} → Turned [] t ph m m' xs (done u)
    → ran_of t ph (held t m) ≡ first xs (halts (record { state = held t m'; suppressed = u }))
unfolding GoesOn within feeders
at-root h = (h.runs root refl).is

pub no_stop : {t : Tree} {ph : Phase} {m m' : Mem} {xs : List Item} {q : ℕ} → Turned [] t ph m m' xs (stopped q) → ⊥
unfolding GoesOn Stops feeders
no_stop h = h.runs root refl
