-- Where a node's phase runs: what follows it, and the sequential nodes above on whose left side it is.
use Rattle.std.specs.Prelude.{ℕ, ◌≡◌, Bool, true, false, ◌||◌, List, [], ◌∷◌, eqb}
use Rattle.actions.specs.Sets.{Action}
use Rattle.spec_policy.specs.Tree.{sequential, Join, Tree, node, regulated, number_of}
use Rattle.spec_check.specs.Lawful.{holds, Numbered}
use Rattle.spec_turns.specs.Status.{running, is_running, joined}
use Rattle.spec_turns.specs.State.{State, settled}
use Rattle.spec_turns.specs.Process.{Item, lets, Out}
use Rattle.spec_turns.specs.Turn.{Phase, fresh}
use Rattle.turn_paths.specs.Run.{Run, halts, goes, and_then, feed_run, first}
use Rattle.turn_paths.specs.Memory.{Mem, held, ran_of, ends}

-- A sequential node, as an insert of its left side finds it.
pub record Feeder : Type 0 where
  pub number : ℕ
  pub join : Join
  pub left : Tree
  pub right : Tree

-- From a node outwards: what follows its end in a node around it; a sequential node whose left side it is in.
pub data Outside : Type 0 where
  root : Outside
  follows : (Out → Run) → Outside → Outside
  feeds : Feeder → (Out → State → Run) → Outside → Outside

-- the sequential nodes, nearest first
unfoldable pub feeders : Outside → List Feeder
feeders root = []
feeders (follows k c) = feeders c
feeders (feeds f k c) = f ∷ feeders c

-- The run of the root, of which p is what is left of the node's.
unfoldable pub within : Outside → Mem → Run → Run
within root m p = p
within (follows k c) m p = within c m (and_then p k)
within (feeds f k c) m p = within c m (feed_run f.join (regulated f.right) (ran_of f.right) (fresh f.left) p (held f.right m) k)

-- ---- what is seen

-- p is these items, and then q
pub record Shows (p : Run) (xs : List Item) (q : Run) : Type 0 where
  pub is : p ≡ first xs q

-- ---- how a phase, or an insert's way up, ends

-- with its action suppressed or not; or a node above was decided, and nothing beneath it goes on
pub data Ended : Type 0 where
  done : Bool → Ended
  stopped : ℕ → Ended

-- the node's status was read, its left side counting as running, and it is decided
pub record Decided (f : Feeder) (m : Mem) : Type 0 where
  pub status : (m f.number).status ≡ joined f.join running (m (number_of f.right)).status
  pub over : is_running (m f.number).status ≡ false

-- the end of a node that an insert of its left side has decided
unfoldable pub cut_short : Feeder → Mem → Out
cut_short f m = record { state = settled f.join false (fresh f.left) (held f.right m); suppressed = false }

abbrev pub If : Bool → Type 0 → Type 0 → Type 0
If true A B = A
If false A B = B

-- node n above was decided: the run goes on after its end
unfoldable pub Stops : ℕ → Outside → Mem → (Run → Type 0) → Type 0
Stops n root m P = ⊥
Stops n (follows k c) m P = Stops n c m P
Stops n (feeds f k c) m P = If (eqb f.number n) (Decided f m × P (within c m (halts (cut_short f m)))) (Stops n c m P)

-- what the run goes on as, of which p was left of the node's
unfoldable pub GoesOn : Outside → Mem → (Bool → Run) → Ended → (Run → Type 0) → Type 0
unfolding Stops
GoesOn c m p (done u) P = P (within c m (p u))
GoesOn c m p (stopped n) P = Stops n c m P

-- ---- cells

unfoldable pub rights : List Feeder → ℕ → Bool
rights [] i = false
rights (f ∷ fs) i = holds f.right i || rights fs i

unfoldable pub numbers : List Feeder → ℕ → Bool
numbers [] i = false
numbers (f ∷ fs) i = eqb f.number i || numbers fs i

unfoldable pub is_stop : Ended → ℕ → Bool
is_stop (done u) i = false
is_stop (stopped n) i = eqb n i

-- no number of the tree is that of a node above, or of one on the right sides there
pub record Apart (t : Tree) (fs : List Feeder) : Type 0 where
  pub rights : (i : ℕ) → holds t i ≡ true → rights fs i ≡ false
  pub numbers : (i : ℕ) → holds t i ≡ true → numbers fs i ≡ false

-- nor is that of a node on its own right side
pub record Beside (f : Feeder) (fs : List Feeder) : Type 0 where
  pub apart : Apart f.right fs
  pub own : holds f.right f.number ≡ false
  pub rights : rights fs f.number ≡ false
  pub numbers : numbers fs f.number ≡ false

-- all that of the nodes above, one after another
unfoldable pub Clear : List Feeder → Type 0
Clear [] = Unit {0}
Clear (f ∷ fs) = Beside f fs × Clear fs

-- ---- the contracts

-- A phase of a tree beneath these nodes: from a memory to another, with what was shown.
pub record Turned (fs : List Feeder) (t : Tree) (ph : Phase) (m m' : Mem) (xs : List Item) (x : Ended) : Type 0 where
  pub runs : (c : Outside) → feeders c ≡ fs
      → GoesOn c m' (λ u. halts (record { state = held t m'; suppressed = u })) x (Shows (within c m (ran_of t ph (held t m))) xs)
  pub kept : (i : ℕ) → holds t i ≡ false → rights fs i ≡ false → is_stop x i ≡ false → m' i ≡ m i

-- An insert's way up from beneath them.
pub record Rose (fs : List Feeder) (b : Action) (m m' : Mem) (xs : List Item) (x : Ended) : Type 0 where
  pub runs : (c : Outside) → feeders c ≡ fs → (p : Run) → GoesOn c m' (λ u. p) x (Shows (within c m (goes (lets b) p)) xs)
  pub kept : (i : ℕ) → rights fs i ≡ false → is_stop x i ≡ false → m' i ≡ m i

-- Between the two parts of a sequential node's phase, with its sides l and r: the left side's phase is over, with its action suppressed or not, and what
-- follows it is to come.
module _ (j : Join) {n : ℕ} {l r : Tree} (sd : Numbered n l r) (fs : List Feeder) where
  pub record LeftOver (ph : Phase) (m₀ m : Mem) (xs : List Item) (u : Bool) : Type 0 where
    pub runs : (c : Outside) → feeders c ≡ fs → Shows (within c m₀ (ran_of (node sequential j n l r) ph (held (node sequential j n l r) m₀))) xs
        (within c m (ends j (regulated r) (ran_of r) ph (record { state = held l m; suppressed = u }) (held r m)))
    pub kept : (i : ℕ) → holds (node sequential j n l r) i ≡ false → rights fs i ≡ false → m i ≡ m₀ i
