-- An insert on its way up: past a node whose right side is not asked, given to one whose right side is, and what such a node then owes.
--
use Rattle.std.specs.Prelude.{ℕ, ◌≡◌, Bool, true, false, ◌&&◌, List, [], ◌∷◌, ◌++◌}
use Rattle.actions.specs.Sets.{Action, has}
use Rattle.spec_policy.specs.Tree.{regulated, number_of}
use Rattle.spec_check.specs.Lawful.{holds}
use Rattle.spec_turns.specs.Status.{is_running}
use Rattle.spec_turns.specs.State.{State, status}
use Rattle.spec_turns.specs.Process.{Item, lets, Out}
use Rattle.spec_turns.specs.Turn.{before, after, fresh}
use Rattle.turn_paths.specs.Run.{Run, goes, unless_run, feed_run}
use Rattle.turn_paths.specs.Memory.{Mem, held, ran_of}
use Rattle.turn_paths.specs.Choices.{emits}
use Rattle.turn_paths.specs.Paths.{Feeder, Outside, follows, feeds, feeders, within, Shows, rights, done, Turned, Rose}

-- the node's right side is asked about the insert
abbrev pub takes : Feeder → Action → Mem → Bool
takes f b m = is_running (status (held f.right m)) && has (regulated f.right) b

-- what is left of the left side's run, fed to the right side in this state
unfoldable pub onward : Feeder → (Out → State → Run) → Run → State → Run
onward f k p s = feed_run f.join (regulated f.right) (ran_of f.right) (fresh f.left) p s k

-- what follows the right side's turn on an insert: the node's status is read
unfoldable pub after_on : Feeder → (Out → State → Run) → Run → Out → Run
after_on f k p y = unless_run f.join false false (fresh f.left) y.state (onward f k p y.state)

-- The insert has gone out of the node, or stayed in: the right side's phase after the verdict is to come.
pub record Half (f : Feeder) (gs : List Feeder) (b : Action) (m m' : Mem) (xs : List Item) : Type 0 where
  pub runs : (k : Out → State → Run) (c : Outside) → feeders c ≡ gs → (p : Run)
      → Shows (within (feeds f k c) m (goes (lets b) p)) xs (within (follows (after_on f k p) c) m' (ran_of f.right after (held f.right m')))
  pub kept : (i : ℕ) → holds f.right i ≡ false → rights gs i ≡ false → m' i ≡ m i

-- ---- the way up

-- it passes nodes whose right sides are not asked
pub data Skips (b : Action) (m : Mem) : List Feeder → List Feeder → Type 0 where
  here : {fs : List Feeder} → Skips b m fs fs
  past : {f : Feeder} {fs gs : List Feeder} → takes f b m ≡ false → Skips b m fs gs → Skips b m (f ∷ fs) gs

-- From beneath fs it has come to beneath gs, with these items on the way. Each node between was passed, or its right side has let it out
-- again: those are listed by their numbers, the last first.
pub data Rising (b : Action) (fs : List Feeder) (m₀ : Mem) : List Feeder → Mem → List Item → List ℕ → Type 0 where
  starts : Rising b fs m₀ fs m₀ [] []
  passes : {f : Feeder} {gs : List Feeder} {m : Mem} {xs : List Item} {ns : List ℕ}
      → Rising b fs m₀ (f ∷ gs) m xs ns → takes f b m ≡ false → Rising b fs m₀ gs m xs ns
  lets_on : {f : Feeder} {gs : List Feeder} {m m₁ : Mem} {xs ys : List Item} {ns : List ℕ} {u : Bool}
      → Rising b fs m₀ (f ∷ gs) m xs ns → takes f b m ≡ true → Turned gs f.right (before b) m m₁ ys (done u)
      → emits f.join (m₁ (number_of f.right)).status u ≡ true → Rising b fs m₀ gs m₁ (xs ++ ys) (f.number ∷ ns)

-- ---- and down again

-- What is still owed for it: by each of these nodes, in this order, its right side's phase after the verdict and the reading of its status.
pub data Owes (b : Action) (fs : List Feeder) (m₀ : Mem) : Mem → List Item → List ℕ → Type 0 where
  nothing : {m : Mem} {xs : List Item} {u : Bool} → Rose fs b m₀ m xs (done u) → Owes b fs m₀ m xs []
  first : {f : Feeder} {gs : List Feeder} {m₁ m : Mem} {xs ys : List Item} {ns : List ℕ}
      → Rising b fs m₀ (f ∷ gs) m₁ xs ns → Half f gs b m₁ m ys → Owes b fs m₀ m (xs ++ ys) (f.number ∷ ns)
