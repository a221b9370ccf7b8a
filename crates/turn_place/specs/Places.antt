-- A node of the file where a turn comes to it: what is asked of the words, its leaf's part of a phase, and the next node that takes an insert.
--
use Rattle.std.specs.Prelude.{ℕ, ◌≤◌, ◌<◌, ◌≡◌, Bool, true, false, List, [], ◌∷◌, length, get_or}
use Rattle.actions.specs.Sets.{Action}
use Rattle.spec_policy.specs.Bytes.{Bytes}
use Rattle.spec_policy.specs.Records.{node_place, node_at, node_count}
use Rattle.spec_policy.specs.Tree.{sequential, aPair, Tree, leaf, trivial, unsatisfiable, node, regulated, first_step, tree_at, tree}
use Rattle.spec_check.specs.Passed.{Passed}
use Rattle.spec_turns.specs.Process.{lets}
use Rattle.spec_turns.specs.Turn.{Phase, is_asked}
use Rattle.turn_paths.specs.Run.{Run, halts, goes}
use Rattle.turn_paths.specs.Memory.{Mem, held, ran_of}
use Rattle.turn_paths.specs.Beneath.{Beneath}
use Rattle.turn_paths.specs.Rising.{takes, Skips}
use Rattle.turn_memory.specs.Words.{Words, set_place, word_count, memory_of, Only}
use Rattle.turn_sides.specs.Sides.{kind_at, join_at}
use Rattle.turn_tables.specs.Tables.{Tabled, as_feeder, path_at}
use Rattle.turn_leaf.specs.Leaf.{Quietly, onward}
use Rattle.turn_leaf.specs.declared.Progress.{Progress}
use Rattle.turn_leaf.specs.declared.Progress.TheVariants.{Insert, Done}

-- there are as many words as before, and the tables are as they were
pub record Keeps (ws ws' : Words) : Type 0 where
  pub sized : length ws' ≡ length ws
  pub tables : (k : ℕ) → set_place ≤ k → get_or ws' k 0 ≡ get_or ws k 0

-- Node i of a passed policy, beneath the nodes on its inserts' way up.
pub record Stands (policy : Bytes) (ws : Words) (i : ℕ) : Type 0 where
  pub passed : Passed policy
  pub sized : length ws ≡ word_count
  pub tabled : Tabled policy ws
  pub inside : i < node_count policy
  pub beneath : Beneath (tree policy) (tree_at policy i) (path_at policy ws i)

-- it is a sequential node
abbrev pub Sequential : Bytes → ℕ → Type 0
Sequential policy i = kind_at policy i ≡ aPair sequential (join_at policy i)

-- it is asked in the phase
abbrev pub Asked : Bytes → Words → ℕ → Phase → Type 0
Asked policy ws i ph = is_asked (regulated (tree_at policy i)) ph (held (tree_at policy i) (memory_of ws)) ≡ true

-- ---- a leaf

-- how a leaf goes on from where its cell says
unfoldable pub leaf_run : Tree → Phase → Mem → Run
leaf_run (leaf i r c code) ph m = onward i code ph (m i)
leaf_run (trivial i) ph m = ran_of (trivial i) ph (held (trivial i) m)
leaf_run (unsatisfiable i) ph m = ran_of (unsatisfiable i) ph (held (unsatisfiable i) m)
leaf_run (node w j i l r) ph m = ran_of (node w j i l r) ph (held (node w j i l r) m)

-- the number of the leaf's first step, and how many steps it has
abbrev pub StepsOf : Bytes → ℕ → (first count : ℕ) → Type 0
StepsOf policy i first k = (first ≡ first_step policy i) × (k ≡ (node_at policy (node_place i)).count)

-- its phase has begun; where that is asked (on), its steps are counted
pub record Begun (on : Bool) (policy : Bytes) (cs cs' : List ℕ) (i : ℕ) (ph : Phase) (ws ws' : Words) : Type 0 where
  pub begun : Quietly on policy cs cs' (ran_of (tree_at policy i) ph (held (tree_at policy i) (memory_of ws))) (leaf_run (tree_at policy i) ph (memory_of ws'))
  pub only : Only i ws ws'

-- it came to an insert, or to its phase's end
abbrev pub came_to : Tree → Phase → Words → Progress → Run
came_to t ph ws' (Insert b) = goes (lets b) (leaf_run t ph (memory_of ws'))
came_to t ph ws' (Done u) = halts (record { state = held t (memory_of ws'); suppressed = u })

pub record WentOn (on : Bool) (policy : Bytes) (cs cs' : List ℕ) (i : ℕ) (ph : Phase) (ws ws' : Words) (x : Progress) : Type 0 where
  pub gives : Quietly on policy cs cs' (leaf_run (tree_at policy i) ph (memory_of ws)) (came_to (tree_at policy i) ph ws' x)
  pub only : Only i ws ws'

-- ---- an insert's way up

-- the next node on node i's way up whose right side is asked about the insert, or none
abbrev pub Finds : Bytes → Words → ℕ → Action → Bool → ℕ → Type 0
Finds policy ws i b true r = Skips b (memory_of ws) (path_at policy ws i) (as_feeder policy r ∷ path_at policy ws r) × (takes (as_feeder policy r) b (memory_of ws) ≡ true)
    × ((r < i) × (b < 64))
Finds policy ws i b false r = Skips b (memory_of ws) (path_at policy ws i) []
