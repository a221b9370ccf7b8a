-- The functions of the turn: what they ask and what they promise, where a node stands in the file's tree.
use Rattle.std.specs.Prelude.{ℕ, suc, ◌+◌, ◌≤◌, ◌<◌, ◌≡◌, Bool, List, [], ◌∷◌, ◌++◌}
use Rattle.actions.specs.Sets.{Action, has}
use Rattle.spec_policy.specs.Bytes.{Bytes}
use Rattle.spec_policy.specs.Lists.{among}
use Rattle.spec_policy.specs.Tree.{sequential, Tree, node, tree_at}
use Rattle.spec_check.specs.Lawful.{Numbered}
use Rattle.spec_turns.specs.Process.{Item, ran, lets, sups, accepts, suppresses}
use Rattle.spec_turns.specs.Turn.{Phase}
use Rattle.spec_trace.specs.Tallies.{steps_if}
use Rattle.turn_paths.specs.Memory.{Mem}
use Rattle.turn_paths.specs.Paths.{Feeder, Ended, done, stopped, Clear, Turned, Rose, LeftOver}
use Rattle.turn_paths.specs.Beneath.{height, size, ahead}
use Rattle.turn_paths.specs.Rising.{Half, Rising, Owes}
use Rattle.turn_memory.specs.Words.{Words, memory_of}
use Rattle.turn_memory.specs.Told.{Told}
use Rattle.turn_sides.specs.Sides.{left_at, right_at, join_at}
use Rattle.turn_tables.specs.Tables.{as_feeder, path_at}
use Rattle.turn_ends.specs.Ends.{ended}
use Rattle.turn_place.specs.Places.{Keeps, Stands, Sequential}
use Rattle.turn_node.specs.declared.Risen.{Risen}

-- the inserts among the items
unfoldable pub lets_in : List Item → List Action
lets_in [] = []
lets_in (ran i o ∷ xs) = lets_in xs
lets_in (lets b ∷ xs) = b ∷ lets_in xs
lets_in (sups a ∷ xs) = lets_in xs
lets_in (accepts a ∷ xs) = lets_in xs
lets_in (suppresses a ∷ xs) = lets_in xs

-- ---- a phase

-- A tree's phase beneath these nodes was run: these items were seen at the root, their inserts were told, their steps counted where that is asked, and
-- so it ended.
pub record Turns (counting : Bool) (policy : Bytes) (cs cs' : List ℕ) (fs : List Feeder) (t : Tree) (ph : Phase) (ws ws' : Words) (x : Ended) : Type 0 where
  pub items : List Item
  pub turned : Turned fs t ph (memory_of ws) (memory_of ws') items x
  pub told : Told ws ws' (lets_in items)
  pub steps : cs' ≡ steps_if counting policy items cs
  pub keeps : Keeps ws ws'

-- node i's
abbrev pub TurnsAt : Bool → Bytes → (cs cs' : List ℕ) → ℕ → Phase → Words → Words → ℕ → Type 0
TurnsAt counting policy cs cs' i ph ws ws' r = Turns counting policy cs cs' (path_at policy ws i) (tree_at policy i) ph ws ws' (ended r)

-- ---- an insert

-- An insert from beneath these nodes has gone its way, up and down again.
pub record Emits (counting : Bool) (policy : Bytes) (cs cs' : List ℕ) (fs : List Feeder) (b : Action) (ws ws' : Words) (x : Ended) : Type 0 where
  pub items : List Item
  pub rose : Rose fs b (memory_of ws) (memory_of ws') items x
  pub told : Told ws ws' (lets_in items)
  pub steps : cs' ≡ steps_if counting policy items cs
  pub keeps : Keeps ws ws'

-- numbers from p on, ascending, below n
pub data Ascends (n : ℕ) : ℕ → List ℕ → Type 0 where
  none : {p : ℕ} → Ascends n p []
  more : {p q : ℕ} {ns : List ℕ} → p ≤ q → q < n → Ascends n (suc q) ns → Ascends n p (q ∷ ns)

-- Node k, on the way up from node n, takes inserts that come from there. Its right side's turn is called: from the node that feeds to that right
-- side the height falls; and, as the leaf beneath has called the feeding, the nodes still ahead are fewer than those ahead of n's insert.
pub record Feeds (policy : Bytes) (ws : Words) (n k : ℕ) : Type 0 where
  pub stands : Stands policy ws k
  pub pair : Sequential policy k
  pub lower : height (tree_at policy (right_at policy k)) < height (tree_at policy k)
  pub fewer : size (tree_at policy (right_at policy k)) + ahead (path_at policy ws k) ≤ ahead (path_at policy ws n)

-- Its way up is over: the nodes of the set from `top` on, in the order of their numbers, owe what follows.
pub record Owing (counting : Bool) (policy : Bytes) (cs cs' : List ℕ) (fs : List Feeder) (b : Action) (ws ws' : Words) (n top fed : ℕ) : Type 0 where
  pub items : List Item
  pub owed : List ℕ
  pub owes : Owes b fs (memory_of ws) (memory_of ws') items owed
  pub ascends : Ascends n top owed
  pub members : (q : ℕ) → top ≤ q → has fed q ≡ among q owed
  pub told : Told ws ws' (lets_in items)
  pub steps : cs' ≡ steps_if counting policy items cs
  pub keeps : Keeps ws ws'

pub record Rises (counting : Bool) (policy : Bytes) (cs cs' : List ℕ) (fs : List Feeder) (b : Action) (ws ws' : Words) (n : ℕ) (r : Risen) : Type 0 where
  pub stops : 2 ≤ r.code → Emits counting policy cs cs' fs b ws ws' (ended r.code)
  pub over : r.code < 2 → Owing counting policy cs cs' fs b ws ws' n r.top r.fed.bits

-- what is left to be done once a node that owes has done its part
abbrev pub Settling : Action → List Feeder → Mem → Mem → List Item → List ℕ → Ended → Type 0
Settling b fs m₀ m xs ns (done u) = Owes b fs m₀ m xs ns
Settling b fs m₀ m xs ns (stopped q) = Rose fs b m₀ m xs (stopped q)

-- node i has done its part: the right side's phase after the verdict, and the reading of its status
pub record Settles (counting : Bool) (policy : Bytes) (cs cs' : List ℕ) (i : ℕ) (ws ws' : Words) (x : Ended) : Type 0 where
  pub items : List Item
  pub settles : {b : Action} {fs : List Feeder} {m₀ m₁ : Mem} {xs ys : List Item} {ns : List ℕ} → Clear fs
      → Rising b fs m₀ (as_feeder policy i ∷ path_at policy ws i) m₁ xs ns → Half (as_feeder policy i) (path_at policy ws i) b m₁ (memory_of ws) ys
      → Settling b fs m₀ (memory_of ws') ((xs ++ ys) ++ items) ns x
  pub told : Told ws ws' (lets_in items)
  pub steps : cs' ≡ steps_if counting policy items cs
  pub keeps : Keeps ws ws'

-- ---- what follows the left side's end in a sequential node

pub record LeftEnds (counting : Bool) (policy : Bytes) (cs cs' : List ℕ) (i : ℕ) (ph : Phase) (ws ws' : Words) (u : Bool) (x : Ended) : Type 0 where
  pub items : List Item
  pub ends : (sd : Numbered i (tree_at policy (left_at policy i)) (tree_at policy (right_at policy i))) {m₀ : Mem} {xs : List Item}
      → LeftOver (join_at policy i) sd (path_at policy ws i) ph m₀ (memory_of ws) xs u
      → Turned (path_at policy ws i) (node sequential (join_at policy i) i (tree_at policy (left_at policy i)) (tree_at policy (right_at policy i))) ph m₀ (memory_of ws') (xs ++ items) x
  pub told : Told ws ws' (lets_in items)
  pub steps : cs' ≡ steps_if counting policy items cs
  pub keeps : Keeps ws ws'
