-- The memory of a call at its begin and its end: what is read into it, what it leaves, and what of a node is saved.
use Rattle.std.specs.Prelude.{ℕ, ◌≤◌, ◌<◌, ◌≡◌, Bool, true, false, length, get_or, set}
use Rattle.spec_policy.specs.Bytes.{Bytes, number, spell}
use Rattle.spec_policy.specs.Records.{Node, node_place, node_at}
use Rattle.spec_policy.specs.Tree.{NodeKind, aLeaf, aTrivial, an_unsatisfiable, aPair, no_node, node_kind}
use Rattle.spec_turns.specs.Status.{is_running}
use Rattle.spec_turns.specs.State.{State}
use Rattle.spec_turns.specs.Saved.{cell_size, cell_place, cell}
use Rattle.turn_paths.specs.Memory.{Cell, leaf_with}
use Rattle.turn_memory.specs.Words.{Words, packed, memory_of}

-- the words from n on are as they were
pub record KeptFrom (n : ℕ) (ws ws' : Words) : Type 0 where
  pub size : length ws' ≡ length ws
  pub rest : (k : ℕ) → n ≤ k → get_or ws' k 0 ≡ get_or ws k 0

-- the word of each of n nodes is its record of the saved state, as one number
abbrev pub Woken : ℕ → Bytes → Words → Type 0
Woken n state ws = (i : ℕ) → i < n → get_or ws i 0 ≡ number state (cell_place i) cell_size

-- ---- the end of a call

-- what is saved of a node's cell: of a leaf that runs its place, of every other node its status alone
unfoldable pub own_of : NodeKind → Cell → State
own_of aLeaf c = leaf_with c.status c.asked c.offset c.counter
own_of aTrivial c = leaf_with c.status c.asked 0 0
own_of an_unsatisfiable c = leaf_with c.status c.asked 0 0
own_of no_node c = leaf_with c.status c.asked 0 0
own_of (aPair w j) c = leaf_with c.status c.asked 0 0

-- the word of a dropped node
abbrev pub dropped_word : ℕ
dropped_word = packed 6 0 0 0

-- the two sides of the node x dropped, where it does not run
unfoldable pub sides_over : Bool → Node → Words → Words
sides_over true x ws = ws
sides_over false x ws = set (set ws x.left dropped_word) x.right dropped_word

-- "When a node is decided, all nodes beneath it become dropped": here the nodes just beneath it
unfoldable pub under_of : NodeKind → Bool → Node → Words → Words
under_of aLeaf b x ws = ws
under_of aTrivial b x ws = ws
under_of an_unsatisfiable b x ws = ws
under_of no_node b x ws = ws
under_of (aPair w j) b x ws = sides_over b x ws

-- node i's record, its kind, and whether its cell says that it runs
abbrev pub record_at : Bytes → ℕ → Node
record_at file i = node_at file (node_place i)

abbrev pub kind_at : Bytes → ℕ → NodeKind
kind_at file i = node_kind (record_at file i).kind

abbrev pub runs_at : Words → ℕ → Bool
runs_at ws i = is_running (memory_of ws i).status

-- what is saved of node i is this word, and the words become these
pub record Rested (file : Bytes) (i : ℕ) (ws ws' : Words) (r : ℕ) : Type 0 where
  pub word : spell 8 r ≡ cell (own_of (kind_at file i) (memory_of ws i))
  pub under : ws' ≡ under_of (kind_at file i) (runs_at ws i) (record_at file i) ws
