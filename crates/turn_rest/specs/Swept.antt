-- The records of the nodes below i are written, the leaves among them that run are counted, and what lies just under a decided node is dropped.
use Rattle.std.specs.Prelude.{ℕ, ◌≤◌, ◌<◌, ◌≡◌, false, length, take, drop}
use Rattle.spec_policy.specs.Bytes.{Bytes}
use Rattle.spec_policy.specs.Records.{node_count}
use Rattle.spec_policy.specs.Tree.{Way, Join, aPair, tree}
use Rattle.spec_turns.specs.Status.{dropped}
use Rattle.spec_turns.specs.Saved.{cell_size, cells_size, cell_place, cell}
use Rattle.laws_turns.specs.Leaves.{leaves_below}
use Rattle.turn_paths.specs.Memory.{held}
use Rattle.turn_memory.specs.Words.{Words, word_count, memory_of}
use Rattle.turn_rest.specs.Rest.{own_of, record_at, kind_at, runs_at}

-- the sides of node p are dropped, if it is a decided pair
abbrev pub SidesDropped : Bytes → Words → ℕ → Type 0
SidesDropped file ws p =
    (w : Way) (j : Join) → kind_at file p ≡ aPair w j → runs_at ws p ≡ false
    → ((memory_of ws (record_at file p).left).status ≡ dropped) × ((memory_of ws (record_at file p).right).status ≡ dropped)

-- ws₀: the words as the call left them; bs: the cells of the state
pub record Swept (file : Bytes) (ws₀ ws : Words) (bs : Bytes) (i count : ℕ) : Type 0 where
  pub most : i ≤ node_count file
  pub words : length ws ≡ word_count
  pub size : length bs ≡ cells_size
  pub same : held (tree file) (memory_of ws) ≡ held (tree file) (memory_of ws₀)
  pub sides : (p : ℕ) → p < i → SidesDropped file ws p
  pub records : (k : ℕ) → k < i → take cell_size (drop (cell_place k) bs) ≡ cell (own_of (kind_at file k) (memory_of ws k))
  pub counted : count ≡ leaves_below file (runs_at ws) i
