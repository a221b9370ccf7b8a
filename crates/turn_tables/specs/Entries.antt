-- The tables while they are made: the words of one entry, and what the first pass leaves.
use Rattle.std.specs.Prelude.{ℕ, ◌+◌, ◌*◌, ◌<◌, ◌≡◌, set}
use Rattle.actions.specs.Sets.{EMPTY, union}
use Rattle.spec_policy.specs.Bytes.{Bytes}
use Rattle.spec_policy.specs.Records.{node_count}
use Rattle.spec_policy.specs.Tree.{Way, parallel, sequential, NodeKind, aLeaf, aTrivial, an_unsatisfiable, aPair, no_node}
use Rattle.turn_sides.specs.Sides.{left_at, right_at}
use Rattle.turn_memory.specs.Words.{Words, above_place, link_place}
use Rattle.turn_tables.specs.Tables.{set_at, above_at, feeder_at, first_at, Kept, Entered}

-- ---- one entry

-- node i's way up, and beside it the number of its first step
unfoldable pub way_up : Words → (i first above feeder : ℕ) → Words
way_up ws i first above feeder = set (set ws (above_place + i) above) (link_place + i) (first * 256 + feeder)

-- where the inserts of a left side go: to its node, or where the node's own go
unfoldable pub left_feeder : Way → (i feeder : ℕ) → ℕ
left_feeder parallel i feeder = feeder
left_feeder sequential i feeder = i

unfoldable pub left_above : Way → (set above : ℕ) → ℕ
left_above parallel set above = above
left_above sequential set above = union set above

-- the way up of the sides l and r of node i
unfoldable pub sides_up : Way → Words → (i l r : ℕ) → Words
unfolding way_up left_feeder left_above
sides_up w ws i l r =
    way_up (way_up ws r (first_at ws r) (above_at ws i) (feeder_at ws i)) l (first_at ws l) (left_above w (set_at ws r) (above_at ws i)) (left_feeder w i (feeder_at ws i))

-- the words with the sides of node i entered
unfoldable pub entered : NodeKind → Bytes → ℕ → Words → Words
unfolding sides_up
entered aLeaf file i ws = ws
entered aTrivial file i ws = ws
entered an_unsatisfiable file i ws = ws
entered no_node file i ws = ws
entered (aPair w j) file i ws = sides_up w ws i (left_at file i) (right_at file i)

-- ---- after the first pass

-- node i's set and first step are there, and no way up
pub record Fresh (file : Bytes) (ws : Words) (i : ℕ) : Type 0 where
  pub entered : Entered file ws i
  pub above : above_at ws i ≡ EMPTY
  pub feeder : feeder_at ws i ≡ 31

pub record Begun (file : Bytes) (ws₀ ws : Words) : Type 0 where
  pub kept : Kept ws₀ ws
  pub fresh : (k : ℕ) → k < node_count file → Fresh file ws k
