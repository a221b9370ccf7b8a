-- What the words of a call hold of every node: the actions that it regulates, where a leaf's steps begin, and its inserts' way up, with the
-- actions that a right side on that way may be asked about.
use Rattle.std.specs.Prelude.{ℕ, zero, suc, ◌+◌, ◌/◌, ◌%◌, ◌≤◌, ◌<◌, ◌≡◌, Bool, true, false, List, [], ◌∷◌, ltb, length, get_or}
use Rattle.actions.specs.Sets.{Action, EMPTY, union, has}
use Rattle.spec_policy.specs.Bytes.{Bytes}
use Rattle.spec_policy.specs.Records.{node_count}
use Rattle.spec_policy.specs.Tree.{Way, parallel, sequential, aPair, first_step, tree_at, regulated}
use Rattle.turn_sides.specs.Sides.{kind_at, left_at, right_at, join_at}
use Rattle.turn_paths.specs.Paths.{Feeder}
use Rattle.turn_memory.specs.Words.{Words, set_place, above_place, link_place, word_count}

-- ---- what is looked up

abbrev pub set_at : Words → ℕ → ℕ
set_at ws i = get_or ws (set_place + i) 0

abbrev pub above_at : Words → ℕ → ℕ
above_at ws i = get_or ws (above_place + i) 0

abbrev pub feeder_at : Words → ℕ → ℕ
feeder_at ws i = get_or ws (link_place + i) 0 % 256

abbrev pub first_at : Words → ℕ → ℕ
first_at ws i = get_or ws (link_place + i) 0 / 256 % 65536

-- ---- what it is

pub record Entered (file : Bytes) (ws : Words) (i : ℕ) : Type 0 where
  pub set : set_at ws i ≡ regulated (tree_at file i)
  pub first : first_at ws i ≡ first_step file i

-- Every node's feeding node, the nearest sequential one above on whose left side it is, or 31; and the actions that the right sides of its feeding
-- node, of that one's, and so on, regulate.
pub record Linked (file : Bytes) (ws : Words) : Type 0 where
  pub right : (i : ℕ) → i < node_count file → (w : Way) → kind_at file i ≡ aPair w (join_at file i) → feeder_at ws (right_at file i) ≡ feeder_at ws i
  pub left-parallel : (i : ℕ) → i < node_count file → kind_at file i ≡ aPair parallel (join_at file i) → feeder_at ws (left_at file i) ≡ feeder_at ws i
  pub left-sequential : (i : ℕ) → i < node_count file → kind_at file i ≡ aPair sequential (join_at file i) → feeder_at ws (left_at file i) ≡ i
  pub most : (i : ℕ) → i < node_count file → feeder_at ws i ≤ 31
  pub down : (i : ℕ) → i < node_count file → feeder_at ws i < 31 → feeder_at ws i < i
  pub pair : (i : ℕ) → i < node_count file → feeder_at ws i < 31 → kind_at file (feeder_at ws i) ≡ aPair sequential (join_at file (feeder_at ws i))
  pub root : feeder_at ws 0 ≡ 31
  pub none : (i : ℕ) → i < node_count file → feeder_at ws i ≡ 31 → above_at ws i ≡ EMPTY
  pub some : (i : ℕ) → i < node_count file → feeder_at ws i < 31
      → above_at ws i ≡ union (regulated (tree_at file (right_at file (feeder_at ws i)))) (above_at ws (feeder_at ws i))

pub record Tabled (file : Bytes) (ws : Words) : Type 0 where
  pub entered : (k : ℕ) → k < node_count file → Entered file ws k
  pub linked : Linked file ws

-- the words below the tables are those that were there
abbrev pub Kept : Words → Words → Type 0
Kept ws₀ ws = (length ws ≡ word_count) × ((k : ℕ) → k < set_place → get_or ws k 0 ≡ get_or ws₀ k 0)

-- ---- an insert's way up

-- the sequential node i, as an insert of its left side finds it
abbrev pub as_feeder : Bytes → ℕ → Feeder
as_feeder file i = record { number = i; join = join_at file i; left = tree_at file (left_at file i); right = tree_at file (right_at file i) }

unfoldable pub risen : Bool → Feeder → List Feeder → List Feeder
risen true f fs = f ∷ fs
risen false f fs = []

-- the nodes that an insert of node i comes to, as far as so many steps go
unfoldable pub climb : ℕ → Bytes → Words → ℕ → List Feeder
unfolding risen
climb zero file ws i = []
climb (suc k) file ws i = risen (ltb (feeder_at ws i) 31) (as_feeder file (feeder_at ws i)) (climb k file ws (feeder_at ws i))

abbrev pub path_at : Bytes → Words → ℕ → List Feeder
path_at file ws i = climb 31 file ws i

-- no right side of these nodes regulates the action
unfoldable pub Passes : Action → List Feeder → Type 0
Passes b [] = Unit {0}
Passes b (f ∷ fs) = (has (regulated f.right) b ≡ false) × Passes b fs
