-- A node's record in the file, and a node with two sides.
use Rattle.std.specs.Prelude.{ℕ, ◌+◌, ◌≤◌, ◌<◌, ◌≡◌, length}
use Rattle.spec_policy.specs.Bytes.{Bytes}
use Rattle.spec_policy.specs.Records.{node_size, node_place, node_at, node_count}
use Rattle.spec_policy.specs.Tree.{Way, parallel, Join, and, NodeKind, aLeaf, aTrivial, an_unsatisfiable, aPair, no_node, node_kind}
use Rattle.spec_check.specs.Passed.{Passed}

unfoldable pub kind_at : Bytes → ℕ → NodeKind
kind_at policy i = node_kind (node_at policy (node_place i)).kind

unfoldable pub left_at : Bytes → ℕ → ℕ
left_at policy i = (node_at policy (node_place i)).left

unfoldable pub right_at : Bytes → ℕ → ℕ
right_at policy i = (node_at policy (node_place i)).right

unfoldable pub join_of_kind : NodeKind → Join
join_of_kind no_node = and
join_of_kind aLeaf = and
join_of_kind aTrivial = and
join_of_kind an_unsatisfiable = and
join_of_kind (aPair w j) = j

-- how the node's sides are joined, where it has two
unfoldable pub join_at : Bytes → ℕ → Join
unfolding kind_at join_of_kind
join_at policy i = join_of_kind (kind_at policy i)

unfoldable pub way_of_kind : NodeKind → Way
way_of_kind no_node = parallel
way_of_kind aLeaf = parallel
way_of_kind aTrivial = parallel
way_of_kind an_unsatisfiable = parallel
way_of_kind (aPair w j) = w

unfoldable pub way_at : Bytes → ℕ → Way
unfolding kind_at way_of_kind
way_at policy i = way_of_kind (kind_at policy i)

-- node i's record lies in the file
abbrev pub Placed : Bytes → ℕ → Type 0
Placed policy i = (i < 31) × (node_place i + node_size ≤ length policy)

-- node i has two sides
pub record Sided (policy : Bytes) (i : ℕ) : Type 0 where
  pub passed : Passed policy
  pub inside : i < node_count policy
  pub pair : kind_at policy i ≡ aPair (way_at policy i) (join_at policy i)
