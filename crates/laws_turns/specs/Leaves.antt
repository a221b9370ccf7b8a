-- The count of running leaves as code finds it: number by number, by what the records of the file say of each node. `counted` (proofs/Leaves): over all
-- numbers it is `running_leaves`.
use Rattle.std.specs.Prelude.{ℕ, zero, suc, ◌+◌, Bool, true, false, ◌&&◌}
use Rattle.spec_policy.specs.Bytes.{Bytes}
use Rattle.spec_policy.specs.Lists.{one}
use Rattle.spec_policy.specs.Records.{node_at, node_place}
use Rattle.spec_policy.specs.Tree.{NodeKind, aLeaf, aTrivial, an_unsatisfiable, aPair, no_node, node_kind}

unfoldable pub is_leaf : NodeKind → Bool
is_leaf aLeaf = true
is_leaf aTrivial = false
is_leaf an_unsatisfiable = false
is_leaf no_node = false
is_leaf (aPair w j) = false

-- 1 for a leaf that runs, for any other node 0
unfoldable pub leaf_worth : Bytes → (ℕ → Bool) → ℕ → ℕ
leaf_worth file runs i = one (is_leaf (node_kind (node_at file (node_place i)).kind) && runs i)

-- how many of the first n nodes are leaves that run
unfoldable pub leaves_below : Bytes → (ℕ → Bool) → ℕ → ℕ
leaves_below file runs zero = 0
leaves_below file runs (suc n) = leaves_below file runs n + leaf_worth file runs n
