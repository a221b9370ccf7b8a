-- The state of a policy: a status for every node, an offset and a counter for every leaf.
use Rattle.std.specs.Prelude.{ℕ, Bool, true, false}
use Rattle.spec_policy.specs.Tree.{Join}
use Rattle.spec_turns.specs.Status.{Status, dropped, is_running, joined}

-- The state of a node and of all beneath it. `asked` marks a node that was asked before the verdict and still runs: such a node owes
-- the phase after it. Between calls no node is marked.
pub data State : Type 0 where
  leaf_state : (status : Status) (asked : Bool) (offset counter : ℕ) → State
  pair_state : (status : Status) (asked : Bool) → State → State → State

unfoldable pub status : State → Status
status (leaf_state s m o c) = s
status (pair_state s m l r) = s

unfoldable pub asked : State → Bool
asked (leaf_state s m o c) = m
asked (pair_state s m l r) = m

unfoldable pub offset : State → ℕ
offset (leaf_state s m o c) = o
offset (pair_state s m l r) = 0

unfoldable pub counter : State → ℕ
counter (leaf_state s m o c) = c
counter (pair_state s m l r) = 0

unfoldable pub left_of : State → State
left_of (leaf_state s m o c) = leaf_state dropped false 0 0
left_of (pair_state s m l r) = l

unfoldable pub right_of : State → State
right_of (leaf_state s m o c) = leaf_state dropped false 0 0
right_of (pair_state s m l r) = r

-- "A leaf that isn't running has offset and counter zero."
unfoldable pub leaf_over : Status → State
leaf_over s = leaf_state s false 0 0

-- all of it dropped
unfoldable pub drop : State → State
unfolding leaf_over
drop (leaf_state s m o c) = leaf_over dropped
drop (pair_state s m l r) = pair_state dropped false (drop l) (drop r)

-- "When a node is decided, all nodes beneath it become dropped."
unfoldable pub pair_with : Status → Bool → State → State → State
pair_with s m l r = elim (is_running s) [ true ↦ pair_state s m l r | false ↦ pair_state s false (drop l) (drop r) ]

-- The node's status is read from its two sides.
unfoldable pub settled : Join → Bool → State → State → State
unfolding pair_with
settled j m l r = pair_with (joined j (status l) (status r)) m l r
