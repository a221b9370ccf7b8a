-- What is asked of a tree and of a state so that 248 bytes of cells can hold it: "8 per node number". Every passed policy has such a tree, and
-- every state at rest is such a state (proofs/Cells, proofs/Lasting). That no number is a node's twice is `Distinct` of spec_check.
use Rattle.std.specs.Prelude.{ℕ, ◌^◌, ◌<◌, false, List, T, take, drop, get_or}
use Rattle.actions.specs.Sets.{ActionSet}
use Rattle.spec_policy.specs.Bytes.{Bytes}
use Rattle.spec_policy.specs.Steps.{Step, halt, is_next}
use Rattle.spec_policy.specs.Tree.{Way, Join, Tree, leaf, trivial, unsatisfiable, node}
use Rattle.spec_check.specs.Lawful.{holds}
use Rattle.spec_turns.specs.Status.{Status}
use Rattle.spec_turns.specs.State.{State, leaf_state, pair_state}
use Rattle.spec_turns.specs.Saved.{cell_size, cell_place}

-- the bytes of node i: "8 per node number"
unfoldable pub cell_at : Bytes → ℕ → Bytes
unfolding cell_place
cell_at bs i = take cell_size (drop (cell_place i) bs)

-- every number of the tree is below n
abbrev pub Below : ℕ → Tree → Type 0
Below n t = (i : ℕ) → T (holds t i) → i < n

-- of every leaf: the offsets at which it can wait fit the cell's one byte, and the counter that it starts with fits the cell's four
unfoldable pub Sized : Tree → Type 0
Sized (leaf i r c code) = ((o : ℕ) → T (is_next (get_or code o halt)) → o < 256) × (c < 256 ^ 4)
Sized (trivial i) = Unit {0}
Sized (unsatisfiable i) = Unit {0}
Sized (node w j i l r) = Sized l × Sized r

-- a state that the cells of the tree can hold: no node is marked, and each offset and counter fits its bytes
pub data Stored : Tree → State → Type 0 where
  leaf-held : {i c₀ o c : ℕ} {r : ActionSet} {code : List Step} {s : Status} → o < 256 → c < 256 ^ 4 → Stored (leaf i r c₀ code) (leaf_state s false o c)
  trivial-held : {i o c : ℕ} {s : Status} → o < 256 → c < 256 ^ 4 → Stored (trivial i) (leaf_state s false o c)
  unsatisfiable-held : {i o c : ℕ} {s : Status} → o < 256 → c < 256 ^ 4 → Stored (unsatisfiable i) (leaf_state s false o c)
  pair_held : {w : Way} {j : Join} {i : ℕ} {l r : Tree} {a b : State} {s : Status} → Stored l a → Stored r b → Stored (node w j i l r) (pair_state s false a b)
