-- A state at rest, as a policy can be in between calls: what "It fits when:" says of bytes, said of the state that they hold. Bytes that fit are loaded
-- as such a state, and every answered call ends in one (laws_turns).
use Rattle.std.specs.Prelude.{ℕ, ◌≤◌, ◌≡◌, Bool, true, false, List, T, get_or}
use Rattle.actions.specs.Sets.{ActionSet}
use Rattle.spec_policy.specs.Steps.{Step, halt, is_next}
use Rattle.spec_policy.specs.Tree.{Way, Join, and, or, Tree, leaf, trivial, unsatisfiable, node}
use Rattle.spec_turns.specs.Status.{Status, running, ended, ended_left, ended_right, halted, dropped, joined}
use Rattle.spec_turns.specs.State.{State, leaf_state, pair_state, status}

-- "When a node is decided, all nodes beneath it become dropped. A leaf that isn't running has offset and counter zero.": all of the tree dropped
unfoldable pub gone : Tree → State
gone (leaf i r c code) = leaf_state dropped false 0 0
gone (trivial i) = leaf_state dropped false 0 0
gone (unsatisfiable i) = leaf_state dropped false 0 0
gone (node w j i l r) = pair_state dropped false (gone l) (gone r)

-- the statuses that a decided node with two sides can have: "and" ended or halted, "or" ended left, ended right or halted
unfoldable pub decided_by : Join → Status → Bool
decided_by and running = false
decided_by and ended = true
decided_by and ended_left = false
decided_by and ended_right = false
decided_by and halted = true
decided_by and dropped = false
decided_by or running = false
decided_by or ended = false
decided_by or ended_left = true
decided_by or ended_right = true
decided_by or halted = true
decided_by or dropped = false

-- At rest, under a parent that runs: "a running leaf has the offset of a next and a counter at most its start", the status of a running node is the one
-- that its sides' give, and beneath a decided one all is dropped. "all other offsets and counters are zero." No node is marked as owing a phase.
pub data AtRest : Tree → State → Type 0 where
  leaf-waits : {i c₀ o c : ℕ} {r : ActionSet} {code : List Step} → T (is_next (get_or code o halt)) → c ≤ c₀ → AtRest (leaf i r c₀ code) (leaf_state running false o c)
  leaf-ended : {i c₀ : ℕ} {r : ActionSet} {code : List Step} → AtRest (leaf i r c₀ code) (leaf_state ended false 0 0)
  leaf-halted : {i c₀ : ℕ} {r : ActionSet} {code : List Step} → AtRest (leaf i r c₀ code) (leaf_state halted false 0 0)
  trivial-ended : {i : ℕ} → AtRest (trivial i) (leaf_state ended false 0 0)
  unsatisfiable-halted : {i : ℕ} → AtRest (unsatisfiable i) (leaf_state halted false 0 0)
  pair_runs : {w : Way} {j : Join} {i : ℕ} {l r : Tree} {a b : State}
      → AtRest l a → AtRest r b → joined j (status a) (status b) ≡ running → AtRest (node w j i l r) (pair_state running false a b)
  pair-decided : {w : Way} {j : Join} {i : ℕ} {l r : Tree} {a b : State} {s : Status}
      → T (decided_by j s) → a ≡ gone l → b ≡ gone r → AtRest (node w j i l r) (pair_state s false a b)
