-- The policy that a file holds: a tree of nodes, each leaf with its steps.
use Rattle.std.specs.Prelude.{ℕ, zero, suc, ◌-◌, List, [], ◌∷◌, map, get_or, take, drop}
use Rattle.actions.specs.Sets.{ActionSet, EMPTY, union}
use Rattle.spec_policy.specs.Bytes.{Bytes}
use Rattle.spec_policy.specs.Lists.{summed}
use Rattle.spec_policy.specs.Records.{Node, node_count, nodes, step_records}
use Rattle.spec_policy.specs.Steps.{Step, step_of}

pub data Way : Type 0 where
  parallel sequential : Way

pub data Join : Type 0 where
  and or : Join

-- "Kinds: 1 leaf, 2 trivial, 3 unsatisfiable, 4 parallel and, 5 sequential and, 6 parallel or, 7 sequential or."
pub data NodeKind : Type 0 where
  aLeaf aTrivial an_unsatisfiable no_node : NodeKind
  aPair : Way → Join → NodeKind

unfoldable pub node_kind : ℕ → NodeKind
node_kind k =
    get_or (no_node ∷ aLeaf ∷ aTrivial ∷ an_unsatisfiable ∷ aPair parallel and ∷ aPair sequential and ∷ aPair parallel or ∷ aPair sequential or ∷ []) k no_node

-- "Each leaf owns the next run of steps, leaves in node order."
unfoldable pub steps_owned : Node → ℕ
steps_owned x = elim (node_kind x.kind) [
  | aLeaf ↦ x.count
  | aTrivial ↦ 0
  | an_unsatisfiable ↦ 0
  | no_node ↦ 0
  | aPair w j ↦ 0
]

-- so the steps of node i begin after those that the nodes before it own
unfoldable pub first_step : Bytes → ℕ → ℕ
first_step file i = summed (map steps_owned (take i (nodes file)))

-- A node beside the steps that it owns.
pub record NodeSteps : Type 0 where
  pub node : Node
  pub steps : List Step

unfoldable pub with_steps : List Node → List Step → List NodeSteps
with_steps [] ss = []
with_steps (x ∷ xs) ss = record { node = x; steps = take (steps_owned x) ss } ∷ with_steps xs (drop (steps_owned x) ss)

unfoldable pub no_node_steps : NodeSteps
no_node_steps = record { node = record { kind = 0; left = 0; right = 0; count = 0; start = 0; set = 0 }; steps = [] }

unfoldable pub nodes_with_steps : Bytes → List NodeSteps
nodes_with_steps file = with_steps (nodes file) (map step_of (step_records file))

-- Every node carries its number in the file.
pub data Tree : Type 0 where
  leaf : (number : ℕ) (set : ActionSet) (start : ℕ) (code : List Step) → Tree
  trivial : (number : ℕ) → Tree
  unsatisfiable : (number : ℕ) → Tree
  node : Way → Join → (number : ℕ) → Tree → Tree → Tree

unfoldable pub number_of : Tree → ℕ
number_of (leaf i s c code) = i
number_of (trivial i) = i
number_of (unsatisfiable i) = i
number_of (node w j i l r) = i

-- the tree under node i, no higher than the fuel
unfoldable pub tree_under : ℕ → List NodeSteps → ℕ → Tree
tree_under zero ps i = trivial i
tree_under (suc fuel) ps i = let p = get_or ps i no_node_steps in elim (node_kind p.node.kind) [
  | no_node ↦ trivial i
  | aLeaf ↦ leaf i p.node.set p.node.start p.steps
  | aTrivial ↦ trivial i
  | an_unsatisfiable ↦ unsatisfiable i
  | aPair w j ↦ node w j i (tree_under fuel ps p.node.left) (tree_under fuel ps p.node.right)
]

-- "Tree: node 0 is the root." A child's number is greater than its parent's, so the number of nodes bounds the height.
unfoldable pub tree : Bytes → Tree
tree file = tree_under (node_count file) (nodes_with_steps file) 0

-- the tree under any node
unfoldable pub tree_at : Bytes → ℕ → Tree
tree_at file i = tree_under (node_count file - i) (nodes_with_steps file) i

-- "Kinds 2 and 3 have empty sets. Kinds 4 to 7: regulated set is the union of the two regulated sets".
unfoldable pub regulated : Tree → ActionSet
regulated (leaf i s c code) = s
regulated (trivial i) = EMPTY
regulated (unsatisfiable i) = EMPTY
regulated (node w j i l r) = union (regulated l) (regulated r)
