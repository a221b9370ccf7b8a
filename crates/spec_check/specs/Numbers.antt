-- What is said of the tree of a file that keeps rule 5 (proved in proofs/Numbers): each node over the trees of its children, and each number once. For
-- "Tree: node 0 is the root. A child's number is greater than its parent's and less than n; every node but 0 is a child exactly once."
use Rattle.std.specs.Prelude.{ℕ, List, get_or}
use Rattle.spec_policy.specs.Records.{Node}
use Rattle.spec_policy.specs.Tree.{NodeKind, aLeaf, aTrivial, an_unsatisfiable, aPair, no_node, node_kind, NodeSteps, no_node_steps, Tree, leaf, trivial, unsatisfiable, node}
use Rattle.spec_check.specs.Lawful.{Numbered}

-- ---- node i of the file: its record with its steps, its record, its kind

abbrev pub node_steps_in : List NodeSteps → ℕ → NodeSteps
node_steps_in ps i = get_or ps i no_node_steps

abbrev pub node_in : List NodeSteps → ℕ → Node
node_in ps i = (node_steps_in ps i).node

abbrev pub kind_in : List NodeSteps → ℕ → NodeKind
kind_in ps i = node_kind (node_in ps i).kind

-- The tree of node i, which is p and of the given kind, over the trees l and r of its two children. `tree-at`: such is the tree at each node of the file.
unfoldable pub shaped : NodeKind → ℕ → NodeSteps → Tree → Tree → Tree
shaped no_node i p l r = trivial i
shaped aLeaf i p l r = leaf i p.node.set p.node.start p.steps
shaped aTrivial i p l r = trivial i
shaped an_unsatisfiable i p l r = unsatisfiable i
shaped (aPair w j) i p l r = node w j i l r

-- No number is that of two nodes of the tree: at each pair, neither side has the pair's number, and the sides share none. `distinct`: so it is in the
-- file's tree.
unfoldable pub Distinct : Tree → Type 0
Distinct (leaf i s c code) = Unit {0}
Distinct (trivial i) = Unit {0}
Distinct (unsatisfiable i) = Unit {0}
Distinct (node w j i l r) = Distinct l × Distinct r × Numbered i l r
