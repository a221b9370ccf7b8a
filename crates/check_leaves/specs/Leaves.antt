-- What is found of the leaves: of one node, and of all.
use Rattle.std.specs.Prelude.{ℕ, ◌<◌, ◌≡◌, Bool, true, false, not, List, length, get_or, Result, Ok, Err}
use Rattle.actions.specs.Sets.{ActionSet}
use Rattle.faults.specs.declared.Refusal.{Refusal}
use Rattle.faults.specs.declared.Refusal.TheVariants as refusals
use Rattle.spec_policy.specs.Bytes.{Bytes}
use Rattle.spec_policy.specs.Lists.{every}
use Rattle.spec_policy.specs.Records.{most_nodes, Node, step_records}
use Rattle.spec_policy.specs.Steps.{Step}
use Rattle.spec_policy.specs.Tree.{aLeaf, aTrivial, an_unsatisfiable, aPair, no_node, node_kind, no_node_steps, nodes_with_steps}
use Rattle.spec_check.specs.Layout.{step_fits}
use Rattle.spec_check.specs.Leaves.{every_leaf}
use Rattle.spec_check.specs.Targets.{targets_fit}
use Rattle.spec_check.specs.Modes.{modes_fit, broken7}
use Rattle.spec_check.specs.Possible.{all_taken, broken8}
use Rattle.spec_check.specs.Interference.{leaf_effects}
use Rattle.spec_check.specs.Spread.{ins_count}
use Rattle.check_leaf.specs.declared.Walked.{Walked}

-- f of a leaf's set and steps; any other node passes
unfoldable pub node_passes : (ActionSet → List Step → Bool) → Node → List Step → Bool
node_passes f x code = elim (node_kind x.kind) [
  | aLeaf ↦ f x.set code
  | aTrivial ↦ true
  | an_unsatisfiable ↦ true
  | aPair w j ↦ true
  | no_node ↦ true
]

-- rule 7 of a leaf, which does not ask for its set
unfoldable pub modes_of : ActionSet → List Step → Bool
modes_of r code = modes_fit code

-- the number of ins steps of a leaf, which does not ask for its set either
unfoldable pub inserts_in : ActionSet → List Step → ℕ
inserts_in r code = ins_count code

-- of a node that keeps rules 4 and 6: rules 7 and 8; of a leaf also its effect set and the number of its ins steps
pub record NodeKept (w : Walked) (x : Node) (steps-fit : Bool) (code : List Step) : Type 0 where
  pub step_records : steps-fit ≡ true
  pub targets : node_passes targets_fit x code ≡ true
  pub modes : w.modes ≡ node_passes modes_of x code
  pub taken : w.taken ≡ node_passes all_taken x code
  pub effects : node_kind x.kind ≡ aLeaf → w.effects.bits ≡ leaf_effects x.set code
  pub inserts : node_kind x.kind ≡ aLeaf → w.inserts ≡ inserts_in x.set code

-- a list with room for every node, which holds f of each leaf before node i
pub record LeafValues (f : ActionSet → List Step → ℕ) (file : Bytes) (i : ℕ) (xs : List ℕ) : Type 0 where
  pub room : length xs ≡ most_nodes
  pub at : (k : ℕ) → k < i → node_kind (get_or (nodes_with_steps file) k no_node_steps).node.kind ≡ aLeaf
      → get_or xs k 0 ≡ f (get_or (nodes_with_steps file) k no_node_steps).node.set (get_or (nodes_with_steps file) k no_node_steps).steps

-- the lowest of rules 4, 6, 7 and 8 that is broken, if one is
unfoldable pub lowest : Bool → Bool → Bool → Bool → Result (Unit {0}) Refusal
lowest true six seven eight = Err refusals.Fields
lowest false true seven eight = Err refusals.Targets
lowest false false true eight = Err refusals.Modes
lowest false false false true = Err refusals.Branches
lowest false false false false = Ok tt

-- of all leaves: the lowest rule that one of them or a step record breaks, and where there is none, what is held of each
pub record LeavesFound (file : Bytes) (n : ℕ) (found : Result (Unit {0}) Refusal) (effs ins : List ℕ) : Type 0 where
  pub is : found ≡ lowest (not (every step_fits (step_records file))) (not (every_leaf targets_fit (nodes_with_steps file))) (broken7 file) (broken8 file)
  pub effects : found ≡ Ok tt → LeafValues leaf_effects file n effs
  pub inserts : found ≡ Ok tt → LeafValues inserts_in file n ins
