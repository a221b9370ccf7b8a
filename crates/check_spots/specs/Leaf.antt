-- Rules 6 to 8 of one leaf: its first step that breaks a rule, and what is asked before.
use Rattle.std.specs.Prelude.{ℕ, ◌+◌, ◌*◌, ◌≤◌, ◌<◌, ◌≡◌, List, T, ltb, length, get_or}
use Rattle.actions.specs.Sets.{ActionSet}
use Rattle.spec_policy.specs.Bytes.{Bytes}
use Rattle.spec_policy.specs.Lists.{every}
use Rattle.spec_policy.specs.Records.{Node, most_leaf_steps, step_size, step_record_at}
use Rattle.spec_policy.specs.Spots.{Spot, nowhere, first_off}
use Rattle.spec_policy.specs.Steps.{Step, step_of, targets}
use Rattle.spec_policy.specs.Tree.{aLeaf, aTrivial, an_unsatisfiable, aPair, no_node, node_kind, no_node_steps, nodes_with_steps}
use Rattle.spec_check.specs.Targets.{leads_well}
use Rattle.spec_check.specs.Modes.{marks, mode_fits}
use Rattle.spec_check.specs.Possible.{possible, branches_taken}
use Rattle.file_records.specs.Code.{code_at}

-- the first step of a leaf with this set and these steps that breaks rule 6, 7 or 8, by its offset
abbrev pub stray_in : ActionSet → List Step → Spot
stray_in r code = first_off (leads_well r code) 0 code

abbrev pub lost_in : List Step → Spot
lost_in code = first_off (mode_fits (marks code)) 0 code

abbrev pub untaken_in : ActionSet → List Step → Spot
untaken_in r code = first_off (branches_taken (possible r code)) 0 code

-- what is looked for in a leaf, by its set and its steps
abbrev pub Search : Type 0
Search = ActionSet → List Step → Spot

-- one of the file's leaves, by where its steps lie, how many they are, and its set
pub record LeafAt (file : Bytes) (at count : ℕ) (r : ActionSet) : Type 0 where
  pub in_file : at + step_size * count ≤ length file
  pub few : count ≤ most_leaf_steps
  pub node : ℕ
  pub kind : node_kind (get_or (nodes_with_steps file) node no_node_steps).node.kind ≡ aLeaf
  pub set : r ≡ (get_or (nodes_with_steps file) node no_node_steps).node.set
  pub steps : code_at file at count ≡ (get_or (nodes_with_steps file) node no_node_steps).steps

-- every target is an offset of the leaf, whose steps lie from `at` on
abbrev pub TargetsIn : Bytes → ℕ → ℕ → Type 0
TargetsIn file at count = (o : ℕ) → o < count → T (every (λ t. ltb t count) (targets (step_of (step_record_at file (at + step_size * o)))))

-- f of a leaf's set and steps; any other node has no steps
unfoldable pub in_node : (ActionSet → List Step → Spot) → Node → List Step → Spot
in_node f x code = elim (node_kind x.kind) [
  | aLeaf ↦ f x.set code
  | aTrivial ↦ nowhere
  | an_unsatisfiable ↦ nowhere
  | aPair w j ↦ nowhere
  | no_node ↦ nowhere
]
