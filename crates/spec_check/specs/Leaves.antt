-- A test of every leaf of the file, and the lowest-numbered of the steps that are found wrong in leaves.
use Rattle.std.specs.Prelude.{ℕ, ◌+◌, Bool, true, ◌&&◌, List, [], ◌∷◌}
use Rattle.actions.specs.Sets.{ActionSet}
use Rattle.spec_policy.specs.Spots.{Spot, nowhere, or_else, counted_from}
use Rattle.spec_policy.specs.Steps.{Step}
use Rattle.spec_policy.specs.Tree.{aLeaf, aTrivial, an_unsatisfiable, aPair, no_node, node_kind, steps_owned, NodeSteps}

-- f of each leaf's set and steps
unfoldable pub every_leaf : (ActionSet → List Step → Bool) → List NodeSteps → Bool
every_leaf f [] = true
every_leaf f (p ∷ ps) = elim (node_kind p.node.kind) [
  | aLeaf ↦ f p.node.set p.steps && every_leaf f ps
  | aTrivial ↦ every_leaf f ps
  | an_unsatisfiable ↦ every_leaf f ps
  | aPair w j ↦ every_leaf f ps
  | no_node ↦ every_leaf f ps
]

-- "Steps are numbered over the whole file": the lowest-numbered step that f finds in a leaf. Of a leaf's set and steps f gives the offset of a step, and
-- the nodes before these own b steps.
unfoldable pub first_in_leaves : (ActionSet → List Step → Spot) → ℕ → List NodeSteps → Spot
first_in_leaves f b [] = nowhere
first_in_leaves f b (p ∷ ps) = elim (node_kind p.node.kind) [
  | aLeaf ↦ or_else (counted_from b (f p.node.set p.steps)) (first_in_leaves f (b + steps_owned p.node) ps)
  | aTrivial ↦ first_in_leaves f (b + steps_owned p.node) ps
  | an_unsatisfiable ↦ first_in_leaves f (b + steps_owned p.node) ps
  | aPair w j ↦ first_in_leaves f (b + steps_owned p.node) ps
  | no_node ↦ first_in_leaves f (b + steps_owned p.node) ps
]
