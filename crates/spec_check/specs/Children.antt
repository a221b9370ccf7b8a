-- Rule 5: the tree rule.
use Rattle.std.specs.Prelude.{ℕ, Bool, true, ◌&&◌, ◌||◌, List, [], ◌∷◌, eqb, ltb}
use Rattle.spec_policy.specs.Bytes.{Bytes}
use Rattle.spec_policy.specs.Lists.{occurs}
use Rattle.spec_policy.specs.Records.{Node, node_count, nodes}
use Rattle.spec_policy.specs.Spots.{Spot, somewhere, first_off}
use Rattle.spec_policy.specs.Tree.{aLeaf, aTrivial, an_unsatisfiable, aPair, no_node, node_kind}

-- "A child's number is greater than its parent's and less than n".
unfoldable pub later : ℕ → ℕ → Node → Bool
later n i x = elim (node_kind x.kind) [
  | aPair w j ↦ ltb i x.left && ltb x.left n && ltb i x.right && ltb x.right n
  | aLeaf ↦ true
  | aTrivial ↦ true
  | an_unsatisfiable ↦ true
  | no_node ↦ true
]

unfoldable pub children : List Node → List ℕ
children [] = []
children (x ∷ xs) = elim (node_kind x.kind) [
  | aPair w j ↦ x.left ∷ x.right ∷ children xs
  | aLeaf ↦ children xs
  | aTrivial ↦ children xs
  | an_unsatisfiable ↦ children xs
  | no_node ↦ children xs
]

-- "every node but 0 is a child exactly once."
unfoldable pub one_parent : List Node → ℕ → Bool
one_parent xs i = eqb i 0 || eqb (occurs i (children xs)) 1

-- 5: "the tree rule is broken". Where: "it is the lowest node that has a bad child or, 0 apart, isn't a child exactly once", in one scan. Each time that
-- a node is named as a child counts, whether it may be named there or not.
unfoldable pub wrong5 : Bytes → Spot
wrong5 file = first_off (λ i x. later (node_count file) i x && one_parent (nodes file) i) 0 (nodes file)

unfoldable pub broken5 : Bytes → Bool
broken5 file = somewhere (wrong5 file)
