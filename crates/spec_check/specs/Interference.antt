-- Effect sets, and rule 9.
use Rattle.std.specs.Prelude.{ℕ, suc, Bool, false, ◌||◌, not, List, [], ◌∷◌, get_or}
use Rattle.actions.specs.Sets.{ActionSet, EMPTY, single, union, meets}
use Rattle.spec_policy.specs.Bytes.{Bytes}
use Rattle.spec_policy.specs.Records.{nodes}
use Rattle.spec_policy.specs.Spots.{Spot, somewhere, first_off}
use Rattle.spec_policy.specs.Steps.{Step, next, ok, sup, ins, acase, spend, end, halt}
use Rattle.spec_policy.specs.Tree.{parallel, sequential, Tree, leaf, trivial, unsatisfiable, node, regulated, tree_at}
use Rattle.spec_check.specs.Possible.{possible}

-- "A leaf's effect set is all actions it inserts and, for each sup, its possible actions."
unfoldable pub step_effects : ActionSet → Step → ActionSet
step_effects p (next t d) = EMPTY
step_effects p (ok t) = EMPTY
step_effects p (sup t) = p
step_effects p (ins b t) = single b
step_effects p (acase s y z) = EMPTY
step_effects p (spend n y z) = EMPTY
step_effects p end = EMPTY
step_effects p halt = EMPTY

unfoldable pub code_effects : List ActionSet → ℕ → List Step → ActionSet
code_effects ps o [] = EMPTY
code_effects ps o (s ∷ ss) = union (step_effects (get_or ps o EMPTY) s) (code_effects ps (suc o) ss)

unfoldable pub leaf_effects : ActionSet → List Step → ActionSet
leaf_effects r code = code_effects (possible r code) 0 code

-- "Kinds 2 and 3 have empty sets. Kinds 4 to 7: .. effect set the union of the two effect sets."
unfoldable pub effects : Tree → ActionSet
effects (leaf i r c code) = leaf_effects r code
effects (trivial i) = EMPTY
effects (unsatisfiable i) = EMPTY
effects (node w j i l r) = union (effects l) (effects r)

-- "for kinds 4 and 6, a side's effect set meets the other's regulated set."
unfoldable pub interfere : Tree → Tree → Bool
interfere l r = meets (effects l) (regulated r) || meets (effects r) (regulated l)

-- the tree is of kind 4 or 6, and its two sides interfere
unfoldable pub crossed : Tree → Bool
crossed (leaf i r c code) = false
crossed (trivial i) = false
crossed (unsatisfiable i) = false
crossed (node parallel j i l r) = interfere l r
crossed (node sequential j i l r) = false

-- 9: "two parallel sides interfere". Where: "For 9 and 10 it is the node."
unfoldable pub wrong9 : Bytes → Spot
wrong9 file = first_off (λ i x. not (crossed (tree_at file i))) 0 (nodes file)

unfoldable pub broken9 : Bytes → Bool
broken9 file = somewhere (wrong9 file)
