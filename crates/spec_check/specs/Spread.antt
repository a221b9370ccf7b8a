-- Spread, and rule 10.
use Rattle.std.specs.Prelude.{ℕ, ◌+◌, ◌*◌, ◌-◌, Bool, List, [], ◌∷◌, leb}
use Rattle.spec_policy.specs.Bytes.{Bytes}
use Rattle.spec_policy.specs.Lists.{one}
use Rattle.spec_policy.specs.Records.{nodes}
use Rattle.spec_policy.specs.Spots.{Spot, somewhere, first_off}
use Rattle.spec_policy.specs.Steps.{Step, is_ins}
use Rattle.spec_policy.specs.Tree.{Way, parallel, sequential, Tree, leaf, trivial, unsatisfiable, node, tree_at}

-- the number of ins steps
unfoldable pub ins_count : List Step → ℕ
ins_count [] = 0
ins_count (s ∷ ss) = one (is_ins s) + ins_count ss

-- "Kinds 4, 6: sum. Kinds 5, 7: (1 + left) times (1 + right), less 1."
unfoldable pub spread_of : Way → ℕ → ℕ → ℕ
spread_of parallel l r = l + r
spread_of sequential l r = (1 + l) * (1 + r) - 1

-- "Leaf: its number of ins steps. Kinds 2, 3: 0."
unfoldable pub spread : Tree → ℕ
spread (leaf i r c code) = ins_count code
spread (trivial i) = 0
spread (unsatisfiable i) = 0
spread (node w j i l r) = spread_of w (spread l) (spread r)

-- 10: "a node's spread is above 255". Where: "For 9 and 10 it is the node.", always the root, for no node's spread is above its parent's.
unfoldable pub wrong10 : Bytes → Spot
wrong10 file = first_off (λ i x. leb (spread (tree_at file i)) 255) 0 (nodes file)

unfoldable pub broken10 : Bytes → Bool
broken10 file = somewhere (wrong10 file)
