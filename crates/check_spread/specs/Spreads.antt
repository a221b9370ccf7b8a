-- Spreads as the code keeps them, where none is above 256.
use Rattle.std.specs.Prelude.{ℕ, ◌≤◌, ◌<◌, ◌≡◌, true, false, List, leb, length, get_or}
use Rattle.spec_policy.specs.Bytes.{Bytes}
use Rattle.spec_policy.specs.Records.{most_nodes}
use Rattle.spec_policy.specs.Tree.{Tree, tree_at}
use Rattle.spec_check.specs.Spread.{spread}

-- a spread, and 256 for each that is above 255
unfoldable pub cap : ℕ → ℕ
cap s = elim (leb s 255) [
  | true ↦ s
  | false ↦ 256
]

unfoldable pub capped : Tree → ℕ
capped t = cap (spread t)

-- what is kept of the nodes from i on
pub record KeptFrom (file : Bytes) (n i : ℕ) (caps : List ℕ) : Type 0 where
  pub size : length caps ≡ most_nodes
  pub is : (k : ℕ) → i ≤ k → k < n → get_or caps k 0 ≡ capped (tree_at file k)
