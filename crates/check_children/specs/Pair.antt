-- The children that a node's record is read to have.
use Rattle.std.specs.Prelude.{ℕ, Option, Some, None, List, [], ◌∷◌}

-- a pair's two, and none of any other node
unfoldable pub pair_of : Option (ℕ × ℕ) → List ℕ
pair_of None = []
pair_of (Some p) = p.0 ∷ p.1 ∷ []
