-- Rule 12 of a node and all beneath it, its parent left aside.
use Rattle.std.specs.Prelude.{Bool, eqb}
use Rattle.spec_policy.specs.Bytes.{Bytes}
use Rattle.spec_policy.specs.Tree.{Tree, number_of}
use Rattle.spec_turns.specs.Saved.{status_at, fits_under}

-- it fits under a parent that is as its own status asks: gone exactly when it is dropped
unfoldable pub fits_alone : Tree → Bytes → Bool
fits_alone t bs = fits_under (eqb (status_at bs (number_of t)) 6) t bs
