-- `broken2` meets its contract.
use Prim.Native.Nat.{ℕ}
use mathlib.Core.Path.{ap}
use mathlib.Core.Bool.{not}
use lib.Dec.{eqb}
use Rattle.spec_policy.specs.Records.{version_field}
use Rattle.spec_check.specs.Layout.{broken2}
use Rattle.check_layout.proofs.broken2.Goals as goal

pub returns : goal.returns
unfolding broken2 version_field
returns c = ap (λ (n : ℕ). not (eqb n 1)) c.byte.ensures
