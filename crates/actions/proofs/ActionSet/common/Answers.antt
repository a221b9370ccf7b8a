-- `ActionSet::common` meets its contract.
use mathlib.Core.Path.{refl}
use Rattle.actions.specs.Sets.{common}
use Rattle.actions.proofs.ActionSet.common.Goals as goal

pub returns : goal.returns
unfolding common
returns c = refl
