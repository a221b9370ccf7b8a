-- `ActionSet::within` meets its contract.
use mathlib.Core.Path.{refl}
use Rattle.actions.specs.Sets.{within}
use Rattle.actions.proofs.ActionSet.within.Goals as goal

pub returns : goal.returns
unfolding within
returns c = refl
