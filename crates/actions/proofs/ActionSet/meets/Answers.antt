-- `ActionSet::meets` meets its contract.
use mathlib.Core.Path.{refl}
use Rattle.actions.specs.Sets.{meets}
use Rattle.actions.proofs.ActionSet.meets.Goals as goal

pub returns : goal.returns
unfolding meets
returns c = refl
