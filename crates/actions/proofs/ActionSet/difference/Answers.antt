-- `ActionSet::difference` meets its contract.
use mathlib.Core.Path.{refl}
use Rattle.actions.specs.Sets.{difference}
use Rattle.actions.proofs.ActionSet.difference.Goals as goal

pub returns : goal.returns
unfolding difference
returns c = refl
