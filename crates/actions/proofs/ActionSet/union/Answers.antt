-- `ActionSet::union` meets its contract.
use mathlib.Core.Path.{refl}
use Rattle.actions.specs.Sets.{union}
use Rattle.actions.proofs.ActionSet.union.Goals as goal

pub returns : goal.returns
unfolding union
returns c = refl
