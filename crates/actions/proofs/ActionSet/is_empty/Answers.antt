-- `ActionSet::is_empty` meets its contract.
use mathlib.Core.Path.{refl}
use Rattle.actions.specs.Sets.{is_empty}
use Rattle.actions.proofs.ActionSet.is_empty.Goals as goal

pub returns : goal.returns
unfolding is_empty
returns c = refl
