-- `stands` meets its contract: an entry's first digit.
use mathlib.Core.Path.{refl}
use Rattle.check_modes.specs.Table.{may_stand}
use Rattle.check_modes.proofs.stands.Goals as goal

pub returns : goal.returns
unfolding may_stand
returns c = refl
