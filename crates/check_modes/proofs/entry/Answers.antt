-- `entry` meets its contract: the table is the definition's.
use mathlib.Core.Path.{refl}
use Rattle.check_modes.specs.Table.{entry_at}
use Rattle.check_modes.proofs.entry.Goals as goal

pub returns : goal.returns
unfolding entry_at
returns c = refl
