-- `on_record` meets its contract.
use mathlib.Core.Path.{refl}
use Rattle.faults.specs.Meaning.{spot_of}
use Rattle.faults.proofs.on_record.Goals as goal

pub returns : goal.returns
unfolding spot_of
returns c = refl
