-- `fault_at` meets its contract.
use mathlib.Core.Path.{refl}
use Rattle.faults.specs.Meaning.{spot_of, fault_of}
use Rattle.faults.proofs.fault_at.Goals as goal

pub returns : goal.returns
unfolding spot_of fault_of
returns c = refl
