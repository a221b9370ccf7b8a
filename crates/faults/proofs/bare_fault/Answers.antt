-- `bare_fault` meets its contract.
use mathlib.Core.Path.{refl}
use Rattle.faults.specs.Meaning.{spot_of, fault_of}
use Rattle.faults.proofs.bare_fault.Goals as goal

pub returns : goal.returns
unfolding spot_of fault_of
returns c = refl
