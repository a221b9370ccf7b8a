-- `lendable` meets its contract.
use mathlib.Core.Path.{refl}
use Rattle.spec_writer.specs.Writing.{holds, whole}
use Rattle.spec_writer.specs.Lent.{lendable}
use Rattle.file_writer.proofs.lendable.Goals as goal

pub returns : goal.returns
unfolding lendable holds whole
returns c = refl
