-- `first_mark` meets its contract.
use Rattle.check_modes.proofs.Words.{first-agrees}
use Rattle.check_modes.proofs.first_mark.Goals as goal

pub returns : goal.returns
returns c = first-agrees
