-- `offsets_below` meets its contract: of 64 ones so many are left.
use Rattle.check_modes.proofs.Words.{low_ones}
use Rattle.check_modes.proofs.offsets_below.Goals as goal

pub returns : goal.returns
returns c q = low_ones _ c.requires.1 q
