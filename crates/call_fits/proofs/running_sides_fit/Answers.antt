-- `running_sides_fit` meets its contract.
use Rattle.call_fits.proofs.NodeLaws.{sides-run}
use Rattle.call_fits.proofs.running_sides_fit.Goals as goal

pub returns-then-l-r : goal.returns-then-l-r
returns-then-l-r c = sides-run _ _ _ c.if-l-r.true
