-- `leaf_fits` meets its contract.
use Rattle.call_fits.proofs.NodeLaws.{leaf-running, leaf-over}
use Rattle.call_fits.proofs.leaf_fits.Goals as goal

pub returns-then-s-eq-RUNNING : goal.returns-then-s-eq-RUNNING
returns-then-s-eq-RUNNING c = λ set. leaf-running _ _ set _ _ _ c.saved_status-s.ensures _ c.if-s-eq-RUNNING.true c.waits.ensures

pub returns : goal.returns
returns c = λ set. leaf-over _ _ set _ _ _ c.saved_status-s.ensures _ c.if-s-eq-RUNNING.false c.bare.ensures
