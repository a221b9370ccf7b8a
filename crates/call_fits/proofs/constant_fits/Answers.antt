-- `constant_fits` meets its contract.
use Rattle.call_fits.proofs.NodeLaws.{trivial-alone, unsatisfiable-alone}
use Rattle.call_fits.proofs.constant_fits.Goals as goal

pub returns : goal.returns
returns c = record {
  trivial = trivial-alone _ _ _ c.saved_status-s.ensures _ c.bare.ensures;
  unsatisfiable = unsatisfiable-alone _ _ _ c.saved_status-s.ensures _ c.bare.ensures;
}
