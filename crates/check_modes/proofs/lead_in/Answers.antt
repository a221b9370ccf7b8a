-- `lead_in` meets its contract: the entry's two marks.
use Rattle.check_modes.proofs.ModeSteps.{room-parts, lead-both}
use Rattle.check_modes.proofs.lead_in.Goals as goal

pub reach-after-requires : goal.reach-after-requires
reach-after-requires c = (room-parts _ _ _ c.requires).1

pub reach-marks-requires : goal.reach-marks-requires
reach-marks-requires c = (room-parts _ _ _ c.requires).0

pub returns : goal.returns
returns c = record { adds = lead-both _ _ _ _ _ _ c.reach-after.ensures c.reach-marks.ensures; test = c.stands.ensures }
