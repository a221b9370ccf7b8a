-- `lead_all` meets its contract: what the step leads to in each mode in which it is reached, one after the other.
use lib.Dec.{lit<}
use Rattle.spec_check.specs.Modes.{idle, pending, closing}
use Rattle.check_modes.specs.Table.{mode_number}
use Rattle.check_modes.proofs.ModeSteps.{adds-both, lead-law}
use Rattle.check_modes.proofs.lead_all.Goals as goal

pub lead_if-closing-requires : goal.lead_if-closing-requires
unfolding mode_number
lead_if-closing-requires c = record { le_kind = (c.requires.1.low, c.requires.1.high, lit< tt); t = c.requires.1.room closing }

pub lead_if-pending-requires : goal.lead_if-pending-requires
unfolding mode_number
lead_if-pending-requires c = record { le_kind = (c.requires.1.low, c.requires.1.high, lit< tt); t = c.requires.1.room pending }

pub lead_if-requires : goal.lead_if-requires
unfolding mode_number
lead_if-requires c = record { le_kind = (c.requires.1.low, c.requires.1.high, lit< tt); t = c.requires.1.room idle }

pub returns : goal.returns
returns c s ks tells g =
    lead-law s c.args.row.kind c.args.row.first c.args.row.second tells c.args.o ks _ _ _ (c.reached-here.ensures ks g) c.args.seen _
    (adds-both _ _ _ _ _ (adds-both _ _ _ _ _ c.lead_if-closing.ensures c.lead_if-pending.ensures) c.lead_if.ensures) g
