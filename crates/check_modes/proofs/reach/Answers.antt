-- `reach` meets its contract: a target that the step has is joined to the word of its mode, one that it does not have is not.
use native.Mathlib.Omega.{arith}
use Rattle.actions.specs.Sets.{union}
use Rattle.spec_check.specs.Modes.{idle, pending, closing}
use Rattle.check_modes.specs.Table.{mode_number}
use Rattle.check_modes.proofs.Words.{joined, joined-adds}
use Rattle.check_modes.proofs.ModeSteps.{room-one, adds_none}
use Rattle.check_modes.proofs.reach.Goals as goal

pub only_bit-requires : goal.only_bit-requires
only_bit-requires c = room-one c.args.mode c.args.o (omega (arith, c.in-0.is)) c.requires

pub returns-in-0 : goal.returns-in-0
unfolding joined union mode_number
returns-in-0 c = joined-adds _ idle _ _ _ c.in-0.is c.only_bit.ensures

pub only_bit-requires-in-1 : goal.only_bit-requires-in-1
only_bit-requires-in-1 c = room-one c.args.mode c.args.o (omega (arith, c.in-1.is)) c.requires

pub returns-in-1 : goal.returns-in-1
unfolding joined union mode_number
returns-in-1 c = joined-adds _ pending _ _ _ c.in-1.is c.only_bit-in-1.ensures

pub only_bit-requires-in-2 : goal.only_bit-requires-in-2
only_bit-requires-in-2 c = room-one c.args.mode c.args.o (omega (arith, c.in-2.is)) c.requires

pub returns-in-2 : goal.returns-in-2
unfolding joined union mode_number
returns-in-2 c = joined-adds _ closing _ _ _ c.in-2.is c.only_bit-in-2.ensures

pub returns-in_default : goal.returns-in_default
returns-in_default c = adds_none _ _ _ (omega arith)
