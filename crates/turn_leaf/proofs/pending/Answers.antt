-- `pending` meets its contract.
use Rattle.turn_leaf.proofs.LeafStarts.{pending-before, pending-none}
use Rattle.turn_leaf.proofs.pending.Goals as goal

pub returns-then-phase-lt-AFTER : goal.returns-then-phase-lt-AFTER
returns-then-phase-lt-AFTER c = pending-before _ c.if-phase-lt-AFTER.true

pub returns : goal.returns
returns c = pending-none _ c.if-phase-lt-AFTER.false
