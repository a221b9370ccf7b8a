-- `seq_end` meets its contract.
use Rattle.turn_sides.proofs.StatusBytes.{sup-before, later}
use Rattle.turn_ends.proofs.EndLaws.{seq-told, seq-quiet}
use Rattle.turn_ends.proofs.seq_end.Goals as goal

pub returns-then-phase-lt-AFTER : goal.returns-then-phase-lt-AFTER
returns-then-phase-lt-AFTER c = seq-told c.settle.ensures _ (sup-before _ _ c.if-phase-lt-AFTER.true) c.requires.1

pub returns : goal.returns
returns c = seq-quiet c.settle.ensures _ (later _ c.if-phase-lt-AFTER.false _).0
