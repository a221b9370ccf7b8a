-- `end_sup` meets its contract.
use mathlib.Core.Path.{sym}
use Rattle.turn_sides.proofs.StatusBytes.{sup-before, later}
use Rattle.turn_sides.proofs.end_sup.Goals as goal

pub returns-then-phase-lt-AFTER : goal.returns-then-phase-lt-AFTER
returns-then-phase-lt-AFTER c = sym (sup-before _ _ c.if-phase-lt-AFTER.true)

pub returns : goal.returns
returns c = sym (later _ c.if-phase-lt-AFTER.false _).0
