-- `mark_of` meets its contract.
use native.Mathlib.Omega.{arith}
use mathlib.Core.Path.{sym}
use mathlib.Core.Bool.{true}
use Rattle.turn_sides.proofs.StatusBytes.{mark-before, later}
use Rattle.turn_sides.proofs.mark_of.Goals as goal

pub returns-then-phase-lt-AFTER : goal.returns-then-phase-lt-AFTER
returns-then-phase-lt-AFTER c = (sym (mark-before _ c.if-phase-lt-AFTER.true), omega arith)

pub returns : goal.returns
returns c = (sym (later _ c.if-phase-lt-AFTER.false true).1, omega arith)
