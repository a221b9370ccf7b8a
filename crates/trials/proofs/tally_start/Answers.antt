-- `tally_start` meets its contract.
use native.Mathlib.Omega.{arith}
use Rattle.trials.proofs.RunLaws.{start-zero, start-below}
use Rattle.trials.proofs.tally_start.Goals as goal

pub returns-then-action-eq0 : goal.returns-then-action-eq0
returns-then-action-eq0 c = start-zero _ c.if-action-eq0.true

pub returns : goal.returns
returns c = start-below _ c.if-action-eq0.false (omega arith)
