-- `count_step` meets its contract.
use Rattle.spec_trace.proofs.CountLaws.{step-in, step_past, step-not}
use Rattle.turn_tally.proofs.count_step.Goals as goal
use Rattle.turn_tally.proofs.count_step.Goals.{else-counting-via-then-counting+else-step-lt-STEP_COUNTS, else-counting-via-else-counting}

pub returns-then-step-lt-STEP_COUNTS : goal.returns-then-step-lt-STEP_COUNTS
returns-then-step-lt-STEP_COUNTS c = step-in _ _ _ _ c.if-counting.true c.if-step-lt-STEP_COUNTS.true c.one_more.ensures

pub returns-else-counting : goal.returns-else-counting
returns-else-counting c =
    elim c.else-counting.branch [
      | else-counting-via-then-counting+else-step-lt-STEP_COUNTS w ↦ step_past _ _ _ w.if-counting.true w.if-step-lt-STEP_COUNTS.false
      | else-counting-via-else-counting w ↦ step-not _ _ _ w.if-counting.false
    ]
