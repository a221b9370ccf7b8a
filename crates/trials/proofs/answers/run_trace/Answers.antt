-- `run_trace` meets its contract.
use mathlib.Core.Path.{sym}
use native.Mathlib.Omega.{arith}
use lib.Seq.{length-take-le}
use Rattle.trials.proofs.RunLaws.{ran-trace}
use Rattle.trials.proofs.answers.run_trace.Goals as goal

pub slice_bounds-follow_trace-end : goal.slice_bounds-follow_trace-end
slice_bounds-follow_trace-end c = sym (length-take-le _ _ (omega (arith, c.policy_part-end.ensures)))

pub returns : goal.returns
returns c = ran-trace _ _ _ _ _ _ _ _ _ _ _ c.policy_part-end.ensures c.follow_trace.ensures
