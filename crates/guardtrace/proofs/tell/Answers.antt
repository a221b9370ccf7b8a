-- `tell` meets its contract: a trace that is too long, or a run.
use native.Mathlib.Omega.{arith}
use mathlib.Core.Path.{sym}
use lib.Seq.{length-take-le}
use Rattle.spec_text.specs.Words.{ascii}
use Rattle.text_append.proofs.AddedLaws.{tells}
use Rattle.guardtrace.specs.Shown.{too_long}
use Rattle.guardtrace.proofs.ShownLaws.{shown-long, shown-run, tells_as}
use Rattle.guardtrace.proofs.tell.Goals as goal

pub returns-then-input-end-gt-MOST_TRACE : goal.returns-then-input-end-gt-MOST_TRACE
unfolding too_long ascii
returns-then-input-end-gt-MOST_TRACE c = tells_as (tells c.append.ensures (omega (arith, c.requires.1))) (shown-long c.args.input.now c.policy_part-end.result c.policy_part-end.ensures c.if-input-end-gt-MOST_TRACE.true)

pub slice_bounds-tell_run-end : goal.slice_bounds-tell_run-end
slice_bounds-tell_run-end c = sym (length-take-le _ _ (omega (arith, c.policy_part-end.ensures)))

pub returns : goal.returns
returns c = tells_as c.tell_run.ensures (shown-run c.args.input.now c.policy_part-end.result c.policy_part-end.ensures _ c.requires.0 c.if-input-end-gt-MOST_TRACE.false)
