-- `tell_run` meets its contract: the run, told.
use mathlib.Core.Path.{sym, subst}
use Rattle.guardtrace.specs.Meaning.{Tellable}
use Rattle.guardtrace.proofs.Heard.{heard}
use Rattle.guardtrace.proofs.ShownLaws.{tellable, ran-is, tells_as}
use Rattle.guardtrace.proofs.tell_run.Goals as goal

pub tell_report-requires : goal.tell_report-requires
tell_report-requires c = (subst (Tellable c.args.policy.now) (sym (heard _ _ c.follow_trace-report.ensures.report)) (tellable _ _ _ _ _), c.requires)

pub returns : goal.returns
returns c = tells_as c.tell_report.ensures (ran-is c.args.events.now c.args.policy.now c.args.trace.now _ _ _ (heard _ _ c.follow_trace-report.ensures.report) c.follow_trace-report.ensures.steps-are c.follow_trace-report.ensures.actions-are)
