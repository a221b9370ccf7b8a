-- `tell_report` meets its contract: a refusal, or how the run ended and its tally.
use native.Mathlib.Omega.{arith}
use mathlib.Core.Path.{sym, ap, subst}
use Rattle.spec_trace.specs.Tallies.{Tally}
use Rattle.trace_run.specs.Reports.{Report}
use Rattle.text_append.proofs.AddedLaws.{tells}
use Rattle.guardtrace.specs.Shown.{reported}
use Rattle.guardtrace.specs.Meaning.{report_of, Tellable}
use Rattle.guardtrace.proofs.ShownLaws.{tells_as}
use Rattle.guardtrace.proofs.report.tell_report.Goals as goal

pub tell_followed-requires : goal.tell_followed-requires
unfolding Tellable report_of
tell_followed-requires c =
    let h = subst (λ (r : Report). Tellable c.args.policy.now (report_of r)) c.in-Ok.is c.requires.0 in
    (h.0, h.1, c.requires.1)

pub returns-in-Err : goal.returns-in-Err
unfolding Tellable report_of reported
returns-in-Err c =
    let t : Tally = record { steps = c.args.steps.now; actions = c.args.actions.now } in
    let h = subst (λ (r : Report). Tellable c.args.policy.now (report_of r)) c.in-Err.is c.requires.0 in
    tells_as (tells c.refuse.ensures (omega (arith, h, c.requires.1))) (sym (ap (λ (r : Report). reported c.args.policy.now (report_of r) t) c.in-Err.is))

pub returns-in-Ok : goal.returns-in-Ok
unfolding report_of
returns-in-Ok c =
    let t : Tally = record { steps = c.args.steps.now; actions = c.args.actions.now } in
    tells_as c.tell_followed.ensures (sym (ap (λ (r : Report). reported c.args.policy.now (report_of r) t) c.in-Ok.is))
