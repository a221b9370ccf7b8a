-- What the code's report says of the definition's.
use mathlib.Core.Path.{◌≡◌, refl, ap, ap₂, ◌∙◌}
use Rattle.spec_turns.specs.Status.{Status}
use Rattle.laws_turns.proofs.Cells.{status-back}
use Rattle.spec_trace.specs.Traces as spec
use Rattle.faults.proofs.Once.{same-meaning}
use Rattle.trace_run.specs.Reports.{Report, stop_value, report_value}
use Rattle.guardtrace.specs.Meaning.{stop_of, report_of}

stop-back : (z : spec.Stop) → stop_of (stop_value z) ≡ z
unfolding stop_of stop_value
stop-back spec.unrefused = refl
stop-back (spec.refused_with f) = ap spec.refused_with (same-meaning f)

report-back : (x : spec.Report) → report_of (report_value x) ≡ x
unfolding report_of report_value
report-back (spec.unopened f) = ap spec.unopened (same-meaning f)
report-back (spec.followed z j n s) = ap₂ (λ (w : spec.Stop) (t : Status). spec.followed w j n t) (stop-back z) (status-back s)

pub heard : (x : spec.Report) (r : Report) → r ≡ report_value x → report_of r ≡ x
heard x r e = ap report_of e ∙ report-back x
