-- What the code's report stands for, and what is known of one that is told.
use Rattle.std.specs.Prelude.{ℕ, ◌≤◌, length, Option, Some, None, Ok, Err}
use Rattle.spec_policy.specs.Bytes.{Bytes}
use Rattle.spec_check.specs.Layout.{CountsFit}
use Rattle.spec_turns.specs.Status.{status_of}
use Rattle.spec_trace.specs.Traces as spec
use Rattle.faults.specs.Meaning.{fault_of}
use Rattle.faults.specs.declared.Fault.{Fault}
use Rattle.trace_run.specs.Reports.{Report}
use Rattle.text_append.specs.Refusal.{refusal}
use Rattle.guardtrace.specs.Shown.{ending}

unfoldable pub stop_of : Option Fault → spec.Stop
stop_of None = spec.unrefused
stop_of (Some f) = spec.refused_with (fault_of f)

unfoldable pub report_of : Report → spec.Report
unfolding stop_of
report_of (Err f) = spec.unopened (fault_of f)
report_of (Ok a) = spec.followed (stop_of a.stop) a.judged a.events (status_of a.status)

-- no refusal is longer, with what stands before it in its line
abbrev pub most_ending : ℕ
most_ending = 19

-- A refusal is short, and the counts of a file that was opened are to be believed.
unfoldable pub Tellable : Bytes → spec.Report → Type 0
Tellable policy (spec.unopened f) = length (refusal f) ≤ most_ending
Tellable policy (spec.followed z j n s) = CountsFit policy × (length (ending z) ≤ most_ending)
