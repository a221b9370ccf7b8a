-- `trace_answer` meets its contract.
use mathlib.Core.Path.{sym}
use native.Mathlib.Omega.{arith}
use lib.Seq.{length-take-le}
use Rattle.trials.specs.Calls.{part}
use Rattle.trials.proofs.RunLaws.{made-run}
use Rattle.trials.proofs.answers.trace_answer.Goals as goal

pub slice_bounds-run_trace-end-3 : goal.slice_bounds-run_trace-end-3
slice_bounds-run_trace-end-3 c = sym (length-take-le c.load-of_state.result c.load-of_state.new.buffer (omega (arith, c.load-of_state.ensures.0, c.load-of_state.auto.buffer)))

pub slice_bounds-run_trace-end-5 : goal.slice_bounds-run_trace-end-5
slice_bounds-run_trace-end-5 c = sym (length-take-le c.load-of_events.result c.load-of_events.new.buffer (omega (arith, c.load-of_events.ensures.0, c.load-of_events.auto.buffer)))

pub returns : goal.returns
unfolding part
returns c =
    made-run c.args.batch.now c.args.parts c.load-of_state.new.buffer c.load-of_events.new.buffer c.run_trace-report.new.state c.run_trace-report.new.events _ _ c.traced_bytes.result c.load-of_state.result c.load-of_events.result c.run_trace-report.result _ _ _ _ c.requires.0
    c.load-of_state.ensures.0 c.load-of_state.ensures.1 (omega (arith, c.load-of_state.ensures.0, c.load-of_state.auto.buffer)) c.load-of_events.ensures.0 c.load-of_events.ensures.1 (omega (arith, c.load-of_events.ensures.0, c.load-of_events.auto.buffer)) c.run_trace-report.ensures c.run_trace-report.auto.state c.run_trace-report.auto.events c.traced_bytes.ensures
