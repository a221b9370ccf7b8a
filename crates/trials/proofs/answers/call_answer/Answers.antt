-- `call_answer` meets its contract.
use mathlib.Core.Path.{sym}
use native.Mathlib.Omega.{arith}
use lib.Seq.{length-take-le}
use Rattle.trials.specs.Calls.{part}
use Rattle.trials.proofs.CallLaws.{made}
use Rattle.trials.proofs.answers.call_answer.Goals as goal

pub slice_bounds-enter-end-3 : goal.slice_bounds-enter-end-3
slice_bounds-enter-end-3 c = sym (length-take-le c.load-of_state.result c.load-of_state.new.buffer (omega (arith, c.load-of_state.ensures.0, c.load-of_state.auto.buffer)))

pub slice_bounds-enter-end-5 : goal.slice_bounds-enter-end-5
slice_bounds-enter-end-5 c = sym (length-take-le c.load-of_events.result c.load-of_events.new.buffer (omega (arith, c.load-of_events.ensures.0, c.load-of_events.auto.buffer)))

pub returns : goal.returns
unfolding part
returns c =
    made c.args.batch.now c.args.parts c.load-of_state.new.buffer c.load-of_events.new.buffer c.enter-answer.new.state c.enter-answer.new.events _ _ c.reply_bytes.result c.load-of_state.result c.load-of_events.result c.enter-answer.result c.requires.0
    c.load-of_state.ensures.0 c.load-of_state.ensures.1 (omega (arith, c.load-of_state.ensures.0, c.load-of_state.auto.buffer)) c.load-of_events.ensures.0 c.load-of_events.ensures.1 (omega (arith, c.load-of_events.ensures.0, c.load-of_events.auto.buffer)) c.enter-answer.ensures c.enter-answer.auto.state c.enter-answer.auto.events c.reply_bytes.ensures
