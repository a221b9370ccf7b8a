-- `follow_trace` meets its contract: the check's refusal, 11, opening, and what follows.
use native.Mathlib.Omega.{arith}
use mathlib.Core.Path.{◌≡◌, sym, ◌∙◌}
use Rattle.std.proofs.Common.{rules, Err}
use Rattle.check_policy.proofs.Answers.{check-passes, check-refuses, refusal_is}
use Rattle.call_answer.specs.Requests.{asked}
use Rattle.trace_run.proofs.OpenLaws.{may-open, unpassed-told, eleven-told, refused-told, halts-told, goes-told, runs}
use Rattle.trace_run.proofs.follow_trace.Goals as goal

pub returns-in_default : goal.returns-in_default
returns-in_default c = unpassed-told c.args.policy.now c.args.trace.now c.args.state.now c.args.events.now c.args.steps.now c.args.actions.now (check-refuses c.args.policy.now c.check-checked.ensures c.in_default.is) (refusal_is _ (grind arith) c.in_default.is)

pub returns-then-state-ne-STATE_SIZE : goal.returns-then-state-ne-STATE_SIZE
returns-then-state-ne-STATE_SIZE c = eleven-told c.args.policy.now c.args.trace.now c.args.state.now c.args.events.now c.args.steps.now c.args.actions.now (check-passes c.args.policy.now c.check-checked.ensures c.in-Ok.is) c.if-state-ne-STATE_SIZE.true c.bare.ensures

pub on_tail-requires : goal.on_tail-requires
on_tail-requires c = may-open c.args.policy.now c.args.state.now c.args.events.now (check-passes c.args.policy.now c.check-checked.ensures c.in-Ok.is) c.if-state-ne-STATE_SIZE.false

pub returns-in_err-opened : goal.returns-in_err-opened
unfolding asked
returns-in_err-opened c =
    let same : c.from_residual.result ≡ Err c.in_err-opened.field-0.0 = search rules in
    rw same (refused-told c.args.policy.now c.args.trace.now c.args.state.now c.args.events.now c.args.steps.now c.args.actions.now c.on_tail.ensures c.in_err-opened.was)

pub returns-then-is_halted : goal.returns-then-is_halted
unfolding asked
returns-then-is_halted c = halts-told c.args.policy.now c.args.trace.now c.args.state.now c.args.events.now c.args.steps.now c.args.actions.now c.on_tail.ensures c.in_ok-opened.was (sym c.is_halted.ensures ∙ c.if-is_halted.true)

pub go_through-requires-clause-running : goal.go_through-requires-clause-running
unfolding asked
go_through-requires-clause-running c = runs c.args.policy.now c.args.trace.now c.args.state.now c.args.events.now c.args.steps.now c.args.actions.now c.on_tail.ensures c.in_ok-opened.was (λ i. (c.type_inv.policy i).fits) (check-passes c.args.policy.now c.check-checked.ensures c.in-Ok.is) (sym c.is_halted.ensures ∙ c.if-is_halted.false)

pub returns : goal.returns
unfolding asked
returns c = goes-told c.args.policy.now c.args.trace.now c.args.state.now c.args.events.now c.args.steps.now c.args.actions.now c.on_tail.ensures c.in_ok-opened.was (sym c.is_halted.ensures ∙ c.if-is_halted.false) c.go_through.ensures
