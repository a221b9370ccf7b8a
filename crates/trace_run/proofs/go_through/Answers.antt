-- `go_through` meets its contract. The invariant: the run from here on is the whole run.
use native.Mathlib.Omega.{arith}
use mathlib.Core.Path.{sym, ◌∙◌}
use Rattle.call_answer.specs.Requests.{asked}
use Rattle.trace_run.proofs.RunLaws.{may-offer, inside-again}
use Rattle.trace_run.proofs.LoopLaws.{through-refused, through-halts, through-on}
use Rattle.trace_run.proofs.go_through.Goals as goal

pub on_tail-requires : goal.on_tail-requires
on_tail-requires c = may-offer c.loop-action.invariant.2.running _

pub overflow_add-run-in-Ok : goal.overflow_add-run-in-Ok
overflow_add-run-in-Ok c =
    omega (arith, inside-again c.on_tail.ensures c.in-Ok.is c.loop-action.invariant.2.running.inside, c.loop-action.invariant.2.long)

pub returns-then-is_halted : goal.returns-then-is_halted
unfolding asked
returns-then-is_halted c =
    rw (c.loop-action.invariant.0, c.loop-action.invariant.1) (through-halts c.loop-action.invariant.2 c.loop-action-test.true c.on_tail.ensures c.in-Ok.is (sym c.is_halted.ensures ∙ c.if-is_halted.true))

pub loop-action-preserved : goal.loop-action-preserved
unfolding asked
loop-action-preserved c = (
  c.loop-action.invariant.0,
  omega (arith, c.loop-action.invariant.1),
  through-on c.loop-action.invariant.2 c.loop-action-test.true c.on_tail.ensures c.in-Ok.is (λ i. (c.type_inv.policy i).fits) (sym c.is_halted.ensures ∙ c.if-is_halted.false),
)

pub returns-in-Err : goal.returns-in-Err
unfolding asked
returns-in-Err c =
    rw c.loop-action.invariant.1 (through-refused c.loop-action.invariant.2 c.loop-action-test.true c.on_tail.ensures c.in-Err.is)
