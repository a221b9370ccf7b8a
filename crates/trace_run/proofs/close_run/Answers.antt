-- `close_run` meets its contract.
use native.Mathlib.Omega.{arith}
use Rattle.call_answer.specs.Requests.{asked}
use Rattle.trace_run.proofs.RunLaws.{may-close, inside-again, closed-told, unclosed-told}
use Rattle.trace_run.proofs.close_run.Goals as goal

pub on_tail-requires : goal.on_tail-requires
on_tail-requires c = may-close c.requires

pub overflow_add-result : goal.overflow_add-result
overflow_add-result c = omega (arith, inside-again c.on_tail.ensures c.in-Ok.is c.requires.inside)

pub returns-in-Ok : goal.returns-in-Ok
unfolding asked
returns-in-Ok c = closed-told c.on_tail.ensures c.args.run.judged c.args.run.status c.in-Ok.is

pub returns-in-Err : goal.returns-in-Err
unfolding asked
returns-in-Err c = unclosed-told c.on_tail.ensures c.args.run.judged c.args.run.status c.in-Err.is c.requires.a-status
