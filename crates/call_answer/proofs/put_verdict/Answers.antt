-- `put_verdict` meets its contract: the event's two bytes.
use native.Mathlib.Omega.{arith}
use lib.ListN.{length-set}
use Rattle.call_answer.proofs.EndLaws.{said}
use Rattle.call_answer.proofs.put_verdict.Goals as goal

pub bounds-events-at-2 : goal.bounds-events-at-2
bounds-events-at-2 c = rw length-set (omega arith)

pub returns : goal.returns
returns c = said c.args.suppressed _ c.args.count c.args.action _ c.requires (c.verdict_byte.ensures c.args.action)
