-- `count_event` meets its contract.
use Prim.Native.Nat.{◌+◌}
use native.Mathlib.Omega.{arith}
use Rattle.trace_events.proofs.EventLaws.{event-in, event-past}
use Rattle.trace_events.proofs.count_event.Goals as goal

pub returns-in_default : goal.returns-in_default
returns-in_default c = event-past c.args.kind c.args.action _ (192 + c.args.action) (omega (arith, c.in_default.ensures.place)) (omega arith)

pub returns-then-place-lt-ACTION_COUNTS : goal.returns-then-place-lt-ACTION_COUNTS
returns-then-place-lt-ACTION_COUNTS c =
    event-in c.args.kind c.args.action _ _ _ (omega (arith, c.in-Some.ensures.place)) c.if-place-lt-ACTION_COUNTS.true c.one_more.ensures

pub returns-else-place-lt-ACTION_COUNTS : goal.returns-else-place-lt-ACTION_COUNTS
returns-else-place-lt-ACTION_COUNTS c = event-past c.args.kind c.args.action _ _ (omega (arith, c.in-Some.ensures.place)) c.if-place-lt-ACTION_COUNTS.false
