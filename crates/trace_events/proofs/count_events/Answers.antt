-- `count_events` meets its contract. The invariant: to count the rest from here on is to count all.
use Prim.Native.Nat.{◌+◌, ◌*◌, ◌-◌}
use mathlib.Core.Path.{sym, ap, ◌∙◌}
use Rattle.trace_events.specs.Counts.{bytes_tallied}
use Rattle.trace_events.proofs.EventLaws.{tally-next, tally-over}
use Rattle.trace_events.proofs.count_events.Goals as goal

pub loop-i-preserved : goal.loop-i-preserved
loop-i-preserved c =
    ap (bytes_tallied (c.args.count - (c.loop-i.i + 1)) c.args.events.now (2 * (c.loop-i.i + 1))) c.count_event.ensures
    ∙ sym (tally-next c.args.count c.loop-i.i c.args.events.now c.loop-i.actions c.loop-i-test.true) ∙ c.loop-i.invariant

pub returns : goal.returns
returns c = sym (tally-over c.args.count c.loop-i.i c.args.events.now c.loop-i.actions c.loop-i-test.false) ∙ c.loop-i.invariant
