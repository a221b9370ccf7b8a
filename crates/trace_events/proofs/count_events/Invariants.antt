use Prim.Native.Nat.{◌*◌, ◌-◌}
use mathlib.Core.Path.{◌≡◌}
use Rattle.trace_events.specs.Counts.{bytes_tallied}
use Rattle.trace_events.proofs.count_events.Given as goal

abbrev pub invariant-loop-i : goal.invariant-loop-i
invariant-loop-i l = bytes_tallied (l.count - l.i) l.events (2 * l.i) l.actions ≡ bytes_tallied l.count l.events 0 l.initial.actions
