-- `verdict_byte` meets its contract.
use mathlib.Core.Path.{ap}
use mathlib.Core.Bool.{Bool}
use Rattle.spec_turns.specs.Turn as spec
use Rattle.spec_turns.specs.Events.{event_of, event_bytes}
use Rattle.call_answer.proofs.verdict_byte.Goals as goal

pub returns-then-suppressed : goal.returns-then-suppressed
unfolding event_bytes event_of spec.verdict
returns-then-suppressed c a = ap (λ (u : Bool). event_bytes (event_of (spec.verdict u a))) c.if-suppressed.true

pub returns-else-suppressed : goal.returns-else-suppressed
unfolding event_bytes event_of spec.verdict
returns-else-suppressed c a = ap (λ (u : Bool). event_bytes (event_of (spec.verdict u a))) c.if-suppressed.false
