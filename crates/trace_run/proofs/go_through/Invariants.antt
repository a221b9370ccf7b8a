-- The run from here on is the whole run, each action so far is judged, and none was refused.
use Rattle.std.specs.Prelude.{◌≡◌, None}
use Rattle.trace_run.proofs.LoopLaws.{Through}
use Rattle.trace_run.proofs.go_through.Given as goal

abbrev pub invariant-loop-action : goal.invariant-loop-action
invariant-loop-action l =
    (l.run.stop ≡ None) × (l.run.judged ≡ l.action-index)
    × Through l.policy l.set.bits l.trace l.initial.state l.initial.events l.initial.run.events l.initial.run.status l.initial.steps l.initial.actions l.state l.events l.steps l.actions l.run.events l.run.status l.action-index
