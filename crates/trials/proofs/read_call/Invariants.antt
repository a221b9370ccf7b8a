-- `read_call` ends: each turn has more of the call.
use Rattle.std.proofs.Common.{◌≡◌, ◌≤◌, length, ◌-◌}
use Rattle.trials.specs.Calls.{longest}
use Rattle.trials.proofs.read_call.Given as goal

abbrev pub invariant-loop-parts : goal.invariant-loop-parts
invariant-loop-parts g l = (l.have ≤ longest) × (longest ≤ length l.batch) × (length l.batch ≡ length l.initial.batch)

abbrev pub decreases-loop-parts : goal.decreases-loop-parts
decreases-loop-parts g l = longest - l.have
