use mathlib.Core.Path.{◌≡◌}
use lib.ListN.{length}
use Rattle.spec_turns.specs.Saved.{state_size, cells}
use Rattle.turn_rest.specs.Swept.{Swept}
use Rattle.turn_rest.proofs.tidy.sweep.Given as goal

abbrev pub invariant-loop-i : goal.invariant-loop-i
invariant-loop-i l = (length l.state ≡ state_size) × Swept l.policy l.initial.mem l.mem (cells l.state) l.i l.leaves
