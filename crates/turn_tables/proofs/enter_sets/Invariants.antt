use Rattle.turn_tables.proofs.FillLaws.{Filled}
use Rattle.turn_tables.proofs.enter_sets.Given as goal

abbrev pub invariant-loop-i : goal.invariant-loop-i
invariant-loop-i l = Filled l.policy l.n l.m l.initial.mem l.mem l.i l.first
