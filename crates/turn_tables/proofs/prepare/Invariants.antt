use Rattle.turn_tables.proofs.LinkLaws.{Linking}
use Rattle.turn_tables.proofs.prepare.Given as goal

abbrev pub invariant-loop-i : goal.invariant-loop-i
invariant-loop-i l = Linking l.policy l.n l.initial.mem l.mem l.i
