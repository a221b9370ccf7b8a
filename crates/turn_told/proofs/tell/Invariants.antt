use Rattle.turn_told.proofs.TellLaws.{Popped}
use Rattle.turn_told.proofs.tell.Given as goal

abbrev pub invariant-loop-k : goal.invariant-loop-k
invariant-loop-k l = Popped l.initial.mem l.mem l.initial.events l.events l.count l.n l.k
