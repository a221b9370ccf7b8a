use Rattle.turn_rest.proofs.Awakened.{Filled, Opens}
use Rattle.turn_rest.proofs.awaken.awaken.Given as goal

abbrev pub invariant-loop-i : goal.invariant-loop-i
invariant-loop-i l = Filled (Opens l.policy) l.n l.initial.mem l.mem l.i
