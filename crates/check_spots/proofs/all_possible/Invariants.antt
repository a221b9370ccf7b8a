use Rattle.check_spots.proofs.LeafLoops.{Passing}
use Rattle.check_spots.proofs.all_possible.Given as goal

abbrev pub invariant-loop-o : goal.invariant-loop-o
invariant-loop-o l = Passing l.policy l.at l.count l.set.bits l.o l.sets
