use Rattle.check_spots.proofs.LeafLoops.{Marking}
use Rattle.check_spots.proofs.all_marks.Given as goal

abbrev pub invariant-loop-o : goal.invariant-loop-o
invariant-loop-o l = Marking l.policy l.at l.count l.o l.seen
