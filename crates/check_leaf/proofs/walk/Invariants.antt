use Rattle.check_leaf.proofs.LeafWalk.{Walking}
use Rattle.check_leaf.proofs.walk.Given as goal

abbrev pub invariant-loop-o : goal.invariant-loop-o
invariant-loop-o l = Walking l.policy l.at l.count l.set.bits l.o l.w l.sets
