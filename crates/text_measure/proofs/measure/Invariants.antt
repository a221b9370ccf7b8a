use Prim.Native.Nat.{◌-◌}
use lib.ListN.{length}
use Rattle.text_measure.proofs.CountLaws.{Tallied}
use Rattle.text_measure.proofs.measure.Given as goal

abbrev pub invariant-loop-at : goal.invariant-loop-at
invariant-loop-at l = Tallied l.text l.tally l.at l.line

abbrev pub decreases-loop-at : goal.decreases-loop-at
decreases-loop-at l = length l.text - l.at
