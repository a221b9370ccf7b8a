use Rattle.std.proofs.Common.{◌/◌, length}
use Rattle.text_spot.proofs.SpotLaws.{Passed}
use Rattle.text_spot.proofs.leaf_of.Given as goal

abbrev pub invariant-loop-i : goal.invariant-loop-i
invariant-loop-i l = Passed l.nodes l.s (length l.nodes / 16) l.left l.i
