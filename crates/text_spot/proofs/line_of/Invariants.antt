use Rattle.std.proofs.Common.{◌-◌, length}
use Rattle.text_forms.specs.Meant.{sort_of}
use Rattle.text_spot.proofs.LineLaws.{Sought}
use Rattle.text_spot.proofs.line_of.Given as goal

abbrev pub invariant-loop-at : goal.invariant-loop-at
invariant-loop-at l = Sought l.text (sort_of l.sought.sort) l.sought.number l.left l.at l.line

abbrev pub decreases-loop-at : goal.decreases-loop-at
decreases-loop-at l = length l.text - l.at
