-- `right_of` meets its contract.
use Rattle.turn_sides.specs.Sides.{right_at}
use Rattle.turn_sides.proofs.right_of.Goals as goal

pub returns : goal.returns
unfolding right_at
returns c = c.view_right.ensures
