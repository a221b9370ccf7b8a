-- `left_of` meets its contract.
use Rattle.turn_sides.specs.Sides.{left_at}
use Rattle.turn_sides.proofs.left_of.Goals as goal

pub returns : goal.returns
unfolding left_at
returns c = c.view_left.ensures
