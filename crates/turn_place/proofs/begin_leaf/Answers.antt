-- `begin_leaf` meets its contract.
use Rattle.turn_place.proofs.LeafPlaces.{low, leaf-fits, leaf-begun}
use Rattle.turn_place.proofs.begin_leaf.Goals as goal

pub leave-requires : goal.leave-requires
leave-requires c = record { mem_len = (c.requires.0.sized, low c.requires.0); steps_in = (leaf-fits c.requires.0 c.requires.1.0 c.steps_of-steps.ensures, c.steps_of-steps.ensures.0) }

pub returns : goal.returns
returns c = leaf-begun c.requires.0 c.requires.1.0 c.steps_of-steps.ensures _ _ c.requires.1.1 c.leave.ensures
