-- `run_leaf` meets its contract.
use Rattle.turn_place.proofs.LeafPlaces.{low, leaf-passing, leaf-fits, leaf-went}
use Rattle.turn_place.proofs.run_leaf.Goals as goal

pub run-requires : goal.run-requires
run-requires c = record { mem_len = (c.requires.0.sized, low c.requires.0); steps_in = ((leaf-fits c.requires.0 c.requires.1 c.steps_of-steps.ensures, c.steps_of-steps.ensures.0), leaf-passing c.requires.0 c.requires.1 c.steps_of-steps.ensures) }

pub returns : goal.returns
returns c = leaf-went c.requires.0 c.requires.1 c.steps_of-steps.ensures _ _ c.run.ensures
