-- `broken12` meets its contract.
use native.Mathlib.Omega.{arith}
use Rattle.turn_tables.proofs.FileNodes.{room}
use Rattle.call_refusals.proofs.broken12.Goals as goal

pub nodes_of-requires : goal.nodes_of-requires
nodes_of-requires c = let r = room c.requires.0 in omega arith

pub steps_of-requires : goal.steps_of-requires
steps_of-requires c = let r = room c.requires.0 in omega arith

pub fits-requires : goal.fits-requires
fits-requires c = record { passed = (c.requires.0, c.nodes_of.ensures.0, c.steps_of.ensures.0); state_len = c.requires.1 }
