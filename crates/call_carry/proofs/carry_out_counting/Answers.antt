-- `carry_out_counting` meets its contract: a file that passed has a front, and its counts are those read from it.
use native.Mathlib.Omega.{arith}
use Rattle.turn_tables.proofs.FileNodes.{room}
use Rattle.call_carry.proofs.carry_out_counting.Goals as goal

pub nodes_of-nodes-requires : goal.nodes_of-nodes-requires
nodes_of-nodes-requires c = let r = room c.requires.allowed.passed in omega arith

pub steps_of-steps-requires : goal.steps_of-steps-requires
steps_of-steps-requires c = let r = room c.requires.allowed.passed in omega arith

pub carry_counted-requires : goal.carry_counted-requires
carry_counted-requires c = (record { nodes-are = c.nodes_of-nodes.ensures.0; steps-are = c.steps_of-steps.ensures.0 }, c.requires)

pub returns : goal.returns
returns c = record { gave = c.carry_counted.ensures.gave; counts_after = (c.carry_counted.ensures.counts_after) }
