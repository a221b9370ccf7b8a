use Prim.Native.Nat.{◌≤◌}
use Rattle.turn_paths.specs.Rising.{Skips}
use Rattle.turn_memory.specs.Words.{memory_of}
use Rattle.turn_tables.specs.Tables.{path_at}
use Rattle.turn_place.specs.Places.{Stands}
use Rattle.turn_place.proofs.taker.Given as goal

abbrev pub invariant-loop-node : goal.invariant-loop-node
invariant-loop-node l = Stands l.policy l.mem l.at × ((l.at ≤ l.node) × Skips l.b (memory_of l.mem) (path_at l.policy l.mem l.node) (path_at l.policy l.mem l.at))

abbrev pub decreases-loop-node : goal.decreases-loop-node
decreases-loop-node l = l.at
