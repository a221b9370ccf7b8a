-- Each call of the turn is to a lesser number: eight times the nodes still ahead, of a phase `weight`, of an insert `way`, and a last summand, which
-- falls where as many nodes stay ahead, as from turn to asked_turn at the same node.
use Prim.Native.Nat.{ℕ, ◌+◌, ◌*◌, ◌-◌, ◌≤◌}
use mathlib.Core.List.{List}
use Rattle.actions.specs.Sets.{Action}
use Rattle.spec_policy.specs.Tree.{tree_at}
use Rattle.turn_paths.specs.Beneath.{size}
use Rattle.turn_memory.specs.Words.{Words, memory_of}
use Rattle.turn_memory.specs.Phases.{phase_of}
use Rattle.turn_sides.specs.Sides.{right_at}
use Rattle.turn_tables.specs.Tables.{path_at}
use Rattle.turn_place.specs.Places.{Keeps, leaf_run}
use Rattle.turn_place.proofs.SidePlaces.{way, weight}
use Rattle.turn_node.specs.Turns.{Owing}
use Rattle.turn_node.proofs.LeafTurns.{items_left, Reaches}
use Rattle.turn_node.proofs.InsertTurns.{Climbed}
use Rattle.turn_node.proofs.+turns.Given as goal

abbrev pub decreases-after_left : goal.decreases-after_left
decreases-after_left l = 8 * weight l.policy.now l.mem.now l.node + 4

abbrev pub decreases-asked_turn : goal.decreases-asked_turn
decreases-asked_turn l = 8 * weight l.policy.now l.mem.now l.node + 6

abbrev pub decreases-emit : goal.decreases-emit
decreases-emit l = 8 * way l.policy.now l.mem.now l.node + 11

abbrev pub decreases-leaf : goal.decreases-leaf
decreases-leaf l = 8 * way l.policy.now l.mem.now l.node + 12

abbrev pub decreases-parallel : goal.decreases-parallel
decreases-parallel l = 8 * weight l.policy.now l.mem.now l.node + 5

abbrev pub decreases-right_first : goal.decreases-right_first
decreases-right_first l = 8 * weight l.policy.now l.mem.now l.node + 4

abbrev pub decreases-rise : goal.decreases-rise
decreases-rise l = 8 * way l.policy.now l.mem.now l.node + 10

abbrev pub decreases-sequential : goal.decreases-sequential
decreases-sequential l = 8 * weight l.policy.now l.mem.now l.node + 5

abbrev pub decreases-settle_insert : goal.decreases-settle_insert
decreases-settle_insert l = 8 * (size (tree_at l.policy.now (right_at l.policy.now l.node)) + way l.policy.now l.mem.now l.node) + 9

abbrev pub decreases-sink : goal.decreases-sink
decreases-sink l = 8 * way l.policy.now l.mem.now l.node + 10

abbrev pub decreases-turn : goal.decreases-turn
decreases-turn l = 8 * weight l.policy.now l.mem.now l.node + 7

-- from where the leaf stood at the loop's begin it has come to where it stands now
abbrev pub invariant-leaf-loop-b : goal.invariant-leaf-loop-b
invariant-leaf-loop-b l = Reaches l.counting l.policy l.initial.counts l.counts l.node l.initial.mem l.mem (leaf_run (tree_at l.policy l.node) (phase_of l.phase) (memory_of l.initial.mem)) (leaf_run (tree_at l.policy l.node) (phase_of l.phase) (memory_of l.mem))

abbrev pub decreases-leaf-loop-b : goal.decreases-leaf-loop-b
decreases-leaf-loop-b l = items_left (leaf_run (tree_at l.policy l.node) (phase_of l.phase) (memory_of l.mem))

abbrev pub invariant-rise-loop-mem : goal.invariant-rise-loop-mem
invariant-rise-loop-mem l = Climbed l.counting l.policy l.initial.counts l.counts l.b l.initial.mem l.mem l.node l.at l.fed.bits

abbrev pub decreases-rise-loop-mem : goal.decreases-rise-loop-mem
decreases-rise-loop-mem l = l.at

-- whoever owed from the top on owes from here on
abbrev pub invariant-sink-loop-at : goal.invariant-sink-loop-at
invariant-sink-loop-at l = record {
  keeps : Keeps l.initial.mem l.mem;
  past_top : l.top ≤ l.at;
  owing : (ws : Words) (cs : List ℕ) (b : Action) → Owing l.counting l.policy cs l.initial.counts (path_at l.policy l.initial.mem l.node) b ws l.initial.mem l.node l.top l.fed.bits
      → Owing l.counting l.policy cs l.counts (path_at l.policy l.initial.mem l.node) b ws l.mem l.node l.at l.fed.bits;
}

abbrev pub decreases-sink-loop-at : goal.decreases-sink-loop-at
decreases-sink-loop-at l = l.node - l.at
