-- `open_tree` meets its contract: the phase after a verdict, from the state in which no node is opened.
use Rattle.turn_memory.specs.Phases.{phase_of}
use Rattle.call_carry.proofs.CallLaws.{few-nodes, none_told, opened, opened-steps}
use Rattle.call_carry.proofs.open_tree.Goals as goal

pub one_phase-requires : goal.one_phase-requires
one_phase-requires c = record { passed = ((c.requires.1.allowed.passed, c.requires.0), (c.awaken.ensures.kept_from.size, (c.requires.1.allowed.state-size, c.requires.1.allowed.event-room))); tells = none_told (few-nodes c.requires.1.allowed.passed c.requires.0) c.awaken.ensures.kept_from }

pub returns : goal.returns
unfolding phase_of
returns c = record { gave = opened c.args.policy.now c.args.state.now c.args.events.now _ c.awaken.ensures.mem_after c.one_phase.ensures.fact; counts_after = opened-steps c.args.counting c.args.policy.now c.args.counts.now c.args.state.now c.awaken.ensures.mem_after c.one_phase.ensures.counts_after }
