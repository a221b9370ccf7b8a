-- `carry_close` meets its contract: no change where the root is decided, else the closing phase, from the saved state.
use mathlib.Core.Path.{refl}
use Rattle.actions.proofs.Tests.{of-yes, not-false}
use Rattle.spec_turns.specs.Turn as spec
use Rattle.turn_memory.specs.Phases.{phase_of}
use Rattle.turn_rest.proofs.HeldLoad.{held-load}
use Rattle.call_carry.specs.Calls.{readable}
use Rattle.call_phase.specs.Phased.{items_of}
use Rattle.call_carry.proofs.CallLaws.{few-nodes, none_told, carried-out, carried-steps, closed, closed-steps}
use Rattle.call_carry.proofs.carry_close.Goals as goal

pub returns-then-not-is_running : goal.returns-then-not-is_running
unfolding readable
returns-then-not-is_running c =
    let over = not-false _ (of-yes _ c.if-not-is_running.true-raw) in
    record { gave = closed c.args.policy.now c.args.state.now c.args.events.now c.requires.1.allowed.passed c.requires.1.allowed.state-size (λ i. (c.slice_known-1.given i).fits) c.requires.1.allowed.reads c.saved_status-status.ensures c.is_running.ensures over; counts_after = closed-steps c.args.counting c.args.policy.now c.args.state.now c.args.counts.now c.saved_status-status.ensures c.is_running.ensures over }

pub wake-requires : goal.wake-requires
wake-requires c = (c.requires.1.allowed.state-size, (refl, few-nodes c.requires.1.allowed.passed c.requires.0))

pub one_phase-requires : goal.one_phase-requires
one_phase-requires c = record { passed = ((c.requires.1.allowed.passed, c.requires.0), (c.wake.ensures.1.size, (c.requires.1.allowed.state-size, c.requires.1.allowed.event-room))); tells = none_told (few-nodes c.requires.1.allowed.passed c.requires.0) c.wake.ensures.1 }

pub returns : goal.returns
unfolding phase_of spec.call readable items_of
returns c =
    let held = held-load _ _ _ c.requires.1.allowed.passed c.requires.1.allowed.reads c.requires.1.allowed.state-size (λ i. (c.slice_known-1.given i).fits) c.requires.0.nodes-are c.wake.ensures.0 in
    record { gave = carried-out c.args.policy.now spec.close c.args.state.now c.args.events.now _ held c.one_phase.ensures.fact; counts_after = carried-steps c.args.counting c.args.policy.now c.args.counts.now spec.close c.args.state.now held c.one_phase.ensures.counts_after }
