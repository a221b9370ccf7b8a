-- `carry_offer` meets its contract: the root's turn, from the saved state, and the end of the call.
use mathlib.Core.Path.{refl, ◌∙◌}
use Rattle.spec_turns.specs.Turn as spec
use Rattle.turn_rest.proofs.HeldLoad.{held-load}
use Rattle.call_carry.specs.Calls.{readable}
use Rattle.call_carry.proofs.CallLaws.{few-nodes, none_told, ready, held-prepared, gave, carried-out, carried-steps, offer-asked}
use Rattle.call_carry.proofs.carry_offer.Goals as goal

pub wake-requires : goal.wake-requires
wake-requires c = (c.requires.1.allowed.state-size, (refl, few-nodes c.requires.1.allowed.passed c.requires.0))

pub play-count-requires : goal.play-count-requires
unfolding readable
play-count-requires c =
    record {
      ready = (ready c.requires.1.allowed.passed c.wake.new.mem _ c.prepare.ensures.1 c.prepare.ensures.0 (none_told (few-nodes c.requires.1.allowed.passed c.requires.0) c.wake.ensures.1), c.requires.1.allowed.event-room);
      mem_value = offer-asked c.args.policy.now c.args.state.now c.args.action
          (held-prepared c.requires.1.allowed.passed c.wake.new.mem _ c.prepare.ensures.1
          ∙ held-load _ _ _ c.requires.1.allowed.passed c.requires.1.allowed.reads c.requires.1.allowed.state-size (λ i. (c.slice_known-1.given i).fits) c.requires.0.nodes-are c.wake.ensures.0) c.requires.1.asks;
    }

pub returns : goal.returns
unfolding readable
returns c =
    let held =
    held-prepared c.requires.1.allowed.passed c.wake.new.mem _ c.prepare.ensures.1
    ∙ held-load _ _ _ c.requires.1.allowed.passed c.requires.1.allowed.reads c.requires.1.allowed.state-size (λ i. (c.slice_known-1.given i).fits) c.requires.0.nodes-are c.wake.ensures.0 in
    record { gave = carried-out c.args.policy.now (spec.offer c.args.action) c.args.state.now c.args.events.now _ held (gave c.play-count.ensures.fact c.finish.ensures); counts_after = carried-steps c.args.counting c.args.policy.now c.args.counts.now (spec.offer c.args.action) c.args.state.now held c.play-count.ensures.counts_after }
