-- `carry_action_counting` meets its contract: the call carried out where the root is asked; else its verdict, and no change.
use mathlib.Core.Path.{sym, ◌∙◌}
use Rattle.actions.proofs.Tests.{of-yes}
use Rattle.call_answer.specs.Requests.{asked}
use Rattle.call_carry.specs.Calls.{readable, asks_root}
use Rattle.call_carry.proofs.CallLaws.{asks-root, stayed, stayed-steps}
use Rattle.call_carry.proofs.carry_action_counting.Goals as goal

pub carry_out_counting-requires : goal.carry_out_counting-requires
unfolding asks_root
carry_out_counting-requires c =
    let e = sym (asks-root c.args.policy.now c.args.state.now c.args.action c.saved_status-status.ensures c.is_running.ensures c.has.ensures c.requires.1) ∙ c.if-is_running-has.true in
    record { allowed = c.requires.0; asks = of-yes _ e }

pub returns-then-is_running-has : goal.returns-then-is_running-has
unfolding asked
returns-then-is_running-has c = record { gave = c.carry_out_counting.ensures.gave; counts_after = (c.carry_out_counting.ensures.counts_after) }

pub returns : goal.returns
unfolding readable
returns c =
    let e = sym (asks-root c.args.policy.now c.args.state.now c.args.action c.saved_status-status.ensures c.is_running.ensures c.has.ensures c.requires.1) ∙ c.if-is_running-has.false in
    record { gave = stayed c.args.policy.now c.args.state.now c.args.events.now c.requires.0.passed c.requires.0.state-size (λ i. (c.slice_known-1.given i).fits) c.requires.0.reads c.args.action e c.saved_status-status.ensures c.put_verdict.ensures; counts_after = stayed-steps c.args.counting c.args.policy.now c.args.state.now c.args.counts.now c.args.action e }
