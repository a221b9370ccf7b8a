-- `open` meets its contract: the check's refusal, refusal 11, or the call carried out.
use mathlib.Core.Path.{sym, ◌∙◌}
use Rattle.check_policy.proofs.Answers.{check-passes, check-refuses, refusal_is}
use Rattle.spec_turns.specs.Turn.{opening}
use Rattle.spec_turns.specs.Entries.{refusals, opens}
use Rattle.call_answer.specs.declared.Call.TheVariants.{Open}
use Rattle.call_answer.specs.Requests.{asked}
use Rattle.call_carry.specs.Calls.{readable, asks_root}
use Rattle.guard.proofs.EntryLaws.{allowed, refused-file, all_left, refused-here, next-left, none_left}
use Rattle.guard.proofs.open.Goals as goal

pub returns-in_default : goal.returns-in_default
unfolding opens
returns-in_default c = refused-file c.args.policy.now opening c.args.state.now c.args.events.now (check-refuses c.args.policy.now c.check-checked.ensures c.in_default.is) _ (refusal_is _ c.refusal.ensures c.in_default.is)

pub returns-then-broken11 : goal.returns-then-broken11
unfolding opens refusals
returns-then-broken11 c =
    let l = all_left c.args.policy.now opening c.args.state.now c.args.events.now (check-passes c.args.policy.now c.check-checked.ensures c.in-Ok.is) in
    refused-here l (sym c.broken11.ensures ∙ c.if-broken11.true) _ c.bare.ensures

pub carry_out-requires : goal.carry_out-requires
unfolding readable asks_root
carry_out-requires c =
    record {
      allowed = allowed c.args.policy.now c.args.state.now c.args.events.now Open
          (check-passes c.args.policy.now c.check-checked.ensures c.in-Ok.is)
          (sym c.broken11.ensures ∙ c.if-broken11.false)
          tt;
      asks = tt;
    }

pub returns : goal.returns
unfolding opens refusals asked
returns c =
    let l = all_left c.args.policy.now opening c.args.state.now c.args.events.now (check-passes c.args.policy.now c.check-checked.ensures c.in-Ok.is) in
    let l₁ = next-left l (sym c.broken11.ensures ∙ c.if-broken11.false) in
    none_left l₁ c.carry_out.ensures
