-- `close` meets its contract: the check's refusal, refusal 11 or 12, or the call carried out.
use mathlib.Core.Path.{sym, ◌∙◌}
use Rattle.spec_check.proofs.Passed.{passed}
use Rattle.check_policy.proofs.Answers.{check-passes, check-refuses, refusal_is}
use Rattle.spec_turns.specs.Turn as spec
use Rattle.spec_turns.specs.Entries.{refusals, closes}
use Rattle.call_answer.specs.declared.Call.TheVariants.{Close}
use Rattle.call_answer.specs.Requests.{asked}
use Rattle.call_carry.specs.Calls.{readable, asks_root}
use Rattle.guard.proofs.EntryLaws.{allowed, room-enough, state-fits, refused-file, all_left, refused-here, next-left, none_left}
use Rattle.guard.proofs.close.Goals as goal

pub returns-in_default : goal.returns-in_default
unfolding closes
returns-in_default c = refused-file c.args.policy.now spec.close c.args.state.now c.args.events.now (check-refuses c.args.policy.now c.check-checked.ensures c.in_default.is) _ (refusal_is _ c.refusal.ensures c.in_default.is)

pub returns-then-broken11 : goal.returns-then-broken11
unfolding closes refusals
returns-then-broken11 c =
    let l = all_left c.args.policy.now spec.close c.args.state.now c.args.events.now (check-passes c.args.policy.now c.check-checked.ensures c.in-Ok.is) in
    refused-here l (sym c.broken11.ensures ∙ c.if-broken11.true) _ c.bare.ensures

pub broken12-requires : goal.broken12-requires
broken12-requires c = (
  passed c.args.policy.now _ _ (check-passes c.args.policy.now c.check-checked.ensures c.in-Ok.is),
  (room-enough c.args.state.now c.args.events.now (sym c.broken11.ensures ∙ c.if-broken11.false)).0,
)

pub returns-then-broken12 : goal.returns-then-broken12
unfolding closes refusals
returns-then-broken12 c =
    let l = all_left c.args.policy.now spec.close c.args.state.now c.args.events.now (check-passes c.args.policy.now c.check-checked.ensures c.in-Ok.is) in
    let l₁ = next-left l (sym c.broken11.ensures ∙ c.if-broken11.false) in
    refused-here l₁ (sym c.broken12.ensures ∙ c.if-broken12.true) _ c.bare-then-broken12.ensures

pub carry_out-requires : goal.carry_out-requires
unfolding readable asks_root
carry_out-requires c =
    record {
      allowed = allowed c.args.policy.now c.args.state.now c.args.events.now Close
          (check-passes c.args.policy.now c.check-checked.ensures c.in-Ok.is)
          (sym c.broken11.ensures ∙ c.if-broken11.false)
          (state-fits c.args.policy.now c.args.state.now (sym c.broken12.ensures ∙ c.if-broken12.false));
      asks = tt;
    }

pub returns : goal.returns
unfolding closes refusals asked
returns c =
    let l = all_left c.args.policy.now spec.close c.args.state.now c.args.events.now (check-passes c.args.policy.now c.check-checked.ensures c.in-Ok.is) in
    let l₁ = next-left l (sym c.broken11.ensures ∙ c.if-broken11.false) in
    let l₂ = next-left l₁ (sym c.broken12.ensures ∙ c.if-broken12.false) in
    none_left l₂ c.carry_out.ensures
