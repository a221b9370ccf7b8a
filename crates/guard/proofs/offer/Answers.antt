-- `offer` meets its contract: the check's refusal, refusals 11 to 14 in order, or the call carried out.
use native.Mathlib.Omega.{arith}
use mathlib.Core.Path.{sym, ◌∙◌}
use Rattle.spec_check.proofs.Passed.{passed, passed-sets}
use Rattle.check_policy.proofs.Answers.{check-passes, check-refuses, refusal_is}
use Rattle.spec_turns.specs.Turn as spec
use Rattle.spec_turns.specs.Entries.{refusals, offers}
use Rattle.call_answer.specs.declared.Call.TheVariants.{Offer}
use Rattle.call_carry.specs.Calls.{readable}
use Rattle.guard.proofs.EntryLaws.{allowed, room-enough, state-fits, no-action, an-action}
use Rattle.guard.proofs.EntryLaws.{refused-file, all_left, refused-here, next-left, none_left}
use Rattle.guard.proofs.offer.Goals as goal

pub returns-in_default : goal.returns-in_default
unfolding offers
returns-in_default c = refused-file c.args.policy.now (spec.offer c.args.action) c.args.state.now c.args.events.now (check-refuses c.args.policy.now c.check-checked.ensures c.in_default.is) _ (refusal_is _ c.refusal.ensures c.in_default.is)

pub returns-then-broken11 : goal.returns-then-broken11
unfolding offers refusals
returns-then-broken11 c =
    let l = all_left c.args.policy.now (spec.offer c.args.action) c.args.state.now c.args.events.now (check-passes c.args.policy.now c.check-checked.ensures c.in-Ok.is) in
    refused-here l (sym c.broken11.ensures ∙ c.if-broken11.true) _ c.bare.ensures

pub broken12-requires : goal.broken12-requires
broken12-requires c = (
  passed c.args.policy.now _ _ (check-passes c.args.policy.now c.check-checked.ensures c.in-Ok.is),
  (room-enough c.args.state.now c.args.events.now (sym c.broken11.ensures ∙ c.if-broken11.false)).0,
)

pub returns-then-broken12 : goal.returns-then-broken12
unfolding offers refusals
returns-then-broken12 c =
    let l = all_left c.args.policy.now (spec.offer c.args.action) c.args.state.now c.args.events.now (check-passes c.args.policy.now c.check-checked.ensures c.in-Ok.is) in
    let l₁ = next-left l (sym c.broken11.ensures ∙ c.if-broken11.false) in
    refused-here l₁ (sym c.broken12.ensures ∙ c.if-broken12.true) _ c.bare-then-broken12.ensures

pub broken14-requires : goal.broken14-requires
broken14-requires c = (room-enough c.args.state.now c.args.events.now (sym c.broken11.ensures ∙ c.if-broken11.false)).0

pub returns-then-action-gt-LAST_ACTION : goal.returns-then-action-gt-LAST_ACTION
unfolding offers refusals
returns-then-action-gt-LAST_ACTION c =
    let l = all_left c.args.policy.now (spec.offer c.args.action) c.args.state.now c.args.events.now (check-passes c.args.policy.now c.check-checked.ensures c.in-Ok.is) in
    let l₁ = next-left l (sym c.broken11.ensures ∙ c.if-broken11.false) in
    let l₂ = next-left l₁ (sym c.broken12.ensures ∙ c.if-broken12.false) in
    refused-here l₂ (no-action c.args.action (omega arith)) _ c.bare-then-action-gt-LAST_ACTION.ensures

pub returns-then-broken14 : goal.returns-then-broken14
unfolding offers refusals
returns-then-broken14 c =
    let l = all_left c.args.policy.now (spec.offer c.args.action) c.args.state.now c.args.events.now (check-passes c.args.policy.now c.check-checked.ensures c.in-Ok.is) in
    let l₁ = next-left l (sym c.broken11.ensures ∙ c.if-broken11.false) in
    let l₂ = next-left l₁ (sym c.broken12.ensures ∙ c.if-broken12.false) in
    let l₃ = next-left l₂ (an-action c.args.action (omega arith)) in
    refused-here l₃ (sym c.broken14.ensures ∙ c.if-broken14.true) _ c.bare-then-broken14.ensures

pub carry_action-requires : goal.carry_action-requires
unfolding readable
carry_action-requires c =
    let e = check-passes c.args.policy.now c.check-checked.ensures c.in-Ok.is in (
      allowed c.args.policy.now c.args.state.now c.args.events.now (Offer c.args.action)
          e
          (sym c.broken11.ensures ∙ c.if-broken11.false)
          (state-fits c.args.policy.now c.args.state.now (sym c.broken12.ensures ∙ c.if-broken12.false)),
      (passed-sets c.args.policy.now _ _ e).0,
    )

pub returns : goal.returns
unfolding offers refusals
returns c =
    let l = all_left c.args.policy.now (spec.offer c.args.action) c.args.state.now c.args.events.now (check-passes c.args.policy.now c.check-checked.ensures c.in-Ok.is) in
    let l₁ = next-left l (sym c.broken11.ensures ∙ c.if-broken11.false) in
    let l₂ = next-left l₁ (sym c.broken12.ensures ∙ c.if-broken12.false) in
    let l₃ = next-left l₂ (an-action c.args.action (omega arith)) in
    let l₄ = next-left l₃ (sym c.broken14.ensures ∙ c.if-broken14.false) in
    none_left l₄ c.carry_action.ensures
