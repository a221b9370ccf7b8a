-- `carry` meets its contract. A call that no rule refuses is answered.
use mathlib.Core.Path.{◌∙◌}
use Rattle.trace_call.proofs.CarryLaws.{not-refused, events-fit, events-counted}
use Rattle.trace_call.proofs.carry.Goals as goal

pub returns-in_err-answered-clause-actions_after : goal.returns-in_err-answered-clause-actions_after
returns-in_err-answered-clause-actions_after c = absurd (not-refused _ _ _ _ c.carry_steps.ensures.gave c.in_err-answered.was)

pub count_events-requires : goal.count_events-requires
count_events-requires c = events-fit _ _ _ _ c.carry_steps.ensures.gave c.in_ok-answered.was c.requires.0.passed c.requires.0.event-room

pub returns-clause-actions_after : goal.returns-clause-actions_after
returns-clause-actions_after c =
    c.count_events.ensures ∙ events-counted _ _ _ _ c.carry_steps.ensures.gave c.in_ok-answered.was c.args.actions.now
