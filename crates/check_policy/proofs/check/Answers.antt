-- `check` meets its contract: the rules in order, and the rest of the check.
use mathlib.Core.Path.{sym, ap, ◌∙◌}
use Rattle.spec_check.specs.Check.{refused}
use Rattle.spec_check.specs.Passed.{spot_by}
use Rattle.check_policy.specs.Answers.{answered}
use Rattle.check_policy.proofs.InOrder.{long-enough, front_kept, refused-1, refused-2, refused-3}
use Rattle.check_policy.proofs.check.Goals as goal

pub returns-then-broken1 : goal.returns-then-broken1
unfolding answered spot_by
returns-then-broken1 c = ap refused c.bare.ensures ∙ refused-1 c.args.policy.now (sym c.broken1.ensures ∙ c.if-broken1.true)

pub broken2-requires : goal.broken2-requires
broken2-requires c = long-enough c.args.policy.now (sym c.broken1.ensures ∙ c.if-broken1.false)

pub returns-then-broken2 : goal.returns-then-broken2
unfolding answered spot_by
returns-then-broken2 c =
    ap refused c.bare-then-broken2.ensures
    ∙ refused-2 c.args.policy.now (sym c.broken1.ensures ∙ c.if-broken1.false) (sym c.broken2.ensures ∙ c.if-broken2.true)

pub broken3-requires : goal.broken3-requires
broken3-requires c = long-enough c.args.policy.now (sym c.broken1.ensures ∙ c.if-broken1.false)

pub returns-then-broken3 : goal.returns-then-broken3
unfolding answered spot_by
returns-then-broken3 c =
    ap refused c.bare-then-broken3.ensures
    ∙ refused-3 c.args.policy.now (sym c.broken1.ensures ∙ c.if-broken1.false) (sym c.broken2.ensures ∙ c.if-broken2.false)
    (sym c.broken3.ensures ∙ c.if-broken3.true)

pub nodes_of-requires : goal.nodes_of-requires
nodes_of-requires c = long-enough c.args.policy.now (sym c.broken1.ensures ∙ c.if-broken1.false)

pub steps_of-requires : goal.steps_of-requires
steps_of-requires c = long-enough c.args.policy.now (sym c.broken1.ensures ∙ c.if-broken1.false)

pub check_records-requires : goal.check_records-requires
check_records-requires c = front_kept c.args.policy.now (sym c.broken1.ensures ∙ c.if-broken1.false) (sym c.broken2.ensures ∙ c.if-broken2.false) (sym c.broken3.ensures ∙ c.if-broken3.false) _ _ c.nodes_of.ensures.0 c.steps_of.ensures.0

pub invariant_of-check_records : goal.invariant_of-check_records
invariant_of-check_records c = record { framed = (front_kept c.args.policy.now (sym c.broken1.ensures ∙ c.if-broken1.false) (sym c.broken2.ensures ∙ c.if-broken2.false) (sym c.broken3.ensures ∙ c.if-broken3.false) _ _ c.nodes_of.ensures.0 c.steps_of.ensures.0).frame }
