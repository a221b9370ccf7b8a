use Rattle.std.proofs.Common.{◌∙◌, ap}
use Rattle.spec_text.specs.Where.{aRecord}
use Rattle.text_spot.proofs.SpotLaws.{by_layout, by_rule}
use Rattle.text_spot.proofs.ruled.Goals as goal

pub returns-then-rule-eq-FIELDS : goal.returns-then-rule-eq-FIELDS
returns-then-rule-eq-FIELDS c = c.node_or_step.ensures ∙ by_layout c.args.n c.args.p c.args.rule c.if-rule-eq-FIELDS.true

pub returns-else-rule-eq-FIELDS : goal.returns-else-rule-eq-FIELDS
returns-else-rule-eq-FIELDS c = ap (λ s. aRecord s c.args.p) c.rule_sort.ensures ∙ by_rule c.args.n c.args.p c.args.rule c.if-rule-eq-FIELDS.false
