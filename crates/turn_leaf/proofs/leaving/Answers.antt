-- `leaving` meets its contract.
use mathlib.Core.Path.{sym, ap, ◌∙◌}
use Rattle.spec_policy.specs.Records.{step_record_at}
use Rattle.spec_policy.specs.Steps.{Step}
use Rattle.turn_leaf.specs.Leaf.{leaving}
use Rattle.file_records.proofs.CodeLaws.{code-number}
use Rattle.turn_leaf.proofs.LeafRuns.{past-code}
use Rattle.turn_leaf.proofs.LeafStarts.{leaving-done, leaving-take, leaving-halt, leaving-else, next-read}
use Rattle.turn_leaf.proofs.leaving.Goals as goal

pub returns-then-ahead-count : goal.returns-then-ahead-count
returns-then-ahead-count c = leaving-halt _ ∙ ap (λ (s : Step). leaving c.args.closing s) (sym (past-code _ _ _ _ c.if-ahead-count.true))

pub returns-then-view_step_kind-ne-NEXT : goal.returns-then-view_step_kind-ne-NEXT
unfolding step_record_at
returns-then-view_step_kind-ne-NEXT c = leaving-else _ _ _ (λ z. c.if-view_step_kind-ne-NEXT.true (c.view_step_kind.ensures ∙ z)) ∙ ap (λ (s : Step). leaving c.args.closing s) (sym (code-number _ _ _ _ c.if-ahead-count.false))

pub returns-then-closing : goal.returns-then-closing
unfolding step_record_at
returns-then-closing c =
    c.view_step_second.ensures ∙ leaving-done _ _ _ c.if-closing.true
    ∙ ap (λ (s : Step). leaving c.args.closing s)
    (next-read _ _ (sym c.view_step_kind.ensures ∙ c.if-view_step_kind-ne-NEXT.false) ∙ sym (code-number _ _ _ _ c.if-ahead-count.false))

pub returns : goal.returns
unfolding step_record_at
returns c =
    c.view_step_first.ensures ∙ leaving-take _ _ _ c.if-closing.false
    ∙ ap (λ (s : Step). leaving c.args.closing s)
    (next-read _ _ (sym c.view_step_kind.ensures ∙ c.if-view_step_kind-ne-NEXT.false) ∙ sym (code-number _ _ _ _ c.if-ahead-count.false))
