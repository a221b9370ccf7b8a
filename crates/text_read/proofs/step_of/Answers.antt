-- `step_of` meets its contract.
use mathlib.Core.Path.{ap, subst, ◌∙◌}
use mathlib.Core.List.{◌∷◌}
use Rattle.text_line.specs.declared.Line.{Line}
use Rattle.text_line.specs.Lines.{line_meant, InTable}
use Rattle.text_read.specs.Written.{lead_in, leads}
use Rattle.text_read.proofs.LeadLaws.{lead-node, lead-step, lead-nothing, lead-bad}
use Rattle.text_read.proofs.step_of.Goals as goal

pub returns-in-Nothing-clause-is : goal.returns-in-Nothing-clause-is
unfolding line_meant leads
returns-in-Nothing-clause-is c = λ ls. ap (λ (l : Line). lead_in (line_meant l ∷ ls)) c.in-Nothing.is ∙ lead-nothing ls

pub returns-in-Unreadable-clause-is : goal.returns-in-Unreadable-clause-is
unfolding line_meant leads
returns-in-Unreadable-clause-is c = λ ls. ap (λ (l : Line). lead_in (line_meant l ∷ ls)) c.in-Unreadable.is ∙ lead-bad ls

pub returns-then-form-lt-NODE_FORMS-clause-is : goal.returns-then-form-lt-NODE_FORMS-clause-is
unfolding line_meant leads
returns-then-form-lt-NODE_FORMS-clause-is c =
    λ ls. ap (λ (l : Line). lead_in (line_meant l ∷ ls)) c.in-Record.is ∙ lead-node c.in-Record.form c.in-Record.fields ls c.if-form-lt-NODE_FORMS.true

pub returns-else-form-lt-NODE_FORMS-clause-is : goal.returns-else-form-lt-NODE_FORMS-clause-is
unfolding line_meant leads
returns-else-form-lt-NODE_FORMS-clause-is c =
    λ ls. ap (λ (l : Line). lead_in (line_meant l ∷ ls)) c.in-Record.is ∙ lead-step c.in-Record.form c.in-Record.fields ls c.if-form-lt-NODE_FORMS.false (subst InTable c.in-Record.is c.requires)
