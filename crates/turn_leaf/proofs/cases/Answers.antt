-- `cases` meets its contract.
use mathlib.Core.Path.{ap, sym, ◌∙◌}
use Rattle.file_records.specs.Kinds.{acase_of}
use Rattle.file_records.specs.declared.Operand.{Operand}
use Rattle.turn_leaf.proofs.LeafSteps.{of-step, takes-yes, takes-no, takes-halt}
use Rattle.turn_leaf.proofs.cases.Goals as goal

pub returns-in-Action : goal.returns-in-Action
unfolding acase_of
returns-in-Action c = of-step (ap (λ (y : Operand). acase_of y c.args.yes c.args.otherwise) c.in-Action.is) (takes-halt _ _)

pub returns-then-has : goal.returns-then-has
unfolding acase_of
returns-then-has c =
    of-step
    (ap (λ (y : Operand). acase_of y c.args.yes c.args.otherwise) c.in-Set.is)
    (takes-yes _ _ _ _ _ (sym c.has.ensures ∙ c.if-has.true))

pub returns-else-has : goal.returns-else-has
unfolding acase_of
returns-else-has c =
    of-step
    (ap (λ (y : Operand). acase_of y c.args.yes c.args.otherwise) c.in-Set.is)
    (takes-no _ _ _ _ _ (sym c.has.ensures ∙ c.if-has.false))

pub returns-in-Amount : goal.returns-in-Amount
unfolding acase_of
returns-in-Amount c = of-step (ap (λ (y : Operand). acase_of y c.args.yes c.args.otherwise) c.in-Amount.is) (takes-halt _ _)
