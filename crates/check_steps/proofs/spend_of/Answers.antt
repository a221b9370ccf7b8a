-- `spend_of` meets its contract: by the operand.
use mathlib.Core.Path.{ap}
use mathlib.Core.Logic.{⊎_elim}
use Rattle.file_records.specs.Kinds.{spend_of}
use Rattle.file_records.specs.declared.Operand.{Operand}
use Rattle.check_steps.proofs.StepLaws.{of-meant}
use Rattle.check_steps.proofs.spend_of.Goals as goal

pub returns-in-Amount : goal.returns-in-Amount
unfolding spend_of
returns-in-Amount c r = of-meant _ _ _ _ _ _ _ (ap (λ (y : Operand). spend_of y c.args.yes c.args.otherwise) c.in-Amount.is) (rw (c.from.ensures, c.from-in-Amount.ensures) at (c.spend_step.ensures r c.in-Amount.field-0))

pub returns-in-Action : goal.returns-in-Action
unfolding spend_of
returns-in-Action c r =
    ⊎_elim
    (λ e. of-meant _ _ _ _ _ _ _ (ap (λ (y : Operand). spend_of y c.args.yes c.args.otherwise) e.1) (c.halt_step.ensures r _))
    (λ e. of-meant _ _ _ _ _ _ _ (ap (λ (y : Operand). spend_of y c.args.yes c.args.otherwise) e.1) (c.halt_step.ensures r _))
    c.in-Action.is
