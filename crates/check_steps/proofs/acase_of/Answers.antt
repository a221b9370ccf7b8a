-- `acase_of` meets its contract: by the operand.
use mathlib.Core.Path.{ap}
use mathlib.Core.Logic.{⊎_elim}
use Rattle.file_records.specs.Kinds.{acase_of}
use Rattle.file_records.specs.declared.Operand.{Operand}
use Rattle.check_steps.proofs.StepLaws.{of-meant}
use Rattle.check_steps.proofs.acase_of.Goals as goal

pub returns-in-Set : goal.returns-in-Set
unfolding acase_of
returns-in-Set c = of-meant _ _ _ _ _ _ _ (ap (λ (y : Operand). acase_of y c.args.yes c.args.otherwise) c.in-Set.is) (rw (c.from.ensures, c.from-in-Set.ensures) at c.acase_step.ensures)

pub returns-in-Action : goal.returns-in-Action
unfolding acase_of
returns-in-Action c =
    ⊎_elim
    (λ e. of-meant _ _ _ _ _ _ _ (ap (λ (y : Operand). acase_of y c.args.yes c.args.otherwise) e.1) (c.halt_step.ensures _ _))
    (λ e. of-meant _ _ _ _ _ _ _ (ap (λ (y : Operand). acase_of y c.args.yes c.args.otherwise) e.1) (c.halt_step.ensures _ _))
    c.in-Action.is
