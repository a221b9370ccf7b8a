-- `ins_of` meets its contract: by the operand.
use mathlib.Core.Path.{ap}
use mathlib.Core.Logic.{⊎_elim}
use Rattle.file_records.specs.Kinds.{ins_of}
use Rattle.file_records.specs.declared.Operand.{Operand}
use Rattle.check_steps.proofs.StepLaws.{of-meant}
use Rattle.check_steps.proofs.ins_of.Goals as goal

pub returns-in-Action : goal.returns-in-Action
unfolding ins_of
returns-in-Action c r = of-meant _ _ _ _ _ _ _ (ap (λ (y : Operand). ins_of y c.args.to) c.in-Action.is) (rw c.from.ensures at (c.ins_step.ensures r))

pub returns-in-Set : goal.returns-in-Set
unfolding ins_of
returns-in-Set c r =
    ⊎_elim
    (λ e. of-meant _ _ _ _ _ _ _ (ap (λ (y : Operand). ins_of y c.args.to) e.1) (c.halt_step.ensures r _))
    (λ e. of-meant _ _ _ _ _ _ _ (ap (λ (y : Operand). ins_of y c.args.to) e.1) (c.halt_step.ensures r _))
    c.in-Set.is
