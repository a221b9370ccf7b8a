-- `inserts` meets its contract.
use mathlib.Core.Path.{ap}
use Rattle.file_records.specs.Kinds.{ins_of}
use Rattle.file_records.specs.declared.Operand.{Operand}
use Rattle.turn_leaf.proofs.LeafSteps.{of-step, takes-ins, takes-halt}
use Rattle.turn_leaf.proofs.inserts.Goals as goal

pub returns-in-Action : goal.returns-in-Action
unfolding ins_of
returns-in-Action c = λ a. of-step (ap (λ (y : Operand). ins_of y c.args.to) c.in-Action.is) (takes-ins a _ _ _)

pub returns-in-Set : goal.returns-in-Set
unfolding ins_of
returns-in-Set c = λ a. of-step (ap (λ (y : Operand). ins_of y c.args.to) c.in-Set.is) (takes-halt a _)

pub returns-in-Amount : goal.returns-in-Amount
unfolding ins_of
returns-in-Amount c = λ a. of-step (ap (λ (y : Operand). ins_of y c.args.to) c.in-Amount.is) (takes-halt a _)
