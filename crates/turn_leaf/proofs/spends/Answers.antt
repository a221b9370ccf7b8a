-- `spends` meets its contract.
use native.Mathlib.Omega.{arith}
use mathlib.Core.Path.{ap, sym, ◌∙◌}
use borrow.Author.Tests.{leb-true}
use Rattle.spec_turns.specs.Turn.{affords}
use Rattle.file_records.specs.Kinds.{spend_of}
use Rattle.file_records.specs.declared.Operand.{Operand}
use Rattle.turn_leaf.proofs.LeafSteps.{of-step, takes-paid, takes-unpaid, takes-halt}
use Rattle.turn_leaf.proofs.spends.Goals as goal

pub overflow_sub-rest : goal.overflow_sub-rest
unfolding affords
overflow_sub-rest c =
    omega (
      arith,
      leb-true c.in-Amount.n c.args.counter
          (sym c.affords.ensures ∙ c.if-affords.true),
    )

pub returns-in-Action : goal.returns-in-Action
unfolding spend_of
returns-in-Action c = λ a. of-step (ap (λ (y : Operand). spend_of y c.args.yes c.args.otherwise) c.in-Action.is) (takes-halt a _)

pub returns-in-Set : goal.returns-in-Set
unfolding spend_of
returns-in-Set c = λ a. of-step (ap (λ (y : Operand). spend_of y c.args.yes c.args.otherwise) c.in-Set.is) (takes-halt a _)

pub returns-then-affords : goal.returns-then-affords
unfolding spend_of
returns-then-affords c =
    λ a. of-step
    (ap (λ (y : Operand). spend_of y c.args.yes c.args.otherwise) c.in-Amount.is)
    (takes-paid a _ _ _ _ (sym c.affords.ensures ∙ c.if-affords.true))

pub returns-else-affords : goal.returns-else-affords
unfolding spend_of
returns-else-affords c =
    λ a. of-step
    (ap (λ (y : Operand). spend_of y c.args.yes c.args.otherwise) c.in-Amount.is)
    (takes-unpaid a _ _ _ _ (sym c.affords.ensures ∙ c.if-affords.false))
