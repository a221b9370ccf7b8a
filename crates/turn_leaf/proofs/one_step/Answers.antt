-- `one_step` meets its contract: each kind of step by its law.
use mathlib.Core.Path.{ap}
use Rattle.file_records.specs.Kinds.{step_meant}
use Rattle.turn_leaf.proofs.LeafSteps.{of-step, takes-next, takes-ok, takes-sup, takes-end, takes-halt}
use Rattle.turn_leaf.proofs.one_step.Goals as goal

pub returns-in-Next : goal.returns-in-Next
unfolding step_meant
returns-in-Next c = of-step (ap step_meant c.in-Next.is) (takes-next _ _ _ _)

pub returns-in-Ok : goal.returns-in-Ok
unfolding step_meant
returns-in-Ok c = of-step (ap step_meant c.in-Ok.is) (takes-ok _ _ _)

pub returns-in-Sup : goal.returns-in-Sup
unfolding step_meant
returns-in-Sup c = of-step (ap step_meant c.in-Sup.is) (takes-sup _ _ _)

pub returns-in-Ins : goal.returns-in-Ins
unfolding step_meant
returns-in-Ins c = of-step (ap step_meant c.in-Ins.is) (c.inserts.ensures _)

pub returns-in-Acase : goal.returns-in-Acase
unfolding step_meant
returns-in-Acase c = of-step (ap step_meant c.in-Acase.is) c.cases.ensures

pub returns-in-Spend : goal.returns-in-Spend
unfolding step_meant
returns-in-Spend c = of-step (ap step_meant c.in-Spend.is) (c.spends.ensures _)

pub returns-in-End : goal.returns-in-End
unfolding step_meant
returns-in-End c = of-step (ap step_meant c.in-End.is) (takes-end _ _)

pub returns-in-Halt : goal.returns-in-Halt
unfolding step_meant
returns-in-Halt c = of-step (ap step_meant c.in-Halt.is) (takes-halt _ _)
