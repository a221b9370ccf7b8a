-- `meet` meets its contract: each value of the enum by its own function.
use mathlib.Core.Path.{refl, ap}
use Rattle.actions.specs.Sets.{EMPTY}
use Rattle.file_records.specs.Kinds.{step_meant}
use Rattle.check_steps.proofs.StepLaws.{of-meant}
use Rattle.check_steps.proofs.meet.Goals as goal

pub returns-in-Next : goal.returns-in-Next
unfolding step_meant
returns-in-Next c = of-meant _ _ _ _ _ _ _ (ap step_meant c.in-Next.is) (rw (c.from.ensures, c.from-in-Next.ensures) at c.next_step.ensures)

pub returns-in-Ok : goal.returns-in-Ok
unfolding step_meant
returns-in-Ok c = of-meant _ _ _ _ _ _ _ (ap step_meant c.in-Ok.is) (rw c.from-in-Ok.ensures at (c.ok_step.ensures c.args.set.bits c.args.sets.now))

pub returns-in-Sup : goal.returns-in-Sup
unfolding step_meant EMPTY
returns-in-Sup c = of-meant _ _ _ _ _ _ _ (ap step_meant c.in-Sup.is) (rw c.from-in-Sup.ensures at (c.sup_step.ensures c.args.set.bits c.args.sets.now refl))

pub returns-in-Ins : goal.returns-in-Ins
unfolding step_meant
returns-in-Ins c = of-meant _ _ _ _ _ _ _ (ap step_meant c.in-Ins.is) (c.ins_of.ensures _)

pub returns-in-Acase : goal.returns-in-Acase
unfolding step_meant
returns-in-Acase c = of-meant _ _ _ _ _ _ _ (ap step_meant c.in-Acase.is) c.acase_of.ensures

pub returns-in-Spend : goal.returns-in-Spend
unfolding step_meant
returns-in-Spend c = of-meant _ _ _ _ _ _ _ (ap step_meant c.in-Spend.is) (c.spend_of.ensures _)

pub returns-in-End : goal.returns-in-End
unfolding step_meant
returns-in-End c = of-meant _ _ _ _ _ _ _ (ap step_meant c.in-End.is) (c.end_step.ensures _ _)

pub returns-in-Halt : goal.returns-in-Halt
unfolding step_meant
returns-in-Halt c = of-meant _ _ _ _ _ _ _ (ap step_meant c.in-Halt.is) (c.halt_step.ensures _ _)
