-- `end_step` meets its contract.
use mathlib.Core.Path.{refl, sym}
use Rattle.spec_policy.specs.Steps.{end, targets, is_next, is_ins}
use Rattle.spec_check.specs.Possible.{pass_on, branches_taken}
use Rattle.spec_check.specs.Interference.{step_effects}
use Rattle.check_targets.proofs.TargetLaws.{tested, tested-all}
use lib.Dec.{lit≤}
use Rattle.check_modes.proofs.Table.{tells-end}
use Rattle.check_modes.proofs.ModeSteps.{none_inside, room-met}
use native.Mathlib.Omega.{arith}
use Rattle.check_steps.proofs.StepLaws.{plain-went}
use Rattle.check_steps.proofs.end_step.Goals as goal

pub lead-requires : goal.lead-requires
unfolding targets
lead-requires c =
    (omega (arith, c.requires), record { low = lit≤ tt; high = lit≤ tt; room = λ m. room-met (end) 7 0 0 (tells-end) (none_inside) m _ refl })

pub returns : goal.returns
unfolding tested is_next is_ins step_effects branches_taken pass_on
returns c r sets code ks st =
    (sym (tested-all r code _ end), plain-went st refl (c.lead.ensures (end) (tells-end)) c.led_on.ensures refl refl refl refl)
