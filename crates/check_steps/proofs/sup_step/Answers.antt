-- `sup_step` meets its contract.
use native.Mathlib.Omega.{arith}
use mathlib.Core.Path.{refl, sym, ap, ◌∙◌}
use Rattle.actions.specs.Sets.{union}
use Rattle.actions.proofs.Tests.{and-true}
use Rattle.spec_policy.specs.Lists.{one}
use Rattle.spec_policy.specs.Steps.{sup, targets, is_next, is_ins}
use Rattle.spec_check.specs.Possible.{pass_on, branches_taken}
use Rattle.spec_check.specs.Interference.{step_effects}
use Rattle.check_targets.proofs.TargetLaws.{tested, tested-all}
use lib.Dec.{lit≤}
use Rattle.check_modes.proofs.Table.{tells-sup}
use Rattle.check_modes.proofs.ModeSteps.{one_inside, room-met}
use Rattle.check_steps.proofs.StepLaws.{stray-met, nexts-past, went-by}
use Rattle.check_steps.proofs.sup_step.Goals as goal

pub returns-then-not-target_fits : goal.returns-then-not-target_fits
unfolding tested is_next
returns-then-not-target_fits c r sets ep code ks st = stray-met code _ _ _ (sym (c.target_fits.ensures.value code st.size (nexts-past st refl)) ∙ c.if-not-target_fits.true)

pub lead-requires : goal.lead-requires
unfolding targets
lead-requires c =
    let l = c.target_fits.ensures.t_lt_count c.if-not-target_fits.false in
    (omega (arith, c.requires), record { low = lit≤ tt; high = lit≤ tt; room = λ m. room-met (sup c.args.to) 3 c.args.to 0 (tells-sup c.args.to) (one_inside _ (omega (arith, l, c.requires))) m _ refl })

pub returns : goal.returns
unfolding tested is_next is_ins step_effects branches_taken pass_on one
returns c r sets ep code ks st =
    (sym (sym (sym (c.target_fits.ensures.value code st.size (nexts-past st refl)) ∙ c.if-not-target_fits.false) ∙ tested-all r code _ (sup _)), went-by st refl (c.lead.ensures (sup c.args.to) (tells-sup c.args.to)) _ c.led_on.ensures.modes c.led_on.ensures.marks (c.led_on.ensures.taken ∙ sym (and-true _)) (c.union.ensures ∙ ap (union _) ep) (omega (arith, c.led_on.ensures.inserts)) c.led_on.ensures.nexts refl)
