-- `acase_step` meets its contract.
use native.Mathlib.Omega.{arith}
use mathlib.Core.Path.{refl, sym, ap, ap₂, ◌∙◌}
use mathlib.Core.Bool.{Bool, ◌&&◌, not}
use Rattle.actions.specs.declared.ActionSet.{ActionSet as Set}
use Rattle.actions.specs.Sets.{EMPTY, within, is_empty}
use Rattle.actions.proofs.SetLaws.{union-end}
use Rattle.spec_policy.specs.Lists.{one}
use Rattle.spec_policy.specs.Steps.{acase, targets, is_next, is_ins}
use Rattle.spec_check.specs.Targets.{target_fits}
use Rattle.spec_check.specs.Possible.{pass_on, branches_taken}
use Rattle.spec_check.specs.Interference.{step_effects}
use Rattle.check_possible.proofs.PossibleLaws.{two-joins}
use Rattle.check_targets.proofs.TargetLaws.{tested, tested-all}
use lib.Dec.{lit≤}
use Rattle.check_modes.proofs.Table.{tells-acase}
use Rattle.check_modes.proofs.ModeSteps.{two-inside, room-met}
use Rattle.check_steps.proofs.StepLaws.{stray-met, nexts-past, went-by, off-left, off-right, length-joined}
use Rattle.check_steps.proofs.acase_step.Goals as goal

pub returns-then-not-within : goal.returns-then-not-within
unfolding tested is_next
returns-then-not-within c code ks st = stray-met code _ _ _ (off-left (within c.args.asked.bits c.args.set.bits) (target_fits code c.args.o c.args.yes && target_fits code c.args.o c.args.otherwise) (sym c.within.ensures ∙ c.if-not-within.true))

pub returns-then-not-target_fits : goal.returns-then-not-target_fits
unfolding tested is_next
returns-then-not-target_fits c code ks st = stray-met code _ _ _ (off-right (within c.args.asked.bits c.args.set.bits) (target_fits code c.args.o c.args.yes && target_fits code c.args.o c.args.otherwise) (off-left (target_fits code c.args.o c.args.yes) (target_fits code c.args.o c.args.otherwise) (sym (c.target_fits.ensures.value code st.size (nexts-past st refl)) ∙ c.if-not-target_fits.true)))

pub returns-then-not-target_fits-2 : goal.returns-then-not-target_fits-2
unfolding tested is_next
returns-then-not-target_fits-2 c code ks st = stray-met code _ _ _ (off-right (within c.args.asked.bits c.args.set.bits) (target_fits code c.args.o c.args.yes && target_fits code c.args.o c.args.otherwise) (off-right (target_fits code c.args.o c.args.yes) (target_fits code c.args.o c.args.otherwise) (sym (c.target_fits-2.ensures.value code st.size (nexts-past st refl)) ∙ c.if-not-target_fits-2.true)))

pub join_at-requires : goal.join_at-requires
join_at-requires c = let l = c.target_fits.ensures.t_lt_count (c.if-not-target_fits.false) in (omega (arith, l, c.requires), c.requires.1)

pub join_at-requires-2 : goal.join_at-requires-2
join_at-requires-2 c = let l = c.target_fits-2.ensures.t_lt_count (c.if-not-target_fits-2.false) in (omega (arith, l, c.requires), length-joined _ _ _ _ c.join_at.ensures ∙ c.requires.1)

pub lead-requires : goal.lead-requires
unfolding targets
lead-requires c =
    let l = c.target_fits.ensures.t_lt_count c.if-not-target_fits.false in
    let k = c.target_fits-2.ensures.t_lt_count c.if-not-target_fits-2.false in
    (omega (arith, c.requires), record { low = lit≤ tt; high = lit≤ tt; room = λ m. room-met (acase c.args.asked.bits c.args.yes c.args.otherwise) 5 c.args.yes c.args.otherwise (tells-acase c.args.asked.bits c.args.yes c.args.otherwise) (two-inside _ _ (omega (arith, l, c.requires)) (omega (arith, k, c.requires))) m _ refl })

pub returns : goal.returns
unfolding tested is_next is_ins step_effects branches_taken pass_on one EMPTY
returns c code ks st = (
  sym (sym (λ i. (sym c.within.ensures ∙ c.if-not-within.false) i && ((sym (c.target_fits.ensures.value code st.size (nexts-past st refl)) ∙ c.if-not-target_fits.false) i && (sym (c.target_fits-2.ensures.value code st.size (nexts-past st refl)) ∙ c.if-not-target_fits-2.false) i)) ∙ tested-all _ code _ (acase _ _ _)),
  went-by st refl (c.lead.ensures (acase c.args.asked.bits c.args.yes c.args.otherwise) (tells-acase c.args.asked.bits c.args.yes c.args.otherwise)) _ c.led_on.ensures.modes c.led_on.ensures.marks
      (ap₂ (λ (a b : Bool). c.args.w.taken && (not a && not b)) (c.is_empty.ensures ∙ ap is_empty c.common-common.ensures) (c.is_empty-2.ensures ∙ ap is_empty c.difference-rest.ensures))
      (ap (λ (a : Set). a.bits) c.led_on.ensures.effects ∙ sym (union-end _)) (omega (arith, c.led_on.ensures.inserts)) c.led_on.ensures.nexts (two-joins _ _ _ c.join_at.ensures c.join_at-2.ensures c.common-common.ensures c.difference-rest.ensures),
)
