-- `spend_step` meets its contract.
use native.Mathlib.Omega.{arith}
use mathlib.Core.Path.{refl, sym, ap₂, ◌∙◌}
use mathlib.Core.Bool.{Bool, ◌&&◌}
use Rattle.actions.specs.Sets.{EMPTY}
use Rattle.spec_policy.specs.Steps.{spend, targets, is_next, is_ins}
use Rattle.spec_check.specs.Targets.{target_fits}
use Rattle.spec_check.specs.Possible.{pass_on, branches_taken}
use Rattle.spec_check.specs.Interference.{step_effects}
use Rattle.check_possible.proofs.PossibleLaws.{two-joins}
use Rattle.check_targets.proofs.TargetLaws.{tested, tested-all}
use lib.Dec.{lit≤}
use Rattle.check_modes.proofs.Table.{tells-spend}
use Rattle.check_modes.proofs.ModeSteps.{two-inside, room-met}
use Rattle.check_steps.proofs.StepLaws.{stray-met, nexts-past, plain-went, off-left, off-right, length-joined}
use Rattle.check_steps.proofs.spend_step.Goals as goal

pub returns-then-not-target_fits : goal.returns-then-not-target_fits
unfolding tested is_next
returns-then-not-target_fits c r n code ks st = stray-met code _ _ _ (off-left (target_fits code c.args.o c.args.yes) (target_fits code c.args.o c.args.otherwise) (sym (c.target_fits.ensures.value code st.size (nexts-past st refl)) ∙ c.if-not-target_fits.true))

pub returns-then-not-target_fits-2 : goal.returns-then-not-target_fits-2
unfolding tested is_next
returns-then-not-target_fits-2 c r n code ks st = stray-met code _ _ _ (off-right (target_fits code c.args.o c.args.yes) (target_fits code c.args.o c.args.otherwise) (sym (c.target_fits-2.ensures.value code st.size (nexts-past st refl)) ∙ c.if-not-target_fits-2.true))

pub join_at-requires : goal.join_at-requires
join_at-requires c = let l = c.target_fits.ensures.t_lt_count (c.if-not-target_fits.false) in (omega (arith, l, c.requires), c.requires.1)

pub join_at-requires-2 : goal.join_at-requires-2
join_at-requires-2 c = let l = c.target_fits-2.ensures.t_lt_count (c.if-not-target_fits-2.false) in (omega (arith, l, c.requires), length-joined _ _ _ _ c.join_at.ensures ∙ c.requires.1)

pub lead-requires : goal.lead-requires
unfolding targets
lead-requires c =
    let l = c.target_fits.ensures.t_lt_count c.if-not-target_fits.false in
    let k = c.target_fits-2.ensures.t_lt_count c.if-not-target_fits-2.false in
    (omega (arith, c.requires), record { low = lit≤ tt; high = lit≤ tt; room = λ m. room-met (spend 0 c.args.yes c.args.otherwise) 6 c.args.yes c.args.otherwise (tells-spend 0 c.args.yes c.args.otherwise) (two-inside _ _ (omega (arith, l, c.requires)) (omega (arith, k, c.requires))) m _ refl })

pub returns : goal.returns
unfolding tested is_next is_ins step_effects branches_taken pass_on EMPTY
returns c r n code ks st =
    (sym (sym (ap₂ (λ (a b : Bool). a && b) (sym (c.target_fits.ensures.value code st.size (nexts-past st refl)) ∙ c.if-not-target_fits.false) (sym (c.target_fits-2.ensures.value code st.size (nexts-past st refl)) ∙ c.if-not-target_fits-2.false)) ∙ tested-all r code _ (spend n _ _)), plain-went st refl (c.lead.ensures (spend n c.args.yes c.args.otherwise) (tells-spend n c.args.yes c.args.otherwise)) c.led_on.ensures refl refl refl (two-joins _ _ _ c.join_at.ensures c.join_at-2.ensures refl refl))
