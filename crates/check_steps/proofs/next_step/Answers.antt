-- `next_step` meets its contract.
use native.Mathlib.Omega.{arith}
use mathlib.Core.Path.{refl, sym, ap₂, ◌∙◌}
use mathlib.Core.Bool.{Bool, ◌&&◌}
use Rattle.actions.specs.Sets.{EMPTY, union}
use Rattle.actions.proofs.Tests.{and-true}
use Rattle.actions.proofs.SetLaws.{union-end}
use Rattle.spec_policy.specs.Lists.{one}
use Rattle.spec_policy.specs.Steps.{next, is_next, is_ins}
use Rattle.spec_check.specs.Targets.{target_fits}
use Rattle.spec_check.specs.Possible.{pass_on, branches_taken}
use Rattle.spec_check.specs.Interference.{step_effects}
use Rattle.check_targets.proofs.TargetLaws.{tested, tested-all}
use Rattle.check_steps.proofs.StepLaws.{stray-met, next_past, next-has, off-left, off-right}
use Rattle.check_steps.proofs.next_step.Goals as goal

pub only_bit-requires : goal.only_bit-requires
only_bit-requires c = omega (arith, c.requires)

pub returns-then-not-target_fits : goal.returns-then-not-target_fits
unfolding tested is_next union
returns-then-not-target_fits c code ks st = stray-met code _ _ _ (off-left (target_fits code c.args.o c.args.take) (target_fits code c.args.o c.args.done) (sym (c.target_fits.ensures.value code st.size (next_past st refl _ c.only_bit.ensures)) ∙ c.if-not-target_fits.true))

pub returns-then-not-target_fits-2 : goal.returns-then-not-target_fits-2
unfolding tested is_next union
returns-then-not-target_fits-2 c code ks st = stray-met code _ _ _ (off-right (target_fits code c.args.o c.args.take) (target_fits code c.args.o c.args.done) (sym (c.target_fits-2.ensures.value code st.size (next_past st refl _ c.only_bit.ensures)) ∙ c.if-not-target_fits-2.true))

pub join_at-requires : goal.join_at-requires
join_at-requires c = let l = c.target_fits.ensures.t_lt_count (c.if-not-target_fits.false) in (omega (arith, l, c.requires), c.requires.1)

pub lead_next-requires : goal.lead_next-requires
lead_next-requires c = let l = c.target_fits.ensures.t_lt_count (c.if-not-target_fits.false) in let k = c.target_fits-2.ensures.t_lt_count (c.if-not-target_fits-2.false) in (omega (arith, c.requires), omega (arith, l, c.requires), omega (arith, k, c.requires))

pub returns : goal.returns
unfolding tested is_next is_ins step_effects branches_taken pass_on one EMPTY union
returns c code ks st = (
  sym (sym (ap₂ (λ (a b : Bool). a && b) (sym (c.target_fits.ensures.value code st.size (next_past st refl _ c.only_bit.ensures)) ∙ c.if-not-target_fits.false) (sym (c.target_fits-2.ensures.value code st.size (next_past st refl _ c.only_bit.ensures)) ∙ c.if-not-target_fits-2.false)) ∙ tested-all _ code _ (next _ _)),
  record {
    modes = λ g t. sym (and-true _);
    marks = λ g t. c.lead_next.ensures.agrees ks g;
    aside = c.lead_next.ensures.aside;
    taken = sym (and-true _);
    effects = sym (union-end _);
    inserts = omega arith;
    nexts = next-has c.args.w.nexts _ _ c.only_bit.ensures;
    possible = c.join_at.ensures;
  },
)
