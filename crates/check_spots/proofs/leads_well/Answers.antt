-- `leads_well` meets its contract: the targets of each kind, and the set of a case.
use mathlib.Core.Path.{◌≡◌, ap, ◌∙◌}
use mathlib.Core.Bool.{◌&&◌}
use borrow.Author.Rules.{rules}
use Rattle.actions.specs.Sets.{within}
use Rattle.actions.specs.declared.ActionSet as read
use Rattle.spec_policy.specs.Steps.{ins, acase, spend}
use Rattle.spec_check.specs.Targets.{target_fits, leads_well}
use Rattle.file_records.specs.Code.{code_at}
use Rattle.file_records.specs.Kinds.{step_meant}
use Rattle.check_targets.proofs.TargetLaws.{tested, tested-all}
use Rattle.check_spots.proofs.ByKind.{well-of, ins-is, spend-is, asks, others-lead}
use Rattle.check_spots.proofs.leads_well.Goals as goal

pub returns-in-Next : goal.returns-in-Next
unfolding step_meant tested
returns-in-Next c =
    let first : c.fits.result ≡ target_fits (code_at c.args.policy.now c.args.at c.args.count) c.args.o c.in-Next.take = search rules in
    let second : c.fits-in-Next.result ≡ target_fits (code_at c.args.policy.now c.args.at c.args.count) c.args.o c.in-Next.done = search rules in
    (λ i. first i && second i) ∙ well-of _ _ _ _ c.in-Next.ensures

pub returns-in-Ok : goal.returns-in-Ok
unfolding step_meant tested
returns-in-Ok c =
    let first : c.fits-in-Ok.result ≡ target_fits (code_at c.args.policy.now c.args.at c.args.count) c.args.o c.in-Ok.to = search rules in
    first ∙ well-of _ _ _ _ c.in-Ok.ensures

pub returns-in-Sup : goal.returns-in-Sup
unfolding step_meant tested
returns-in-Sup c =
    let first : c.fits-in-Sup.result ≡ target_fits (code_at c.args.policy.now c.args.at c.args.count) c.args.o c.in-Sup.to = search rules in
    first ∙ well-of _ _ _ _ c.in-Sup.ensures

pub returns-in-Ins : goal.returns-in-Ins
unfolding tested leads_well
returns-in-Ins c =
    let first : c.fits-in-Ins.result ≡ target_fits (code_at c.args.policy.now c.args.at c.args.count) c.args.o c.in-Ins.to = search rules in
    let k = ins-is _ c.in-Ins.ensures in
    first ∙ tested-all _ _ _ (ins k.0 _) ∙ ap (leads_well _ _ _) k.1

pub returns-in-Spend : goal.returns-in-Spend
unfolding tested leads_well
returns-in-Spend c =
    let first : c.fits-in-Spend.result ≡ target_fits (code_at c.args.policy.now c.args.at c.args.count) c.args.o c.in-Spend.yes = search rules in
    let second : c.fits-in-Spend-2.result ≡ target_fits (code_at c.args.policy.now c.args.at c.args.count) c.args.o c.in-Spend.otherwise = search rules in
    let k = spend-is _ c.in-Spend.ensures in
    (λ i. first i && second i) ∙ tested-all _ _ _ (spend k.0 _ _) ∙ ap (leads_well _ _ _) k.1

pub returns-in-Acase : goal.returns-in-Acase
unfolding tested leads_well
returns-in-Acase c =
    let first : c.fits-in-Acase.result ≡ target_fits (code_at c.args.policy.now c.args.at c.args.count) c.args.o c.in-Acase.yes = search rules in
    let second : c.fits-in-Acase-2.result ≡ target_fits (code_at c.args.policy.now c.args.at c.args.count) c.args.o c.in-Acase.otherwise = search rules in
    let a = asks _ c.in-Acase.ensures in
    let set = c.within.ensures ∙ ap (λ (s : read.ActionSet). within s.bits c.args.set.bits) (c.set_in.ensures a.set a.operand) in
    (λ i. set i && (first i && second i)) ∙ tested-all _ _ _ (acase a.set.bits _ _) ∙ ap (leads_well _ _ _) a.step

pub returns-in_default : goal.returns-in_default
returns-in_default c =
    others-lead _ _ _ _ c.step_at.ensures c.in_default.not-Next c.in_default.not-Ok c.in_default.not-Sup c.in_default.not-Ins c.in_default.not-Acase c.in_default.not-Spend
