-- `tree_kept` meets its contract: rule 5 and the sum of rule 6, where the step records keep rule 4.
use mathlib.Core.Path.{◌≡◌, sym, ◌∙◌, subst}
use mathlib.Core.Bool.{false}
use borrow.Author.Rules.{rules}
use Rattle.std.specs.Prelude.{Ok}
use Rattle.std.proofs.lemmas.Result.{err_from_is_err_and}
use Rattle.spec_policy.specs.Lists.{every}
use Rattle.spec_policy.specs.Records.{step_records}
use Rattle.spec_check.specs.Layout.{step_fits}
use Rattle.spec_check.specs.Children.{broken5}
use Rattle.faults.specs.declared.Refusal.{Refusal}
use Rattle.faults.specs.Meaning.{number_of}
use Rattle.check_layout.specs.Fits.{kept_or4}
use Rattle.check_policy.specs.Kept.{Told}
use Rattle.check_policy.proofs.InOrder.{told-fields, told-child, told-sum}
use Rattle.check_policy.proofs.tree_kept.Goals.{then-broken5, else-broken5+then-not-all_owned}
use Rattle.check_policy.proofs.tree_kept.Goals as goal

pub returns-in_err-steps_kept : goal.returns-in_err-steps_kept
returns-in_err-steps_kept c =
    let p = err_from_is_err_and c.from_residual.result c.from_residual.ensures.1 in
    rw (p.1, p.2) (told-fields _ c.requires.front_kept c.requires.nodes_value c.in_err-steps_kept.ensures)

pub returns : goal.returns
returns c =
    let kept : Ok tt ≡ kept_or4 (every step_fits (step_records c.args.file.policy.now)) = search rules in
    elim c.if-broken5.branch [
      | then-broken5 w ↦ subst (λ (r : Refusal). Told c.args.file.policy.now c.args.file.n c.args.file.m (number_of r)) (sym w.broken-is)
          (told-child _ c.requires.front_kept c.requires.nodes_value kept (sym c.broken5.ensures ∙ w.if-broken5.true))
      | else-broken5+then-not-all_owned w ↦
          let five-kept : broken5 c.args.file.policy.now ≡ false = sym c.broken5.ensures ∙ w.if-broken5.false in
          subst (λ (r : Refusal). Told c.args.file.policy.now c.args.file.n c.args.file.m (number_of r)) (sym w.broken-is)
          (told-sum _ c.requires.front_kept c.requires.nodes_value five-kept kept _ w.all_owned.ensures w.if-not-all_owned.true)
    ]
