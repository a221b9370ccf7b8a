-- `tell` meets its contract.
use mathlib.Core.Path.{sym, ap, ◌∙◌}
use Rattle.check_policy.specs.Answers as checked
use Rattle.text_append.specs.Refusal.{refusal}
use Rattle.guardtext.specs.Shown.{answered}
use Rattle.text_print.proofs.FileLaws.{pass_fits}
use Rattle.guardtext.proofs.ShownLaws.{shown-long, shown-short, told}
use Rattle.guardtext.proofs.tell.Goals as goal

pub returns-then-input-gt-MOST_FILE : goal.returns-then-input-gt-MOST_FILE
returns-then-input-gt-MOST_FILE c = told c.args.input.now (λ i. (c.type_inv.input i).fits) c.requires c.refuse.ensures (ap refusal c.bare.ensures ∙ shown-long c.args.input.now c.if-input-gt-MOST_FILE.true)

pub print_records-requires : goal.print_records-requires
unfolding checked.answered
print_records-requires c = pass_fits (sym c.check.ensures ∙ ap checked.answered c.in-Ok.is)

pub tell_refused-requires : goal.tell_refused-requires
unfolding checked.answered
tell_refused-requires c = sym c.check.ensures ∙ ap checked.answered c.in-Err.is

pub returns-in-Ok : goal.returns-in-Ok
unfolding checked.answered answered
returns-in-Ok c =
    told c.args.input.now (λ i. (c.type_inv.input i).fits) c.requires c.print_records.ensures
    (shown-short c.args.input.now _ c.if-input-gt-MOST_FILE.false (sym (ap checked.answered c.in-Ok.is) ∙ c.check.ensures))

pub returns-in-Err : goal.returns-in-Err
unfolding checked.answered answered
returns-in-Err c =
    told c.args.input.now (λ i. (c.type_inv.input i).fits) c.requires c.tell_refused.ensures
    (shown-short c.args.input.now _ c.if-input-gt-MOST_FILE.false (sym (ap checked.answered c.in-Err.is) ∙ c.check.ensures))
