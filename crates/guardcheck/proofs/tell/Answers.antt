-- `tell` meets its contract.
use mathlib.Core.Path.{sym, ap, ◌∙◌}
use Rattle.spec_check.proofs.Passed.{passed}
use Rattle.check_policy.specs.Answers as checked
use Rattle.text_append.specs.Refusal.{refusal}
use Rattle.guardcheck.specs.Shown.{answered}
use Rattle.guardcheck.proofs.ShownLaws.{shown-long, shown-short, told, spread-named}
use Rattle.guardcheck.proofs.tell.Goals as goal

pub returns-then-input-gt-MOST_FILE : goal.returns-then-input-gt-MOST_FILE
returns-then-input-gt-MOST_FILE c = told c.args.input.now c.requires c.refuse.ensures (ap refusal c.bare.ensures ∙ shown-long c.args.input.now c.if-input-gt-MOST_FILE.true)

pub spread_of-requires : goal.spread_of-requires
unfolding checked.answered
spread_of-requires c = passed c.args.input.now _ _ (sym c.check.ensures ∙ ap checked.answered c.in-Ok.is)

pub returns-in-Ok : goal.returns-in-Ok
unfolding checked.answered answered
returns-in-Ok c =
    told c.args.input.now c.requires (spread-named _ _ c.tell_passed.ensures c.spread_of.ensures)
    (shown-short c.args.input.now _ c.if-input-gt-MOST_FILE.false (sym (ap checked.answered c.in-Ok.is) ∙ c.check.ensures))

pub returns-in-Err : goal.returns-in-Err
unfolding checked.answered answered
returns-in-Err c =
    told c.args.input.now c.requires c.refuse-in-Err.ensures
    (shown-short c.args.input.now _ c.if-input-gt-MOST_FILE.false (sym (ap checked.answered c.in-Err.is) ∙ c.check.ensures))
