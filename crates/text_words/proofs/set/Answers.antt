-- `set` meets its contract.
use mathlib.Core.Path.{sym, ap, ◌∙◌}
use Rattle.text_words.specs.Scanned.{word_and, taken_of}
use Rattle.text_words.proofs.ScanLaws.{word-first}
use Rattle.text_words.proofs.TakenLaws.{same_as, set-none, set-open, set-bad}
use Rattle.text_words.proofs.set.Goals as goal

pub returns-in_err-word-clause-is : goal.returns-in_err-word-clause-is
unfolding word_and taken_of
returns-in_err-word-clause-is c = ap (taken_of c.args.line.now) c.from_residual.ensures ∙ sym (set-none _ c.in_err-word.ensures.is)

pub returns-then-eq-clause-is : goal.returns-then-eq-clause-is
returns-then-eq-clause-is c =
    let f = word-first c.args.line.now c.args.at c.in_ok-word.word c.in_ok-word.ensures.is c.in_ok-word.ensures.inside.1 in
    c.members.ensures.is ∙ sym (set-open _ _ _ f (same_as _ _ c.eq.ensures c.as_slice.ensures ∙ c.if-eq.true))

pub returns-else-eq-clause-is : goal.returns-else-eq-clause-is
unfolding taken_of
returns-else-eq-clause-is c =
    let f = word-first c.args.line.now c.args.at c.in_ok-word.word c.in_ok-word.ensures.is c.in_ok-word.ensures.inside.1 in
    sym (set-bad _ _ _ f (same_as _ _ c.eq.ensures c.as_slice.ensures ∙ c.if-eq.false))
