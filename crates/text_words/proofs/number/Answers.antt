-- `number` meets its contract: no word, no number, or a number.
use mathlib.Core.Path.{sym, ap, ◌∙◌}
use Rattle.spec_text.specs.Reading.{took_if}
use Rattle.text_words.specs.Scanned.{word_and, value_of, taken_of}
use Rattle.text_words.proofs.ScanLaws.{word-first}
use Rattle.text_words.proofs.TakenLaws.{number_none, number-read}
use Rattle.text_words.proofs.number.Goals as goal

pub returns-in_err-word-clause-is : goal.returns-in_err-word-clause-is
unfolding word_and taken_of
returns-in_err-word-clause-is c = ap (taken_of c.args.line.now) c.from_residual.ensures ∙ sym (number_none _ _ c.in_err-word.ensures.is)

pub returns-in_err-value-clause-is : goal.returns-in_err-value-clause-is
unfolding word_and taken_of value_of took_if
returns-in_err-value-clause-is c =
    let f = word-first c.args.line.now c.args.at c.in_ok-word.word c.in_ok-word.ensures.is c.in_ok-word.ensures.inside.1 in
    ap (taken_of c.args.line.now) c.from_residual-in_err-value.ensures ∙ sym (number-read _ _ _ _ f c.in_err-value.ensures)

pub returns-clause-is : goal.returns-clause-is
unfolding taken_of value_of took_if
returns-clause-is c =
    let f = word-first c.args.line.now c.args.at c.in_ok-word.word c.in_ok-word.ensures.is c.in_ok-word.ensures.inside.1 in
    sym (number-read _ _ _ _ f c.in_ok-value.ensures)
