-- `read_line` meets its contract: nothing, no such word, words that do not fit it, or a record.
use Rattle.spec_text.specs.Reading.{entry_if}
use Rattle.text_words.specs.Scanned.{value_of, word_and}
use Rattle.text_words.proofs.ScanLaws.{word-first}
use Rattle.text_forms.specs.Table.{form_found, form_at}
use Rattle.text_line.specs.Lines.{line_meant}
use Rattle.text_line.proofs.LineLaws.{line-nothing, line-unknown, line-known}
use Rattle.text_line.proofs.read_line.Goals as goal

pub returns-in_default-clause-is : goal.returns-in_default-clause-is
unfolding line_meant word_and
returns-in_default-clause-is c = line-nothing _ c.in_default.ensures.is

pub returns-in_default-form_of-clause-is : goal.returns-in_default-form_of-clause-is
unfolding line_meant form_found
returns-in_default-form_of-clause-is c =
    line-unknown _ _ _ (word-first c.args.line.now 0 c.in-Some.word c.in-Some.ensures.is c.in-Some.ensures.inside.1) c.in_default-form_of.ensures.is

pub returns-in-Some-fill-clause-is : goal.returns-in-Some-fill-clause-is
unfolding line_meant form_found value_of entry_if
returns-in-Some-fill-clause-is c =
    line-known _ _ _ (word-first c.args.line.now 0 c.in-Some.word c.in-Some.ensures.is c.in-Some.ensures.inside.1) (form_at c.in-Some-form_of.form) _
    c.in-Some-form_of.ensures.is c.in-Some-fill.ensures

pub returns-in-None-clause-is : goal.returns-in-None-clause-is
unfolding line_meant form_found value_of entry_if
returns-in-None-clause-is c =
    line-known _ _ _ (word-first c.args.line.now 0 c.in-Some.word c.in-Some.ensures.is c.in-Some.ensures.inside.1) (form_at c.in-Some-form_of.form) _
    c.in-Some-form_of.ensures.is c.in-None.ensures
