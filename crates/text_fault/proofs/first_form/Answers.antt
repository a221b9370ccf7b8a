use Rattle.std.proofs.Common.{List, ap, sym, ◌∙◌, Option, ℕ}
use Rattle.spec_policy.specs.Bytes.{Bytes}
use Rattle.spec_text.specs.Words.{ascii, same_bytes}
use Rattle.spec_text.specs.Forms.{forms, first_of, named}
use Rattle.text_words.specs.Scanned.{word_and}
use Rattle.text_words.proofs.ScanLaws.{word-first}
use Rattle.text_forms.specs.Table.{form_found}
use Rattle.text_fault.specs.Expected.{first_word}
use Rattle.text_fault.proofs.first_form.Goals as goal

-- no form has the empty word
pub returns-in_err-word-clause-is : goal.returns-in_err-word-clause-is
unfolding word_and first_word form_found named first_of forms ascii same_bytes
returns-in_err-word-clause-is c = ap (λ (ws : List Bytes). named (first_word ws)) c.in_err-word.ensures.is ∙ sym (ap (λ (o : Option ℕ). form_found o) c.from_residual.ensures)

pub returns-clause-is : goal.returns-clause-is
unfolding first_word
returns-clause-is c =
    ap (λ (ws : List Bytes). named (first_word ws)) (word-first c.args.line.now 0 c.in_ok-word.word c.in_ok-word.ensures.is c.in_ok-word.ensures.inside.1)
    ∙ c.form_of.ensures.is
