use Rattle.std.proofs.Common.{sym, ap, ◌∙◌, Option, ℕ}
use Rattle.text_forms.specs.Table.{form_found}
use Rattle.text_append.proofs.AddedLaws.{named}
use Rattle.text_fault.specs.Expected.{expected}
use Rattle.text_fault.proofs.UsageLaws.{usage-other}
use Rattle.text_fault.proofs.usage.Goals as goal

pub returns-in-Some : goal.returns-in-Some
unfolding expected form_found
returns-in-Some c = named c.append.ensures (c.form_at.ensures.usage ∙ sym (ap (λ (o : Option ℕ). expected (form_found o)) c.in-Some.is))

pub returns-in-None : goal.returns-in-None
unfolding form_found
returns-in-None c = named c.all_words.ensures (usage-other ∙ sym (ap (λ (o : Option ℕ). expected (form_found o)) c.in-None.is))
