-- `form_at` meets its contract: the table is the definition's.
use borrow.Author.Rules.{rules}
use Rattle.spec_text.specs.Words.{ascii}
use Rattle.spec_text.specs.Forms.{forms}
use Rattle.text_forms.specs.Usage.{usages, usage}
use Rattle.text_forms.specs.Meant.{sort_of, slot_of, slots_in, slots_of}
use Rattle.text_forms.proofs.FormLaws.{row-means}
use Rattle.text_forms.proofs.forms.form_at.Goals as goal

pub returns : goal.returns
unfolding usages usage ascii forms sort_of slot_of slots_in slots_of
returns c = search (row-means, rules)
