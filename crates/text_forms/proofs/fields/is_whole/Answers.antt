-- `is_whole` meets its contract.
use mathlib.Core.Path.{sym, ap, ◌∙◌}
use Rattle.spec_text.specs.Forms.{fields_in}
use Rattle.text_forms.specs.declared.forms.Sort.{Sort}
use Rattle.text_forms.specs.Meant.{sort_of, slots_of}
use Rattle.text_forms.specs.Whole.{whole}
use Rattle.text_forms.proofs.FieldLaws.{all-four}
use Rattle.text_forms.proofs.fields.is_whole.Goals as goal

pub returns-in-Node : goal.returns-in-Node
unfolding sort_of whole
returns-in-Node c =
    all-four c.said.ensures c.said-in-Node.ensures c.said-in-Node-2.ensures c.said-in-Node-3.ensures
    ∙ ap (λ (s : Sort). whole (sort_of s) (slots_of c.args.form) (fields_in (sort_of c.args.sort) c.args.bytes.now)) (sym c.in-Node.is)

pub returns-in-Step : goal.returns-in-Step
unfolding sort_of whole
returns-in-Step c =
    all-four c.said-in-Step.ensures c.said-in-Step-2.ensures c.said-in-Step-3.ensures c.said-in-Step-4.ensures
    ∙ ap (λ (s : Sort). whole (sort_of s) (slots_of c.args.form) (fields_in (sort_of c.args.sort) c.args.bytes.now)) (sym c.in-Step.is)
