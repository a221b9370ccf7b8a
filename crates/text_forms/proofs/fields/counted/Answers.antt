-- `counted` meets its contract.
use mathlib.Core.Path.{sym, ap, ◌∙◌}
use native.Mathlib.Omega.{arith}
use Rattle.spec_text.specs.Forms.{size}
use Rattle.spec_text.specs.Printing.{count_in}
use Rattle.text_forms.specs.declared.forms.Sort.{Sort}
use Rattle.text_forms.specs.Meant.{sort_of}
use Rattle.text_forms.proofs.fields.counted.Goals as goal

pub node_count-requires : goal.node_count-requires
unfolding sort_of size
node_count-requires c = omega (arith, c.requires ∙ ap (λ (s : Sort). size (sort_of s)) c.in-Node.is)

pub returns-in-Node : goal.returns-in-Node
unfolding sort_of count_in
returns-in-Node c = c.node_count.ensures ∙ ap (λ (s : Sort). count_in (sort_of s) c.args.bytes.now) (sym c.in-Node.is)

pub returns-in-Step : goal.returns-in-Step
unfolding sort_of count_in
returns-in-Step c = ap (λ (s : Sort). count_in (sort_of s) c.args.bytes.now) (sym c.in-Step.is)
