-- `begin` meets its contract.
use mathlib.Core.Path.{sym, ap}
use Rattle.spec_text.specs.Words.{ascii}
use Rattle.spec_text.specs.Printing.{indent}
use Rattle.text_forms.specs.declared.forms.Sort.{Sort}
use Rattle.text_forms.specs.Meant.{sort_of}
use Rattle.text_append.proofs.AddedLaws.{nothing, named}
use Rattle.text_lines.proofs.begin.Goals as goal

pub returns-in-Node : goal.returns-in-Node
unfolding sort_of indent ascii
returns-in-Node c = named (nothing _ _) (ap (λ (s : Sort). indent (sort_of s)) (sym c.in-Node.is))

pub returns-in-Step : goal.returns-in-Step
unfolding sort_of indent ascii
returns-in-Step c = named c.append.ensures (ap (λ (s : Sort). indent (sort_of s)) (sym c.in-Step.is))
