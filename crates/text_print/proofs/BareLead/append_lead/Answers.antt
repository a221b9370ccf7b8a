use Rattle.text_append.proofs.AddedLaws.{nothing}
use Rattle.text_print.proofs.BareLead.append_lead.Goals as goal

pub returns : goal.returns
returns c = nothing _ _
