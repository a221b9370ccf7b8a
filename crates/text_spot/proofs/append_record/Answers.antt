-- Nothing, a node, or a step.
use Rattle.std.proofs.Common.{ap}
use Rattle.spec_text.specs.Words.{ascii}
use Rattle.spec_text.specs.Where.{record_words, nodes_spelt, spot_says}
use Rattle.text_forms.specs.Meant.{sort_of}
use Rattle.text_append.proofs.AddedLaws.{nothing, joined, named}
use Rattle.text_spot.proofs.append_record.Goals as goal

pub returns-in_default : goal.returns-in_default
unfolding spot_says record_words
returns-in_default c = named (nothing _ _) (ap (record_words (nodes_spelt c.args.nodes.now)) c.in_default.ensures)

pub returns-in-Node : goal.returns-in-Node
unfolding spot_says record_words sort_of ascii
returns-in-Node c =
    named (joined c.append-begun.ensures c.append_number.ensures) (ap (record_words (nodes_spelt c.args.nodes.now)) (rw c.in-Node.is at c.in-Some.ensures))

pub returns-in-Step : goal.returns-in-Step
unfolding spot_says record_words sort_of
returns-in-Step c = named c.append_step.ensures (ap (record_words (nodes_spelt c.args.nodes.now)) (rw c.in-Step.is at c.in-Some.ensures))
