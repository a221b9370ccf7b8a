use Rattle.text_forms.specs.Meant.{sort_of}
use Rattle.text_spot.proofs.SpotLaws.{is-node, is-step}
use Rattle.text_spot.proofs.node_or_step.Goals as goal

pub returns-then-p-n : goal.returns-then-p-n
unfolding sort_of
returns-then-p-n c = is-node c.args.n c.args.p c.if-p-n.true

pub returns-else-p-n : goal.returns-else-p-n
unfolding sort_of
returns-else-p-n c = is-step c.args.n c.args.p c.if-p-n.false
