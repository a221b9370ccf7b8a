-- `broken3` meets its contract: two counts of at most two bytes keep the sum far below 2 ^ 64.
use Rattle.check_layout.proofs.Fields.{counts-read}
use Rattle.check_layout.proofs.broken3.Goals as goal

pub returns : goal.returns
returns c = counts-read _ _ _ c.nodes_of-n.ensures.0 c.steps_of-m.ensures.0
