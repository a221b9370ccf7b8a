use Rattle.std.proofs.Common.{rules}
use Rattle.faults.specs.Meaning.{spot_of, fault_of}
use Rattle.spec_text.specs.Where.{which, nodes_held}
use Rattle.text_spot.proofs.about.Goals as goal

pub returns : goal.returns
unfolding which nodes_held fault_of spot_of
returns c = search rules
