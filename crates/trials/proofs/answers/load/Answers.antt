-- `load` meets its contract.
use Rattle.trials.specs.Calls.{part}
use Rattle.trials.proofs.CallLaws.{loaded}
use Rattle.trials.proofs.answers.load.Goals as goal

pub returns : goal.returns
unfolding part
returns c = loaded c.args.batch.now c.copy_from_slice.new.self _ c.args.from c.args.to c.requires.1 c.copy_from_slice.ensures.after
