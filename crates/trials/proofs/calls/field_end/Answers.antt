-- `field_end` meets its contract.
use Rattle.trials.specs.Calls.{field_end}
use borrow.Author.Rules.{rules}
use Rattle.trials.proofs.calls.field_end.Goals as goal

pub returns : goal.returns
unfolding field_end
returns c = search rules
