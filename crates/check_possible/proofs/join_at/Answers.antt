-- `join_at` meets its contract.
use mathlib.Core.Path.{ap}
use lib.ListN.{set}
use Rattle.actions.specs.Sets.{EMPTY}
use Rattle.spec_check.specs.Possible.{join_at}
use Rattle.check_possible.proofs.join_at.Goals as goal

pub returns : goal.returns
unfolding join_at EMPTY
returns c = ap (set c.args.sets.now c.args.o) c.union.ensures
