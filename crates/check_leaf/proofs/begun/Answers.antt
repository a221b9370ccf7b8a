-- `begun` meets its contract.
use mathlib.Core.Path.{refl}
use Rattle.actions.specs.Sets.{EMPTY}
use Rattle.check_leaf.proofs.begun.Goals as goal

pub returns : goal.returns
unfolding EMPTY
returns c = record { modes = refl; taken = refl; marks = c.first_mark.ensures; nexts = refl; effects = refl; inserts = refl }
