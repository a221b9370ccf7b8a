-- The definitions give what is told of each run, by computation.
use mathlib.Core.Path.{refl}
use Rattle.actions.specs.Opened.{opened as sets}
use Rattle.spec_policy.specs.Opened.{opened as files}
use Rattle.spec_policy.specs.Tree.{first_step}
use Rattle.spec_check.specs.Opened.{opened as rules}
use Rattle.spec_turns.specs.Opened.{opened as turns}
use Rattle.spec_trace.specs.Opened.{opened}
use Rattle.spec_trace.specs.Worked.{AllTold}

pub all_told : AllTold
unfolding AllTold first_step opened turns rules files sets
all_told = refl
