-- The small cases of the third demand's words, by computation.
use mathlib.Core.Path.{refl}
use Rattle.actions.specs.Opened.{opened as sets}
use Rattle.spec_policy.specs.Opened.{opened as files}
use Rattle.spec_check.specs.Opened.{opened as rules}
use Rattle.spec_turns.specs.Opened.{opened}
use Rattle.spec_orders.specs.Orders.{only, of_leaf, is_verdict, code_of, insert_of, inserted, inserts_of}
use Rattle.spec_orders.specs.Demand.{no_parallel, premise}
use Rattle.spec_orders.specs.Worked.{premises, done_by, inserting, judging, AllWorked}

pub all-worked : AllWorked
unfolding AllWorked premises inserting judging done_by no_parallel premise only of_leaf is_verdict code_of insert_of inserted inserts_of opened rules files sets
all-worked = (refl, refl, refl)
