-- The entry points' definitions give all that is told of P1 to P11, of guardrun's example and at the points where readers differ, by
-- computation.
use mathlib.Core.Path.{refl}
use Rattle.actions.specs.Opened.{opened as sets}
use Rattle.spec_policy.specs.Opened.{opened as files}
use Rattle.spec_check.specs.Opened.{opened as rules}
use Rattle.spec_turns.specs.Opened.{opened}
use Rattle.spec_turns.specs.Worked.{cases, AllTold}
use Rattle.spec_turns.specs.Readings.{readings, StepsStop, refused_calls, AllRefused, state_after, leaving, AllLeft}

pub all_told : AllTold cases
unfolding AllTold cases opened rules files sets
all_told = refl

pub readings-told : AllTold readings
unfolding AllTold readings opened rules files sets
readings-told = refl

pub steps-stop : StepsStop
unfolding StepsStop readings opened rules files sets
steps-stop = refl

pub all-refused : AllRefused
unfolding AllRefused refused_calls opened rules files sets
all-refused = refl

pub all_left : AllLeft
unfolding AllLeft state_after leaving opened rules files sets
all_left = refl
