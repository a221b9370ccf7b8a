-- The check gives every answer of the list, by computation.
use mathlib.Core.Path.{refl}
use Rattle.actions.specs.Opened.{opened as sets}
use Rattle.spec_policy.specs.Opened.{opened as files}
use Rattle.spec_policy.specs.Parts.{built}
use Rattle.spec_check.specs.Opened.{opened}
use Rattle.spec_check.specs.Examples.{examples, AllAnswered}

pub all-answered : AllAnswered
unfolding AllAnswered examples built opened files sets
all-answered = refl
