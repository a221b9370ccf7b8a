-- Every text and every record of the lists, by computation.
use mathlib.Core.Path.{refl}
use Rattle.actions.specs.Opened.{opened as sets}
use Rattle.spec_policy.specs.Opened.{opened as files}
use Rattle.spec_policy.specs.Parts.{built}
use Rattle.spec_text.specs.Opened.{opened}
use Rattle.spec_text.specs.Examples.{kept, AllKept, repeated, read_as, written, AllRead, beside, lone, untold, NoneTold, remarked, nodes_of_read, placed, AllPlaced}

pub all-kept : AllKept
unfolding AllKept kept built opened files sets
all-kept = (refl, refl)

pub all_read : AllRead
unfolding AllRead written repeated read_as built opened files sets
all_read = refl

pub none_told : NoneTold
unfolding NoneTold untold beside lone built opened files sets
none_told = (refl, refl)

pub all_placed : AllPlaced
unfolding AllPlaced placed remarked nodes_of_read built opened files sets
all_placed = (refl, refl)
