-- `steps_of` meets its contract.
use mathlib.Core.Path.{◌∙◌}
use Rattle.turn_tables.proofs.FileNodes.{node-in}
use Rattle.turn_place.proofs.LeafPlaces.{low}
use Rattle.turn_place.proofs.steps_of.Goals as goal

pub first_of-requires : goal.first_of-requires
first_of-requires c = low c.requires

pub view_count-requires : goal.view_count-requires
view_count-requires c = node-in c.requires.passed _ c.requires.inside

pub returns : goal.returns
returns c = (c.first_of.ensures ∙ (c.requires.tabled.entered _ c.requires.inside).first, c.view_count.ensures)
