-- What is shown of every file of the list, by computation.
use mathlib.Core.Path.{refl}
use Rattle.actions.specs.Opened.{opened as sets}
use Rattle.spec_policy.specs.Opened.{opened as files}
use Rattle.spec_policy.specs.Parts.{built}
use Rattle.spec_check.specs.Opened.{opened as rules}
use Rattle.spec_text.specs.Opened.{opened as texts}
use Rattle.text_append.specs.Refusal.{spot_words, refusal}
use Rattle.guardtext.specs.Shown.{records_text, heading, refused_text, answered, shown}
use Rattle.guardtext.specs.Worked.{cases, AllShown}

pub all_shown : AllShown cases
unfolding AllShown cases built shown answered refused_text heading records_text spot_words refusal texts rules files sets
all_shown = refl
