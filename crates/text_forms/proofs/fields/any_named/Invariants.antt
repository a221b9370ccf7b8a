use mathlib.Core.Path.{◌≡◌}
use lib.ListN.{drop}
use Rattle.text_forms.specs.Meant.{slots_in}
use Rattle.text_forms.specs.Whole.{names}
use Rattle.text_forms.proofs.fields.any_named.Given as goal

-- what is left to look through was to be looked through
abbrev pub invariant-loop-slot : goal.invariant-loop-slot
invariant-loop-slot l = names (slots_in l.slots) l.place ≡ names (slots_in (drop l.slot-index l.slots)) l.place
