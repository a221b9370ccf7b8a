use mathlib.Core.Path.{◌≡◌}
use lib.ListN.{drop}
use Rattle.spec_text.specs.Forms.{fields_in}
use Rattle.text_forms.specs.Meant.{sort_of, slots_in}
use Rattle.text_forms.specs.Whole.{fit}
use Rattle.text_forms.proofs.fields.all_fit.Given as goal

-- what is left to test was to be tested
abbrev pub invariant-loop-slot : goal.invariant-loop-slot
invariant-loop-slot l = fit (slots_in l.slots) (fields_in (sort_of l.sort) l.bytes) ≡ fit (slots_in (drop l.slot-index l.slots)) (fields_in (sort_of l.sort) l.bytes)
