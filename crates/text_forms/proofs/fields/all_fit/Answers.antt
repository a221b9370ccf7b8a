-- `all_fit` meets its contract: the slots that are left are tested.
use mathlib.Core.Path.{sym, ap, ◌∙◌}
use lib.ListN.{drop_of_length-le}
use Rattle.std.specs.Prelude.{List, Option}
use Rattle.spec_policy.specs.Lists.{every}
use Rattle.spec_text.specs.Forms.{fields_in}
use Rattle.text_forms.specs.declared.forms.Slot as code
use Rattle.text_forms.specs.Meant.{sort_of, slots_in}
use Rattle.text_forms.specs.Whole.{fit}
use Rattle.text_forms.proofs.SlotLaws.{fit-next}
use Rattle.text_forms.proofs.fields.all_fit.Goals as goal

pub loop-slot-preserved : goal.loop-slot-preserved
loop-slot-preserved c = c.loop-slot.invariant ∙ fit-next _ c.loop-slot.slot-index _ c.loop-slot-test.true _ (sym c.fits.ensures ∙ c.if-not-fits.false)

pub returns-then-not-fits : goal.returns-then-not-fits
returns-then-not-fits c = sym (c.loop-slot.invariant ∙ fit-next _ c.loop-slot.slot-index _ c.loop-slot-test.true _ (sym c.fits.ensures ∙ c.if-not-fits.true))

pub returns : goal.returns
unfolding fit every slots_in
returns c =
    sym (c.loop-slot.invariant
    ∙ ap (λ (l : List (Option code.Slot)). fit (slots_in l) (fields_in (sort_of c.args.sort) c.args.bytes.now)) (drop_of_length-le c.args.slots.now {i = c.loop-slot.slot-index} c.loop-slot-test.false))
