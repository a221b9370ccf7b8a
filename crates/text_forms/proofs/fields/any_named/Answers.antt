-- `any_named` meets its contract: the slots that are left are looked through.
use mathlib.Core.Path.{sym, ap, ◌∙◌}
use lib.ListN.{drop_of_length-le}
use Rattle.std.specs.Prelude.{List, Option}
use Rattle.text_forms.specs.declared.forms.Slot as code
use Rattle.text_forms.specs.Meant.{slots_in}
use Rattle.text_forms.specs.Whole.{names}
use Rattle.text_forms.proofs.SlotLaws.{names-next}
use Rattle.text_forms.proofs.fields.any_named.Goals as goal

pub loop-slot-preserved : goal.loop-slot-preserved
loop-slot-preserved c = c.loop-slot.invariant ∙ names-next _ c.loop-slot.slot-index _ c.loop-slot-test.true c.args.place (sym c.is_named.ensures ∙ c.if-is_named.false)

pub returns-then-is_named : goal.returns-then-is_named
returns-then-is_named c = sym (c.loop-slot.invariant ∙ names-next _ c.loop-slot.slot-index _ c.loop-slot-test.true c.args.place (sym c.is_named.ensures ∙ c.if-is_named.true))

pub returns : goal.returns
unfolding names slots_in
returns c =
    sym (c.loop-slot.invariant ∙ ap (λ (l : List (Option code.Slot)). names (slots_in l) c.args.place) (drop_of_length-le c.args.slots.now {i = c.loop-slot.slot-index} c.loop-slot-test.false))
