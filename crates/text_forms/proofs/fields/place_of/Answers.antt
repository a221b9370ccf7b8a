-- `place_of` meets its contract.
use mathlib.Core.Path.{sym, ap}
use Rattle.spec_text.specs.Forms.{place}
use Rattle.text_forms.specs.declared.forms.Slot.{Slot}
use Rattle.text_forms.specs.Meant.{slot_of}
use Rattle.text_forms.proofs.fields.place_of.Goals as goal

pub returns-in-Number : goal.returns-in-Number
unfolding slot_of place
returns-in-Number c = sym (ap (λ (s : Slot). place (slot_of s)) c.in-Number.is)

pub returns-in-Actions : goal.returns-in-Actions
unfolding slot_of place
returns-in-Actions c = sym (ap (λ (s : Slot). place (slot_of s)) c.in-Actions.is)
