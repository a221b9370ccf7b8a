use Rattle.std.proofs.Common.{ℕ, ◌∷◌, sym, ap, ◌∙◌, get_or}
use Rattle.spec_text.specs.Words.{space}
use Rattle.spec_text.specs.Numerals.{decimal}
use Rattle.spec_text.specs.Forms.{actions, place, fields_in}
use Rattle.spec_text.specs.Printing.{argument}
use Rattle.text_forms.specs.declared.forms.Slot.{Slot}
use Rattle.text_forms.specs.Meant.{sort_of, slot_of}
use Rattle.text_append.proofs.AddedLaws.{joined, named}
use Rattle.text_lines.proofs.argument.Goals as goal

pub returns-in-Number : goal.returns-in-Number
unfolding slot_of place argument
returns-in-Number c =
    named (joined c.append-start.ensures c.append_number.ensures)
    (ap (λ (n : ℕ). space ∷ decimal n) c.field.ensures
    ∙ sym (ap (λ (s : Slot). argument (slot_of s) (get_or (fields_in (sort_of c.args.sort) c.args.bytes.now) (place (slot_of s)) 0)) c.in-Number.is))

pub returns-in-Actions : goal.returns-in-Actions
unfolding slot_of place argument
returns-in-Actions c =
    named c.append_set.ensures
    (ap (argument (actions 0)) c.field-bits.ensures
    ∙ sym (ap (λ (s : Slot). argument (slot_of s) (get_or (fields_in (sort_of c.args.sort) c.args.bytes.now) (place (slot_of s)) 0)) c.in-Actions.is))
