-- `says` meets its contract.
use Prim.Native.Nat.{ℕ}
use mathlib.Core.Path.{ap, ap₂, ◌∙◌}
use mathlib.Core.Bool.{Bool, ◌&&◌}
use mathlib.Core.List.{List}
use lib.Dec.{leb}
use Rattle.spec_text.specs.Forms.{Slot, fields_in}
use Rattle.spec_text.specs.Printing.{count_in}
use Rattle.text_forms.specs.Table.{form_at}
use Rattle.text_forms.specs.Meant.{sort_of, slots_of}
use Rattle.text_forms.specs.Whole.{whole, fit}
use Rattle.text_forms.proofs.FieldLaws.{says_is}
use Rattle.text_forms.proofs.fields.says.Goals as goal

pub returns : goal.returns
unfolding slots_of
returns c =
    let s = sort_of c.args.sort in
    ap₂ (λ (p q : Bool). p && q) (ap₂ (λ (p q : Bool). p && q) c.is_whole.ensures c.all_fit.ensures) (ap (λ (n : ℕ). leb n c.form_at-form.result.room) c.counted.ensures)
    ∙ ap₂ (λ (ps : List Slot) (n : ℕ). whole s ps (fields_in s c.args.bytes.now) && fit ps (fields_in s c.args.bytes.now) && leb (count_in s c.args.bytes.now) n) c.form_at-form.ensures.slots c.form_at-form.ensures.room
    ∙ says_is (form_at c.args.i) c.args.bytes.now (λ i. (c.type_inv.bytes i).fits) c.requires.2 s c.requires.0
