-- `fits` meets its contract.
use Prim.Native.Nat.{ℕ}
use mathlib.Core.Path.{ap, ap₂, ◌∙◌}
use lib.Dec.{leb}
use lib.ListN.{get_or}
use Rattle.spec_text.specs.Forms.{fields_in}
use Rattle.text_forms.specs.Meant.{sort_of}
use Rattle.text_forms.proofs.SlotLaws.{fit-one, fit-none}
use Rattle.text_forms.proofs.fields.fits.Goals as goal

pub returns-in-Some : goal.returns-in-Some
returns-in-Some c =
    ap₂ leb (c.field.ensures ∙ ap (λ (i : ℕ). get_or (fields_in (sort_of c.args.sort) c.args.bytes.now) i 0) c.place_of.ensures) c.most_of.ensures
    ∙ fit-one c.args.slot c.in-Some.slot _ c.in-Some.is

pub returns-in-None : goal.returns-in-None
returns-in-None c = fit-none c.args.slot _ c.in-None.is
