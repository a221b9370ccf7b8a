-- What a row of the code's table is: all but the words' spelling as a string is the definition's.
use Rattle.std.specs.Prelude.{◌≡◌, List, [], ◌∷◌, Option, Some, None}
use Rattle.spec_text.specs.Words.{ascii}
use Rattle.spec_text.specs.Forms.{Sort, node, step, Slot, number, actions, Form}
use Rattle.text_forms.specs.Usage.{usage}
use Rattle.text_forms.specs.declared.forms.Sort as sorts
use Rattle.text_forms.specs.declared.forms.Sort.TheVariants.{Node, Step}
use Rattle.text_forms.specs.declared.forms.Slot as slots
use Rattle.text_forms.specs.declared.forms.Slot.TheVariants.{Number, Actions}
use Rattle.text_forms.specs.declared.forms.Form as forms

unfoldable pub sort_of : sorts.Sort → Sort
sort_of Node = node
sort_of Step = step

unfoldable pub slot_of : slots.Slot → Slot
slot_of (Number i most) = number i most
slot_of (Actions i) = actions i

-- those of a row's places that hold a slot
unfoldable pub slots_in : List (Option slots.Slot) → List Slot
slots_in [] = []
slots_in (None ∷ ps) = slots_in ps
slots_in (Some p ∷ ps) = slot_of p ∷ slots_in ps

unfoldable pub slots_of : forms.Form → List Slot
slots_of c = slots_in c.slots

-- The code holds the form f.
pub record Means (f : Form) (c : forms.Form) : Type 0 where
  pub name : c.name.now ≡ ascii f.name
  pub usage : c.usage.now ≡ usage f
  pub sort : sort_of c.sort ≡ f.sort
  pub kind : c.kind ≡ f.kind
  pub room : c.room ≡ f.room
  pub slots : slots_of c ≡ f.slots
