-- `said` meets its contract.
use Prim.Native.Nat.{ℕ}
use mathlib.Core.Path.{ap, ap₂, ◌∙◌, sym}
use mathlib.Core.Bool.{Bool, ◌||◌}
use lib.Dec.{eqb}
use lib.ListN.{get_or}
use Rattle.spec_text.specs.Forms.{fields_in}
use Rattle.text_forms.specs.Meant.{sort_of, slots_of}
use Rattle.text_forms.specs.Whole.{named}
use Rattle.text_forms.proofs.fields.said.Goals as goal

pub returns-then-any_named : goal.returns-then-any_named
unfolding named slots_of
returns-then-any_named c =
    c.if-any_named.true
    ∙ ap (λ (b : Bool). b || eqb (get_or (fields_in (sort_of c.args.sort) c.args.bytes.now) c.args.place 0) 0) (sym c.if-any_named.true ∙ c.any_named.ensures)

pub returns-else-any_named : goal.returns-else-any_named
unfolding named slots_of
returns-else-any_named c =
    ap₂ (λ (b : Bool) (n : ℕ). b || eqb n 0) (sym c.if-any_named.false ∙ c.any_named.ensures) c.field.ensures
