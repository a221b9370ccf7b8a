-- `is_named` meets its contract.
use Prim.Native.Nat.{ℕ}
use mathlib.Core.Path.{ap, ◌∙◌}
use lib.Dec.{eqb}
use Rattle.text_forms.proofs.SlotLaws.{named-one, named-none}
use Rattle.text_forms.proofs.fields.is_named.Goals as goal

pub returns-in-Some : goal.returns-in-Some
returns-in-Some c = ap (λ (n : ℕ). eqb n c.args.place) c.place_of.ensures ∙ named-one c.args.slot c.in-Some.slot c.args.place c.in-Some.is

pub returns-in-None : goal.returns-in-None
returns-in-None c = named-none c.args.slot c.args.place c.in-None.is
