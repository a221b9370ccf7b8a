use Prim.Native.Nat.{ℕ}
use mathlib.Core.Path.{◌≡◌}
use mathlib.Core.Bool.{Bool, ◌&&◌}
use lib.Dec.{eqb}
use Rattle.spec_text.specs.Forms.{Form, same_sort, of_kind}
use Rattle.text_forms.specs.declared.forms.Sort as sorts
use Rattle.text_forms.specs.Meant.{sort_of}
use Rattle.text_forms.proofs.FormLaws.{first_from}
use Rattle.text_forms.proofs.forms.form_of.Given as goal

-- the form is one of the kind
abbrev pub is_kind : sorts.Sort → ℕ → Form → Bool
is_kind s k f = same_sort f.sort (sort_of s) && eqb f.kind k

abbrev pub invariant-loop-i : goal.invariant-loop-i
invariant-loop-i l = of_kind (sort_of l.sort) l.kind ≡ first_from (is_kind l.sort l.kind) l.i
