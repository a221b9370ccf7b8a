-- `form_of` meets its contract: the forms that are left have the first of the kind.
use Prim.Native.Nat.{ℕ}
use native.Mathlib.Omega.{arith}
use mathlib.Core.Path.{◌≡◌, refl, sym, ap, ap₂, ◌∙◌}
use mathlib.Core.Bool.{Bool, ◌&&◌}
use borrow.Author.Tests.{eq-eqb, ne_eqb}
use lib.Dec.{eqb}
use denote.Enum.Bare.{sameb}
use Rattle.spec_text.specs.Forms.{Sort, Form, same_sort, of_kind}
use Rattle.text_forms.specs.contracts.forms.Sort.{the_type}
use Rattle.text_forms.specs.declared.forms.Sort as sorts
use Rattle.text_forms.specs.declared.forms.Sort.TheVariants.{Node, Step}
use Rattle.text_forms.specs.declared.forms.Form as code
use Rattle.text_forms.specs.Table.{form_found}
use Rattle.text_forms.specs.Meant.{sort_of, Means}
use Rattle.text_forms.proofs.FormLaws.{first-all, first-here, first-later, first-none}
use Rattle.text_forms.proofs.forms.form_of.Invariants.{is_kind}
use Rattle.text_forms.proofs.forms.form_of.Goals as goal
use Rattle.text_forms.proofs.forms.form_of.Goals.{else-eq-via-then-eq+else-form-kind, else-eq-via-else-eq}

same_meant : (a b : sorts.Sort) → sameb the_type a b ≡ same_sort (sort_of a) (sort_of b)
unfolding same_sort sort_of
same_meant Node Node = refl
same_meant Node Step = refl
same_meant Step Node = refl
same_meant Step Step = refl

-- the test of the code's row is that of its form
tested : (s : sorts.Sort) (k : ℕ) {f : Form} {row : code.Form} {b d : Bool} → Means f row → b ≡ sameb the_type row.sort s → eqb row.kind k ≡ d
    → is_kind s k f ≡ (b && d)
tested s k {f} {row} {b} {d} m e h =
    sym (ap₂ (λ (p q : Bool). p && q) (e ∙ same_meant row.sort s ∙ ap (λ (t : Sort). same_sort t (sort_of s)) m.sort) (sym h ∙ ap (λ (n : ℕ). eqb n k) m.kind))

pub loop-i-init : goal.loop-i-init
unfolding of_kind
loop-i-init c = first-all (is_kind c.args.sort c.args.kind)

pub returns-then-form-kind-clause-is : goal.returns-then-form-kind-clause-is
unfolding form_found
returns-then-form-kind-clause-is c =
    c.loop-i.invariant
    ∙ first-here (is_kind c.args.sort c.args.kind) c.loop-i.i c.loop-i-test.true
    (tested c.args.sort c.args.kind c.form_at-form.ensures (sym c.if-eq.true ∙ c.eq.ensures) (eq-eqb _ _ c.if-form-kind.true))

pub loop-i-preserved : goal.loop-i-preserved
loop-i-preserved c =
    elim c.else-eq.branch [
      | else-eq-via-then-eq+else-form-kind w ↦ c.loop-i.invariant
          ∙ first-later (is_kind c.args.sort c.args.kind) c.loop-i.i c.loop-i-test.true
          (tested c.args.sort c.args.kind c.form_at-form.ensures (sym w.if-eq.true ∙ c.eq.ensures) (ne_eqb _ _ w.if-form-kind.false))
      | else-eq-via-else-eq w ↦ c.loop-i.invariant
          ∙ first-later (is_kind c.args.sort c.args.kind) c.loop-i.i c.loop-i-test.true
          (tested c.args.sort c.args.kind c.form_at-form.ensures (sym w.if-eq.false ∙ c.eq.ensures) refl)
    ]

pub returns-clause-is : goal.returns-clause-is
unfolding form_found
returns-clause-is c = c.loop-i.invariant ∙ first-none (is_kind c.args.sort c.args.kind) c.loop-i.i (omega arith)
