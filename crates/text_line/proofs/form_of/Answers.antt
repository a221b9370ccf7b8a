-- `form_of` meets its contract: the forms that are left have the first with this name.
use native.Mathlib.Omega.{arith}
use mathlib.Core.Path.{◌≡◌, sym, ap, ◌∙◌}
use mathlib.Core.Bool.{Bool}
use lib.Dec.{eqb}
use lib.Pointwise.{pointwise}
use Rattle.spec_policy.specs.Bytes.{Bytes}
use Rattle.spec_text.specs.Words.{ascii, same_bytes}
use Rattle.spec_text.specs.Forms.{Form, named}
use Rattle.text_words.proofs.TakenLaws.{same-pointwise}
use Rattle.text_forms.specs.Table.{form_found, form_at}
use Rattle.text_forms.proofs.FormLaws.{first-all, first-here, first-later, first-none}
use Rattle.text_line.proofs.form_of.Invariants.{is_named}
use Rattle.text_line.proofs.form_of.Goals as goal

-- the test of the code's name is that of the form's
tested : (name w : Bytes) {b d : Bool} (f : Form) → name ≡ ascii f.name → b ≡ pointwise eqb name w → b ≡ d → is_named w f ≡ d
tested name w f n e h = ap (λ (x : Bytes). same_bytes x w) (sym n) ∙ sym (same-pointwise name w) ∙ sym e ∙ h

pub loop-i-init : goal.loop-i-init
unfolding named
loop-i-init c = first-all (is_named c.args.word.now)

pub returns-then-eq-clause-is : goal.returns-then-eq-clause-is
unfolding form_found
returns-then-eq-clause-is c =
    c.loop-i.invariant ∙ first-here (is_named c.args.word.now) c.loop-i.i c.loop-i-test.true (tested _ c.args.word.now (form_at c.loop-i.i) c.form_at.ensures.name c.eq.ensures c.if-eq.true)

pub loop-i-preserved : goal.loop-i-preserved
loop-i-preserved c =
    c.loop-i.invariant ∙ first-later (is_named c.args.word.now) c.loop-i.i c.loop-i-test.true (tested _ c.args.word.now (form_at c.loop-i.i) c.form_at.ensures.name c.eq.ensures c.if-eq.false)

pub returns-clause-is : goal.returns-clause-is
unfolding form_found
returns-clause-is c = c.loop-i.invariant ∙ first-none (is_named c.args.word.now) c.loop-i.i (omega arith)
