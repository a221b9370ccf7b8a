use Rattle.std.proofs.Common.{◌≡◌, refl, sym, ap, ◌∙◌}
use mathlib.Core.Logic.{inl, inr}
use denote.Enum.Bare.{sameb}
use Rattle.spec_text.specs.Forms.{Sort, same_sort}
use Rattle.spec_text.specs.Where.{is_of}
use Rattle.text_forms.specs.contracts.forms.Sort.{the_type}
use Rattle.text_forms.specs.declared.forms.Sort as code
use Rattle.text_forms.specs.declared.forms.Sort.TheVariants.{Node, Step}
use Rattle.text_forms.specs.Meant.{sort_of}
use Rattle.text_line.specs.declared.Line.{Line}
use Rattle.text_line.specs.Lines.{line_meant}
use Rattle.text_spot.proofs.is_of.Goals as goal

sorts-same : (a b : code.Sort) → sameb the_type a b ≡ same_sort (sort_of a) (sort_of b)
unfolding sort_of same_sort
sorts-same Node Node = refl
sorts-same Node Step = refl
sorts-same Step Node = refl
sorts-same Step Step = refl

pub returns-in-Nothing : goal.returns-in-Nothing
unfolding line_meant is_of
returns-in-Nothing c = elim c.in-Nothing.is [
  | inl e ↦ sym (ap (λ (l : Line). is_of (sort_of c.args.sort) (line_meant l)) e)
  | inr e ↦ sym (ap (λ (l : Line). is_of (sort_of c.args.sort) (line_meant l)) e)
]

pub returns-in-Record : goal.returns-in-Record
unfolding line_meant is_of
returns-in-Record c =
    c.eq.ensures ∙ sorts-same c.form_at.result.sort c.args.sort
    ∙ ap (λ (s : Sort). same_sort s (sort_of c.args.sort)) c.form_at.ensures.sort
    ∙ sym (ap (λ (l : Line). is_of (sort_of c.args.sort) (line_meant l)) c.in-Record.is)
