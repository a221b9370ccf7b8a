use Rattle.std.proofs.Common.{◌∷◌, ap, ◌∙◌, subst}
use mathlib.Core.Logic.{inl, inr}
use Rattle.text_line.specs.declared.Line.{Line}
use Rattle.text_line.specs.Lines.{line_meant, InTable}
use Rattle.text_fault.specs.Expected.{room_after}
use Rattle.text_fault.proofs.RoomLaws.{room-node, room-step}
use Rattle.text_fault.proofs.room_line.Goals as goal

pub returns-in-Nothing : goal.returns-in-Nothing
unfolding line_meant room_after
returns-in-Nothing c = λ ls. elim c.in-Nothing.is [
  | inl e ↦ ap (λ (l : Line). room_after c.args.room (line_meant l ∷ ls)) e
  | inr e ↦ ap (λ (l : Line). room_after c.args.room (line_meant l ∷ ls)) e
]

pub returns-then-form-lt-NODE_FORMS : goal.returns-then-form-lt-NODE_FORMS
unfolding line_meant
returns-then-form-lt-NODE_FORMS c = λ ls.
    ap (λ (l : Line). room_after c.args.room (line_meant l ∷ ls)) c.in-Record.is
    ∙ room-node c.in-Record.form c.args.room c.in-Record.fields ls c.room_after.result c.if-form-lt-NODE_FORMS.true c.room_after.ensures

pub returns-else-form-lt-NODE_FORMS : goal.returns-else-form-lt-NODE_FORMS
unfolding line_meant
returns-else-form-lt-NODE_FORMS c = λ ls.
    ap (λ (l : Line). room_after c.args.room (line_meant l ∷ ls)) c.in-Record.is
    ∙ room-step c.in-Record.form c.args.room c.in-Record.fields ls c.if-form-lt-NODE_FORMS.false (subst InTable c.in-Record.is c.requires)
