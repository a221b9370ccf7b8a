-- Nothing, a step out of its place, or what cannot be read.
use Rattle.std.proofs.Common.{sym, ap, ◌∙◌}
use Rattle.spec_text.specs.Words.{words}
use Rattle.spec_text.specs.Reading.{Line}
use Rattle.text_line.specs.Lines.{line_meant}
use Rattle.text_append.proofs.AddedLaws.{nothing, named as instead}
use Rattle.text_fault.specs.Expected.{expected, fault}
use Rattle.text_fault.proofs.expect.Goals as goal

pub returns-in-Nothing : goal.returns-in-Nothing
unfolding line_meant fault
returns-in-Nothing c = instead (nothing _ _) (sym (ap (λ (l : Line). fault l (words c.args.line.now) c.args.room) c.in-Nothing.ensures.is))

pub returns-in-Unreadable : goal.returns-in-Unreadable
unfolding line_meant fault
returns-in-Unreadable c =
    instead c.usage.ensures (sym (ap (λ (l : Line). fault l (words c.args.line.now) c.args.room) c.in-Unreadable.ensures.is ∙ ap expected c.first_form.ensures.is))

pub returns-in-Record : goal.returns-in-Record
unfolding line_meant fault
returns-in-Record c = instead c.misplaced.ensures (sym (ap (λ (l : Line). fault l (words c.args.line.now) c.args.room) c.in-Record.ensures.is))
