-- `counted` meets its contract: a node, a step, or neither.
use Prim.Native.Nat.{◌+◌}
use mathlib.Core.Path.{sym, subst}
use Rattle.std.specs.Prelude.{Some, None}
use Rattle.text_line.specs.declared.Line.{Line}
use Rattle.text_line.specs.Lines.{line_meant, InTable}
use Rattle.text_measure.specs.Measures.{Counted}
use Rattle.text_measure.proofs.CountLaws.{counted-node, counted_none, counted_wrong}
use Rattle.text_measure.proofs.counted.Goals as goal

pub returns-in-Nothing : goal.returns-in-Nothing
unfolding line_meant
returns-in-Nothing c = subst (λ (l : Line). Counted (line_meant l) c.args.t (Some c.args.t)) (sym c.in-Nothing.is) (counted_none c.args.t)

pub returns-in-Unreadable : goal.returns-in-Unreadable
unfolding line_meant
returns-in-Unreadable c = subst (λ (l : Line). Counted (line_meant l) c.args.t None) (sym c.in-Unreadable.is) (counted_wrong c.args.t)

pub returns-then-form-lt-NODE_FORMS : goal.returns-then-form-lt-NODE_FORMS
unfolding line_meant
returns-then-form-lt-NODE_FORMS c =
    subst (λ (l : Line). Counted (line_meant l) c.args.t (Some (record { nodes = c.args.t.nodes + 1; steps = c.args.t.steps; room = c.room_after.result }))) (sym c.in-Record.is) (counted-node c.args.t c.in-Record.form c.in-Record.fields c.room_after.result c.if-form-lt-NODE_FORMS.true c.room_after.ensures)

pub returns-else-form-lt-NODE_FORMS : goal.returns-else-form-lt-NODE_FORMS
unfolding line_meant
returns-else-form-lt-NODE_FORMS c =
    subst (λ (l : Line). Counted (line_meant l) c.args.t c.stepped.result) (sym c.in-Record.is)
    (c.stepped.ensures c.in-Record.form c.in-Record.fields c.if-form-lt-NODE_FORMS.false (subst InTable c.in-Record.is c.requires.0))
