-- `emits` meets its contract.
use mathlib.Core.Path.{sym, ap, ◌∙◌}
use mathlib.Core.Bool.{true, false}
use Rattle.file_records.specs.Kinds as kinds
use Rattle.file_records.specs.declared.Join.{Join}
use Rattle.turn_paths.specs.Choices.{emits}
use Rattle.spec_turns.specs.Status.{status_of}
use Rattle.turn_sides.proofs.StatusBytes.{emits-and, emits-or}
use Rattle.turn_sides.proofs.emits.Goals as goal

pub returns-then-is_halted : goal.returns-then-is_halted
unfolding kinds.join_of
returns-then-is_halted c = sym (ap (λ (x : Join). emits (kinds.join_of x) (status_of c.args.s) c.args.u) c.in-And.is ∙ emits-and (status_of c.args.s) true c.args.u (sym c.is_halted.ensures ∙ c.if-is_halted.true))

pub returns-then-is_halted-2 : goal.returns-then-is_halted-2
unfolding kinds.join_of
returns-then-is_halted-2 c = sym (ap (λ (x : Join). emits (kinds.join_of x) (status_of c.args.s) c.args.u) c.in-Or.is ∙ emits-or (status_of c.args.s) true c.args.u (sym c.is_halted-in-Or.ensures ∙ c.if-is_halted-2.true))

pub returns-else-is_halted : goal.returns-else-is_halted
unfolding kinds.join_of
returns-else-is_halted c = sym (ap (λ (x : Join). emits (kinds.join_of x) (status_of c.args.s) c.args.u) c.in-And.is ∙ emits-and (status_of c.args.s) false c.args.u (sym c.is_halted.ensures ∙ c.if-is_halted.false))

pub returns-else-is_halted-2 : goal.returns-else-is_halted-2
unfolding kinds.join_of
returns-else-is_halted-2 c = sym (ap (λ (x : Join). emits (kinds.join_of x) (status_of c.args.s) c.args.u) c.in-Or.is ∙ emits-or (status_of c.args.s) false c.args.u (sym c.is_halted-in-Or.ensures ∙ c.if-is_halted-2.false))
