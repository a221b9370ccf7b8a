-- `join` meets its contract.
use mathlib.Core.Path.{sym, ap, ap₂, ◌∙◌}
use mathlib.Core.Bool.{◌&&◌}
use Rattle.file_records.specs.Kinds as kinds
use Rattle.file_records.specs.declared.Join.{Join}
use Rattle.spec_turns.specs.Status.{status_of, joined}
use Rattle.turn_sides.proofs.StatusBytes.{both_run}
use Rattle.turn_sides.proofs.join.Goals as goal

pub returns-then-is_running : goal.returns-then-is_running
unfolding status_of
returns-then-is_running c = sym (both_run _ _ _ (ap₂ ◌&&◌ (sym c.is_running.ensures) (sym c.is_running-2.ensures) ∙ c.if-is_running.true))

pub returns-in-And : goal.returns-in-And
unfolding kinds.join_of
returns-in-And c = c.join_and.ensures ∙ ap (λ (x : Join). joined (kinds.join_of x) (status_of c.args.l) (status_of c.args.r)) (sym c.in-And.is)

pub returns-in-Or : goal.returns-in-Or
unfolding kinds.join_of
returns-in-Or c = c.join_or.ensures ∙ ap (λ (x : Join). joined (kinds.join_of x) (status_of c.args.l) (status_of c.args.r)) (sym c.in-Or.is)
