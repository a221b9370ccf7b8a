-- `join_and` meets its contract.
use mathlib.Core.Path.{sym, ◌∙◌}
use Rattle.spec_turns.specs.Status.{status_of}
use Rattle.turn_sides.proofs.StatusBytes.{and-left-halted, and-right-halted, and-both-ended, and-runs-left, and-runs-right}
use Rattle.turn_sides.proofs.join_and.Goals as goal

pub returns-then-is_halted : goal.returns-then-is_halted
unfolding status_of
returns-then-is_halted c = sym (and-left-halted _ _ (sym c.is_halted.ensures ∙ c.if-is_halted.true))

pub returns-then-is_halted-2 : goal.returns-then-is_halted-2
unfolding status_of
returns-then-is_halted-2 c = sym (and-right-halted _ _ (sym c.is_halted.ensures ∙ c.if-is_halted.false) (sym c.is_halted-2.ensures ∙ c.if-is_halted-2.true))

pub returns-then-has_ended-2 : goal.returns-then-has_ended-2
unfolding status_of
returns-then-has_ended-2 c = sym (and-both-ended _ _ (sym c.is_halted.ensures ∙ c.if-is_halted.false) (sym c.is_halted-2.ensures ∙ c.if-is_halted-2.false) (sym c.has_ended.ensures ∙ c.if-has_ended.true) (sym c.has_ended-then-has_ended.ensures ∙ c.if-has_ended-2.true))

pub returns-else-has_ended-2 : goal.returns-else-has_ended-2
unfolding status_of
returns-else-has_ended-2 c = sym (and-runs-right _ _ (sym c.is_halted.ensures ∙ c.if-is_halted.false) (sym c.is_halted-2.ensures ∙ c.if-is_halted-2.false) (sym c.has_ended.ensures ∙ c.if-has_ended.true) (sym c.has_ended-then-has_ended.ensures ∙ c.if-has_ended-2.false))

pub returns-else-has_ended : goal.returns-else-has_ended
unfolding status_of
returns-else-has_ended c = sym (and-runs-left _ _ (sym c.is_halted.ensures ∙ c.if-is_halted.false) (sym c.is_halted-2.ensures ∙ c.if-is_halted-2.false) (sym c.has_ended.ensures ∙ c.if-has_ended.false))
