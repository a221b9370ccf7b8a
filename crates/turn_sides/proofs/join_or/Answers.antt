-- `join_or` meets its contract.
use mathlib.Core.Path.{sym, ◌∙◌}
use Rattle.spec_turns.specs.Status.{status_of}
use Rattle.turn_sides.proofs.StatusBytes.{or-left-ended, or-right-ended, or-both-halted, or-runs-left, or-runs-right}
use Rattle.turn_sides.proofs.join_or.Goals as goal

pub returns-then-has_ended : goal.returns-then-has_ended
unfolding status_of
returns-then-has_ended c = sym (or-left-ended _ _ (sym c.has_ended.ensures ∙ c.if-has_ended.true))

pub returns-then-has_ended-2 : goal.returns-then-has_ended-2
unfolding status_of
returns-then-has_ended-2 c = sym (or-right-ended _ _ (sym c.has_ended.ensures ∙ c.if-has_ended.false) (sym c.has_ended-2.ensures ∙ c.if-has_ended-2.true))

pub returns-then-is_halted-2 : goal.returns-then-is_halted-2
unfolding status_of
returns-then-is_halted-2 c = sym (or-both-halted _ _ (sym c.has_ended.ensures ∙ c.if-has_ended.false) (sym c.has_ended-2.ensures ∙ c.if-has_ended-2.false) (sym c.is_halted.ensures ∙ c.if-is_halted.true) (sym c.is_halted-then-is_halted.ensures ∙ c.if-is_halted-2.true))

pub returns-else-is_halted-2 : goal.returns-else-is_halted-2
unfolding status_of
returns-else-is_halted-2 c = sym (or-runs-right _ _ (sym c.has_ended.ensures ∙ c.if-has_ended.false) (sym c.has_ended-2.ensures ∙ c.if-has_ended-2.false) (sym c.is_halted.ensures ∙ c.if-is_halted.true) (sym c.is_halted-then-is_halted.ensures ∙ c.if-is_halted-2.false))

pub returns-else-is_halted : goal.returns-else-is_halted
unfolding status_of
returns-else-is_halted c = sym (or-runs-left _ _ (sym c.has_ended.ensures ∙ c.if-has_ended.false) (sym c.has_ended-2.ensures ∙ c.if-has_ended-2.false) (sym c.is_halted.ensures ∙ c.if-is_halted.false))
