-- `par_end` meets its contract.
use mathlib.Core.Path.{sym, ◌∙◌}
use borrow.Author.Tests.{eq-eqb, ne_eqb}
use Rattle.turn_ends.proofs.EndLaws.{par-halted, par-left, par-right}
use Rattle.turn_ends.proofs.par_end.Goals as goal

pub returns-then-is_halted : goal.returns-then-is_halted
returns-then-is_halted c = par-halted c.settle-status.ensures _ _ (sym c.is_halted.ensures ∙ c.if-is_halted.true)

pub returns-then-x-eq-SUPPRESSED : goal.returns-then-x-eq-SUPPRESSED
returns-then-x-eq-SUPPRESSED c = par-left c.settle-status.ensures _ _ (sym c.is_halted.ensures ∙ c.if-is_halted.false) (eq-eqb _ _ c.if-x-eq-SUPPRESSED.true)

pub returns : goal.returns
returns c =
    par-right c.settle-status.ensures _ _ (sym c.is_halted.ensures ∙ c.if-is_halted.false) (ne_eqb _ _ c.if-x-eq-SUPPRESSED.false)
    c.requires.1.1
