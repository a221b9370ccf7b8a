-- `is_asked` meets its contract.
use mathlib.Core.Path.{sym, ap, ◌∙◌}
use borrow.Author.Tests.{not-true, not-false}
use Rattle.spec_turns.specs.Status.{is_running}
use Rattle.turn_sides.proofs.StatusBytes.{asked-idle, asked-before, asked-after, asked-closing}
use Rattle.turn_memory.proofs.CellLaws.{status-read, mark-read}
use Rattle.turn_sides.proofs.is_asked.Goals as goal

pub returns-then-not-is_running : goal.returns-then-not-is_running
returns-then-not-is_running c = sym (asked-idle _ _ _ (ap is_running (sym (status-read c.args.mem.now c.args.node c.requires c.status_at.ensures)) ∙ sym c.is_running.ensures ∙ not-true _ c.if-not-is_running.true-raw))

pub returns-then-phase-lt-AFTER : goal.returns-then-phase-lt-AFTER
returns-then-phase-lt-AFTER c =
    c.has.ensures
    ∙ sym (asked-before _ _
    (ap is_running (sym (status-read c.args.mem.now c.args.node c.requires c.status_at.ensures)) ∙ sym c.is_running.ensures
    ∙ not-false _ c.if-not-is_running.false-raw) _ c.if-phase-lt-AFTER.true)

pub returns-then-phase-eq-AFTER : goal.returns-then-phase-eq-AFTER
returns-then-phase-eq-AFTER c =
    mark-read c.args.mem.now c.args.node c.requires c.mark_at.ensures
    ∙ sym (asked-after _ _
    (ap is_running (sym (status-read c.args.mem.now c.args.node c.requires c.status_at.ensures)) ∙ sym c.is_running.ensures
    ∙ not-false _ c.if-not-is_running.false-raw) _ c.if-phase-eq-AFTER.true)

pub returns : goal.returns
returns c =
    sym (asked-closing _ _
    (ap is_running (sym (status-read c.args.mem.now c.args.node c.requires c.status_at.ensures)) ∙ sym c.is_running.ensures
    ∙ not-false _ c.if-not-is_running.false-raw) _ c.if-phase-lt-AFTER.false c.if-phase-eq-AFTER.false)
