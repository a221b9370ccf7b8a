-- `goes-on` meets its contract.
use mathlib.Core.Path.{sym, ◌∙◌}
use Rattle.turn_sides.proofs.StatusBytes.{goes_before, goes-closing, and_no, and_yes}
use Rattle.turn_sides.proofs.goes_on.Goals as goal

pub returns-then-u : goal.returns-then-u
returns-then-u c = sym (goes_before _ c.args.runs c.args.u c.if-phase-lt-AFTER.true ∙ and_no c.args.runs c.args.u c.if-u.true)

pub returns-else-u : goal.returns-else-u
returns-else-u c = sym (goes_before _ c.args.runs c.args.u c.if-phase-lt-AFTER.true ∙ and_yes c.args.runs c.args.u c.if-u.false)

pub returns-else-phase-lt-AFTER : goal.returns-else-phase-lt-AFTER
returns-else-phase-lt-AFTER c = sym (goes-closing _ c.args.runs c.args.u c.if-phase-lt-AFTER.false c.requires)
