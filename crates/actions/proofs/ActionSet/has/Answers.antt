-- `ActionSet::has` meets its contract.
use native.Mathlib.Omega.{arith}
use mathlib.Core.Path.{◌∙◌, sym}
use borrow.Author.Tests.{lt-leb}
use Rattle.actions.proofs.SetLaws.{has-action, has-none}
use Rattle.actions.proofs.ActionSet.has.Goals as goal

pub returns-then-a-le-LAST_ACTION : goal.returns-then-a-le-LAST_ACTION
returns-then-a-le-LAST_ACTION c = sym (has-action c.args.self.bits c.args.a (omega arith))

pub returns-else-a-le-LAST_ACTION : goal.returns-else-a-le-LAST_ACTION
returns-else-a-le-LAST_ACTION c = lt-leb _ _ c.if-a-le-LAST_ACTION.false ∙ sym (has-none c.args.self.bits c.args.a (omega arith))
