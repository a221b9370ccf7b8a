-- `misplaced` meets its contract.
use Rattle.spec_text.specs.Words.{ascii}
use Rattle.text_append.proofs.AddedLaws.{named}
use Rattle.text_fault.proofs.FaultLaws.{astray-none, astray-full}
use Rattle.text_fault.proofs.misplaced.Goals as goal

pub returns-then-room-eq0 : goal.returns-then-room-eq0
unfolding ascii
returns-then-room-eq0 c = named c.append.ensures (astray-none c.args.room c.if-room-eq0.true)

pub returns-else-room-eq0 : goal.returns-else-room-eq0
unfolding ascii
returns-else-room-eq0 c = named c.append-else-room-eq0.ensures (astray-full c.args.room c.if-room-eq0.false)
