-- `bad_line` meets its contract: the line's number, what was expected in it, and the line's end.
use mathlib.Core.Path.{◌∙◌}
use Rattle.spec_text.specs.Words.{ascii}
use Rattle.text_append.proofs.AddedLaws.{joined, named}
use Rattle.text_fault.specs.Expected.{line_says}
use Rattle.text_fault.proofs.StartLaws.{line-is}
use Rattle.text_fault.proofs.FaultLaws.{fault-in}
use Rattle.text_fault.proofs.bad_line.Goals as goal

pub returns : goal.returns
unfolding line_says ascii
returns c =
    let f = fault-in c.args.text.now c.args.n _ c.room_before-room.result (c.line_start-start.ensures.is ∙ line-is c.args.text.now c.line_start-start.result c.line_end-end.result c.line_end-end.ensures) c.room_before-room.ensures in
    joined c.begin-begun.ensures
    (joined (named c.expect-said.ensures f) c.append.ensures)
