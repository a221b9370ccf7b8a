-- `blame` meets its contract: the line's number, the refusal, and the line's end, for which there is room.
use native.Mathlib.Omega.{arith}
use Rattle.spec_text.specs.Words.{ascii}
use Rattle.faults.specs.Meaning.{fault_of}
use Rattle.text_fault.specs.Expected.{line_says}
use Rattle.text_append.proofs.AddedLaws.{joined}
use Rattle.guardwrite.proofs.ToldLaws.{blamed-tells}
use Rattle.guardwrite.proofs.told.blame.Goals as goal

pub returns : goal.returns
unfolding line_says ascii
returns c =
    blamed-tells (fault_of c.args.fault) c.requires.0 c.requires.1 c.args.text.now c.args.nodes.now c.spot_line-line.result c.spot_line-line.type_inv (omega arith) c.spot_line-line.ensures
    (joined c.begin-begun.ensures (joined c.append_fault-said.ensures c.append.ensures))
