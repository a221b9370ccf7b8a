-- `too_long` meets its contract: the number of the line in which the first byte too many lies.
use native.Mathlib.Omega.{arith}
use mathlib.Core.Path.{sym}
use lib.Seq.{length-take-le}
use Rattle.spec_text.specs.Words.{ascii}
use Rattle.text_fault.specs.Expected.{line_says}
use Rattle.text_append.proofs.AddedLaws.{joined}
use Rattle.guardwrite.proofs.ToldLaws.{long-tells}
use Rattle.guardwrite.proofs.told.too_long.Goals as goal

pub slice_bounds-line_count-end : goal.slice_bounds-line_count-end
slice_bounds-line_count-end c = sym (length-take-le c.most_text-most.result c.args.text.now (omega (arith, c.requires.0, c.most_text-most.ensures)))

pub returns : goal.returns
unfolding line_says ascii
returns c = long-tells c.line_count-n.result c.line_count-n.type_inv c.requires.1 c.args.text.now c.most_text-most.result c.most_text-most.ensures c.line_count-n.ensures (joined c.begin-begun.ensures (joined c.append-said.ensures c.append.ensures))
