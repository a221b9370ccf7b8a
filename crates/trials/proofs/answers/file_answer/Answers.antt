-- `file_answer` meets its contract.
use mathlib.Core.Path.{sym}
use native.Mathlib.Omega.{arith}
use lib.Seq.{length-take-le}
use Rattle.trials.specs.Calls.{part}
use Rattle.trials.proofs.CallLaws.{made-file}
use Rattle.trials.proofs.answers.file_answer.Goals as goal

pub slice_bounds-write-end-4 : goal.slice_bounds-write-end-4
slice_bounds-write-end-4 c = sym (length-take-le c.load-of_out.result c.load-of_out.new.buffer (omega (arith, c.load-of_out.ensures.0, c.load-of_out.auto.buffer)))

pub returns : goal.returns
unfolding part
returns c =
    made-file c.args.batch.now c.args.parts c.load-of_out.new.buffer c.write-written.new.out _ c.size_bytes.result c.load-of_out.result c.write-written.result c.requires.0
    c.load-of_out.ensures.0 c.load-of_out.ensures.1 (omega (arith, c.load-of_out.ensures.0, c.load-of_out.auto.buffer)) c.write-written.ensures c.write-written.auto.out c.size_bytes.ensures
