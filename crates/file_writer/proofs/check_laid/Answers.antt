-- `check_laid` meets its contract.
use native.Mathlib.Omega.{arith}
use mathlib.Core.Path.{sym, ap, ◌∙◌}
use lib.Seq.{length-take-le}
use Rattle.spec_check.specs.Check.{check}
use Rattle.spec_writer.proofs.Files.{taken-again}
use Rattle.file_writer.proofs.check_laid.Goals as goal

pub slice_bounds-check-end : goal.slice_bounds-check-end
slice_bounds-check-end c = sym (length-take-le c.size-length.result c.lay.new.out (omega (arith, c.size-length.ensures.1, c.lay.auto.out)))

pub returns : goal.returns
returns c = c.check.ensures ∙ ap check (taken-again _ c.size-length.ensures.0 c.lay.ensures)
