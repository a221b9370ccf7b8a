use native.Mathlib.Omega.{arith}
use lib.Seq.{take_all}
use Rattle.spec_text.specs.Words.{ascii}
use Rattle.text_append.proofs.AddedLaws.{nothing, joined, named}
use Rattle.text_print.proofs.PrintLaws.{left-none, left-of}
use Rattle.text_print.proofs.left_lines.Goals as goal

pub returns-then-steps-lt-STEP_SIZE : goal.returns-then-steps-lt-STEP_SIZE
returns-then-steps-lt-STEP_SIZE c = named (nothing _ _) (left-none _ _ c.if-steps-lt-STEP_SIZE.true)

pub returns : goal.returns
unfolding ascii
returns c = named (joined c.append-told.ensures c.step_lines.ensures) (left-of _ _ _ (grind (arith, take_all)) c.if-steps-lt-STEP_SIZE.false)
