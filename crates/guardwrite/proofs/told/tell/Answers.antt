-- `tell` meets its contract: a text too long, or one that is read.
use native.Mathlib.Omega.{arith}
use Rattle.guardwrite.proofs.ToldLaws.{instead, as-message, made-long, made-short}
use Rattle.guardwrite.proofs.told.tell.Goals as goal

pub returns-then-text-most_text : goal.returns-then-text-most_text
returns-then-text-most_text c = instead (as-message c.too_long.ensures) (made-long c.args.out.now c.args.text.now c.requires (omega (arith, c.if-text-most_text.true, c.most_text.ensures)))

pub returns : goal.returns
returns c = instead c.fill.ensures (made-short c.args.out.now c.args.text.now c.requires (omega (arith, c.if-text-most_text.false, c.most_text.ensures)))
