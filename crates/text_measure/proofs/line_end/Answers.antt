-- `line_end` meets its contract.
use native.Mathlib.Omega.{arith}
use Prim.Native.Nat.{ℕ}
use mathlib.Core.Path.{◌≡◌, subst}
use lib.ListN.{length, drop}
use lib.Seq.{slice}
use Rattle.spec_text.specs.Words.{lines_from, lines}
use Rattle.text_measure.proofs.LineLaws.{line-starts, line-more}
use Rattle.text_measure.proofs.line_end.Goals as goal

pub loop-i-init : goal.loop-i-init
loop-i-init c = line-starts c.args.text.now c.args.at

pub returns-then-text-i-eq-NEWLINE : goal.returns-then-text-i-eq-NEWLINE
returns-then-text-i-eq-NEWLINE c = record { after = omega arith; inside = omega arith; same = c.loop-i.invariant; stops = λ l. c.if-text-i-eq-NEWLINE.true }

pub loop-i-preserved : goal.loop-i-preserved
loop-i-preserved c = line-more c.args.text.now c.args.at c.loop-i.i (omega arith) c.loop-i-test.true c.if-text-i-eq-NEWLINE.false c.loop-i.invariant

pub returns : goal.returns
returns c =
    let z : c.loop-i.i ≡ length c.args.text.now = omega arith in
    record {
      after = omega arith;
      inside = omega arith;
      same = subst (λ (k : ℕ). lines (drop c.args.at c.args.text.now) ≡ lines_from (slice c.args.at k c.args.text.now) (drop k c.args.text.now)) z c.loop-i.invariant;
      stops = λ l. absurd (omega arith);
    }
