use Rattle.std.proofs.Common.{ap}
use Rattle.spec_text.specs.Numerals.{decimal}
use Rattle.text_append.proofs.AddedLaws.{nothing, joined, named}
use Rattle.text_lines.proofs.LineLaws.{parted-next, parted-over}
use Rattle.text_lines.proofs.append_bytes.Goals as goal

pub loop-byte-preserved : goal.loop-byte-preserved
loop-byte-preserved c = λ x r h.
    let said = named c.append_number-end.ensures (ap decimal c.from.ensures) in
    c.loop-byte.invariant x r (named (joined (joined c.append-spaced.ensures said) h) (parted-next c.args.bytes.now c.loop-byte.byte-index c.loop-byte-test.true))

pub returns : goal.returns
returns c = c.loop-byte.invariant _ _ (named (nothing _ _) (parted-over c.args.bytes.now c.loop-byte.byte-index c.loop-byte-test.false))
