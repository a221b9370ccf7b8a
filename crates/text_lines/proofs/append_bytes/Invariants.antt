use Rattle.std.proofs.Common.{ℕ, drop}
use Rattle.spec_policy.specs.Bytes.{Bytes}
use Rattle.spec_text.specs.Printing.{parted}
use Rattle.text_append.specs.Added.{Added}
use Rattle.text_lines.proofs.append_bytes.Given as goal

-- the bytes that are left make the rest of the text
abbrev pub invariant-loop-byte : goal.invariant-loop-byte
invariant-loop-byte l = (x : Bytes) (r : ℕ) → Added l.out l.end (parted (drop l.byte-index l.bytes)) x r → Added l.initial.out l.at (parted l.bytes) x r
