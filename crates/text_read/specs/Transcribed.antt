-- What reading a text into two buffers gives: the answer, and what the buffers hold then.
use Rattle.std.specs.Prelude.{◌/◌, true, false, ◌&&◌, Result, Ok, Err, leb, length}
use Rattle.spec_policy.specs.Bytes.{Bytes, put}
use Rattle.spec_text.specs.Forms.{node, step, size}
use Rattle.spec_text.specs.Reading as text
use Rattle.spec_text.specs.Reading.{records, bad_line}
use Rattle.text_measure.specs.declared.Records.{Records}
use Rattle.text_read.specs.declared.ReadError.{ReadError}
use Rattle.text_read.specs.declared.ReadError.TheVariants.{BadLine, Short}

pub record Transcript : Type 0 where
  pub answer : Result Records ReadError
  pub nodes : Bytes
  pub steps : Bytes

abbrev pub gave : Result Records ReadError → Bytes → Bytes → Transcript
gave a ns ss = record { answer = a; nodes = ns; steps = ss }

-- "its answer is what the definition gives, or the number of the first line that cannot be read, or that the output is too short, and
-- then nothing is written": the records stand at the front of the buffers, and what follows them is kept.
unfoldable pub transcribed : text.Read → Bytes → Bytes → Transcript
transcribed (bad_line n) N S = gave (Err (BadLine n)) N S
transcribed (records ns ss) N S = elim (leb (length ns) (length N) && leb (length ss) (length S)) [
  | true ↦ gave (Ok (record { nodes = length ns / size node; steps = length ss / size step })) (put N 0 ns) (put S 0 ss)
  | false ↦ gave (Err Short) N S
]
