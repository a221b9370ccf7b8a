-- From file to text and back.
use Rattle.std.specs.Prelude.{◌≡◌}
use Rattle.spec_policy.specs.Bytes.{Bytes}
use Rattle.spec_policy.specs.Records.{node_bytes, step_bytes}
use Rattle.spec_policy.specs.Parts.{file}
use Rattle.spec_text.specs.Reading.{records, read_text}
use Rattle.spec_text.specs.Printing.{Print, printed}

-- The file's records have a text, and from that text they are read.
pub record ThereAndBack (file : Bytes) : Type 0 where
  pub text : Bytes
  pub prints : printed (node_bytes file) (step_bytes file) ≡ Print.text text
  pub reads : read_text text ≡ records (node_bytes file) (step_bytes file)
