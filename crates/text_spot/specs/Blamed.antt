-- What is promised where the writer refuses the records of a text, and names one of them.
use Rattle.std.specs.Prelude.{ℕ, ◌≡◌}
use Rattle.spec_policy.specs.Bytes.{Bytes}
use Rattle.spec_policy.specs.Spots.{Fault}
use Rattle.spec_text.specs.Forms.{Sort}
use Rattle.spec_text.specs.Where.{aRecord, which, nodes_held, spot_line, record_in, Source, run_of}

-- The record is one of the text's, and the line named is the one that it was read from: there always is such a line. `text-blamed` of proofs/Blamed, of
-- every text and of every refusal that carries a spot.
pub record Blamed (text ns ss : Bytes) (f : Fault) : Type 0 where
  pub sort : Sort
  pub number : ℕ
  pub is : which (nodes_held ns) f ≡ aRecord sort number
  pub source : Source text sort number (record_in sort (run_of sort ns ss) number) (spot_line text ns f)
