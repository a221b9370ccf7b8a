-- A record's length, and the record made again of the fields that are read in it.
use Prim.Native.Nat.{ℕ, ◌≤◌}
use native.Mathlib.Omega.{arith}
use mathlib.Core.Path.{◌≡◌, refl, ap, ◌∙◌}
use mathlib.Core.List.{◌∷◌, ◌++◌}
use lib.ListN.{length, drop}
use Rattle.spec_policy.specs.Bytes.{Bytes, number, spell, Small}
use Rattle.spec_policy.specs.Records.{node_at, step_record_at}
use Rattle.spec_policy.specs.Parts
use Rattle.spec_policy.proofs.NumberLaws.{byte-first, number-first, number-last}
use Rattle.spec_text.specs.Forms.{Sort, node, step, size, Fields, fields_in, record_of}
use Rattle.spec_text.specs.Printing.{count_in}

pub record-size : (s : Sort) (count : ℕ) (xs : Fields) → length (record_of s count xs) ≡ size s
unfolding record_of size Parts.node Parts.step spell
record-size node count xs = refl
record-size step count xs = refl

module _ (bs : Bytes) (small : Small bs) where
  abbrev head : Bytes → Bytes
  head l = number bs 0 1 ∷ number bs 1 1 ∷ number bs 2 1 ∷ number bs 3 1 ∷ l

  four-first : 4 ≤ length bs → head (drop 4 bs) ≡ bs
  four-first h =
      ap (λ (l : Bytes). number bs 0 1 ∷ number bs 1 1 ∷ number bs 2 1 ∷ l) (byte-first bs 3 (omega arith))
      ∙ ap (λ (l : Bytes). number bs 0 1 ∷ number bs 1 1 ∷ l) (byte-first bs 2 (omega arith))
      ∙ ap (λ (l : Bytes). number bs 0 1 ∷ l) (byte-first bs 1 (omega arith))
      ∙ byte-first bs 0 (omega arith)

  pub record-again : (s : Sort) → length bs ≡ size s → record_of s (count_in s bs) (fields_in s bs) ≡ bs
  unfolding record_of fields_in count_in node_at step_record_at Parts.node Parts.step size
  record-again node h =
      ap head (ap (λ (l : Bytes). spell 4 (number bs 4 4) ++ l) (number-last bs small 8 8 (omega arith)) ∙ number-first bs small 4 4 (omega arith)) ∙ four-first (omega arith)
  record-again step h = ap head (number-last bs small 4 8 (omega arith)) ∙ four-first (omega arith)
