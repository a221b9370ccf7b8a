-- Records read in a part of a file: they are those of the file.
use Prim.Native.Nat.{ℕ, ◌+◌, ◌≤◌}
use native.Mathlib.Nat.{add_assoc}
use native.Mathlib.Omega.{arith}
use mathlib.Core.Path.{◌≡◌, sym, ap, ◌∙◌}
use lib.ListN.{length, take, drop}
use Rattle.spec_policy.specs.Bytes.{Bytes, number}
use Rattle.spec_policy.specs.Records.{node_size, step_size, node_at, step_record_at}
use Rattle.spec_policy.proofs.ByteLaws.{number-part}

module _ (bs : Bytes) (i n : ℕ) (inside : i + n ≤ length bs) (at : ℕ) where
  field : (k size : ℕ) → at + k + size ≤ n → number (take n (drop i bs)) (at + k) size ≡ number bs (i + at + k) size
  field k size h = number-part bs i n (at + k) size h inside ∙ ap (λ (j : ℕ). number bs j size) (sym (add_assoc i at k))

  pub node-part : at + node_size ≤ n → node_at (take n (drop i bs)) at ≡ node_at bs (i + at)
  unfolding node_at
  node-part h = λ x. record {
    kind = number-part bs i n at 1 (omega arith) inside x;
    left = field 1 1 (omega arith) x;
    right = field 2 1 (omega arith) x;
    count = field 3 1 (omega arith) x;
    start = field 4 4 (omega arith) x;
    set = field 8 8 (omega arith) x;
  }

  pub step_part : at + step_size ≤ n → step_record_at (take n (drop i bs)) at ≡ step_record_at bs (i + at)
  unfolding step_record_at
  step_part h = λ x. record {
    kind = number-part bs i n at 1 (omega arith) inside x;
    action = field 1 1 (omega arith) x;
    first = field 2 1 (omega arith) x;
    second = field 3 1 (omega arith) x;
    operand = field 4 8 (omega arith) x;
  }
