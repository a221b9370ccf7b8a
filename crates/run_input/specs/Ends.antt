-- Where the policy ends in what guardrun and guardtrace read.
use Rattle.std.specs.Prelude.{ℕ, min, true, false, ltb, length}
use Rattle.spec_policy.specs.Bytes.{Bytes, number}
use Rattle.spec_policy.specs.Records.{most_file}

-- "a policy (the first two bytes say how many bytes, at most 6,646 taken)": where it ends, the two bytes with it
unfoldable pub policy_end : ℕ → ℕ
policy_end n = elim (ltb n 2) [ true ↦ 2 | false ↦ elim (ltb most_file n) [ true ↦ most_file | false ↦ n ] ]

-- how many bytes of an input are its policy's: there may be fewer than its first two say
abbrev pub policy_part : Bytes → ℕ
policy_part input = min (policy_end (number input 0 2)) (length input)
