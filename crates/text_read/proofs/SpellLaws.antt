-- A number's bytes, the highest first, as they are spelt.
use Prim.Native.Nat.{ℕ, ◌/◌, ◌%◌}
use native.Mathlib.Omega.{arith}
use mathlib.Core.Path.{◌≡◌, sym, ap}
use mathlib.Core.List.{List, [], ◌∷◌}
use lib.ListN.{take, drop}
use Rattle.std.specs.Int.{w64, to_be_bytes}
use Rattle.spec_policy.specs.Bytes.{spell}

low : (n : ℕ) → n % 256 ≡ n / 1 % 256
low n = let z : n / 1 ≡ n = omega arith in ap (λ (x : ℕ). x % 256) (sym z)

pub eight : (n : ℕ) → to_be_bytes w64 n ≡ spell 8 n
unfolding spell
eight n =
    λ i. n / 72057594037927936 % 256 ∷ n / 281474976710656 % 256 ∷ n / 1099511627776 % 256 ∷ n / 4294967296 % 256
    ∷ n / 16777216 % 256 ∷ n / 65536 % 256 ∷ n / 256 % 256 ∷ low n i ∷ []

-- the four low ones
pub four : (n : ℕ) → take 4 (drop 4 (to_be_bytes w64 n)) ≡ spell 4 n
unfolding spell
four n = ap (λ (bs : List ℕ). take 4 (drop 4 bs)) (eight n)
