-- Bytes read one by one: the number that they spell is the library's `from_be_bytes`.
use Prim.Native.Nat.{ℕ, ◌+◌, ◌*◌, ◌≤◌}
use native.Mathlib.Omega.{arith}
use mathlib.Core.Path.{◌≡◌, ap, ◌∙◌}
use mathlib.Core.List.{[], ◌∷◌}
use lib.ListN.{length, get_or}
use Rattle.std.specs.Int.{w16, w32, w64, from_be_bytes}
use Rattle.spec_policy.specs.Bytes.{Bytes, number}
use Rattle.spec_policy.proofs.NumberLaws.{number-byte, number-join}

module _ (bs : Bytes) (i : ℕ) where
  -- one byte more, at the place after m
  longer : (m : ℕ) → i + (m + 1) ≤ length bs → number bs i (m + 1) ≡ number bs i m * 256 + get_or bs (i + m) 0
  longer m h = number-join bs i m 1 h ∙ ap (λ (n : ℕ). number bs i m * 256 + n) (number-byte bs (i + m) (omega arith))

  pub two : i + 2 ≤ length bs → from_be_bytes w16 (get_or bs i 0 ∷ get_or bs (i + 1) 0 ∷ []) ≡ number bs i 2
  two h = omega (arith, number-byte bs i (omega arith), longer 1 h)

  pub four : i + 4 ≤ length bs → from_be_bytes w32 (get_or bs i 0 ∷ get_or bs (i + 1) 0 ∷ get_or bs (i + 2) 0 ∷ get_or bs (i + 3) 0 ∷ []) ≡ number bs i 4
  four h = omega (arith, two (omega arith), longer 2 (omega arith), longer 3 h)

  pub eight : i + 8 ≤ length bs
      → from_be_bytes w64 (get_or bs i 0 ∷ get_or bs (i + 1) 0 ∷ get_or bs (i + 2) 0 ∷ get_or bs (i + 3) 0 ∷ get_or bs (i + 4) 0 ∷ get_or bs (i + 5) 0 ∷ get_or bs (i + 6) 0 ∷ get_or bs (i + 7) 0 ∷ [])
      ≡ number bs i 8
  eight h =
      omega (arith, four (omega arith), longer 4 (omega arith), longer 5 (omega arith), longer 6 (omega arith), longer 7 h)
