-- `front` meets its contract: each byte is the definition's.
use Prim.Native.Nat.{ℕ, ◌/◌, ◌%◌}
use native.Mathlib.Omega.{arith}
use mathlib.Core.Path.{◌≡◌, sym, ap}
use mathlib.Core.List.{[], ◌∷◌}
use Rattle.spec_policy.specs.Bytes.{spell}
use Rattle.file_writer.proofs.front.Goals as goal

low : (x : ℕ) → x % 256 ≡ x / 1 % 256
low x = let z : x / 1 ≡ x = omega arith in ap (λ (y : ℕ). y % 256) (sym z)

pub returns : goal.returns
unfolding spell
returns c =
    rw (c.to_be_bytes.ensures, c.to_be_bytes-2.ensures)
    (λ i. c.args.length / 256 % 256 ∷ low c.args.length i ∷ 1 ∷ c.args.n ∷ c.args.m / 256 % 256 ∷ low c.args.m i ∷ [])
