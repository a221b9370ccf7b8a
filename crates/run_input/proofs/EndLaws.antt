-- Where the policy ends, by the number that the first two bytes say.
use Prim.Native.Nat.{ℕ, ◌≤◌}
use native.Mathlib.Omega.{arith}
use mathlib.Core.Path.{◌≡◌, refl}
use mathlib.Core.Bool.{Bool, true, false}
use lib.Dec.{ltb}
use borrow.Author.Tests.{ltb-true, ltb-false}
use Rattle.std.specs.Prelude.{min, max}
use Rattle.run_input.specs.Ends.{policy_end}

-- the number, not under 2 and not over the most
pub end-clamped : (n : ℕ) → max 2 (min n 6646) ≡ policy_end n
unfolding policy_end
end-clamped n = go (ltb n 2) (ltb 6646 n) refl refl
  where
    go : (a b : Bool) → ltb n 2 ≡ a → ltb 6646 n ≡ b → max 2 (min n 6646) ≡ elim a [ true ↦ 2 | false ↦ elim b [ true ↦ 6646 | false ↦ n ] ]
    go true b e f = let h = ltb-true n 2 e in omega arith
    go false true e f = let h = ltb-true 6646 n f in omega arith
    go false false e f = let g = ltb-false n 2 e in let h = ltb-false 6646 n f in omega arith

pub end-from : (n : ℕ) → 2 ≤ policy_end n
end-from n = omega (arith, end-clamped n)
