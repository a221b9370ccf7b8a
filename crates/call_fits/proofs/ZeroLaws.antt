-- The two zeros of the first records.
use Prim.Native.Nat.{ℕ, zero, suc, ◌+◌}
use native.Mathlib.Omega.{arith}
use native.Mathlib.Numerals.{add-one}
use mathlib.Core.Path.{◌≡◌, refl, sym, ap, ◌∙◌}
use mathlib.Core.Bool.{Bool, true, false, ◌&&◌, and-true}
use lib.Dec.{eqb}
use Rattle.std.specs.List.{list_all, range_with_len}
use Rattle.spec_policy.specs.Bytes.{Bytes}
use Rattle.spec_turns.specs.Saved.{zeros_at, zeros_up_to}

turned : (t l z : Bool) → ((t && l) && z) ≡ (l && (t && z))
turned true l z = refl
turned false true z = refl
turned false false z = refl

module _ (bs : Bytes) where
  abbrev pub zeros : ℕ → Bool
  zeros i = eqb (zeros_at bs i) 0

  one-more : (i : ℕ) → zeros_up_to bs (i + 1) ≡ (zeros i && zeros_up_to bs i)
  unfolding zeros_up_to
  one-more i = ap (zeros_up_to bs) (add-one i)

  zeros-from : (i n : ℕ) → (list_all zeros (range_with_len i n) && zeros_up_to bs i) ≡ zeros_up_to bs (i + n)
  zeros-from i zero = let e : i ≡ i + 0 = omega arith in ap (zeros_up_to bs) e
  zeros-from i (suc n) =
      let e : i + 1 + n ≡ i + suc n = omega arith in
      turned (zeros i) (list_all zeros (range_with_len (i + 1) n)) (zeros_up_to bs i)
      ∙ ap (λ (b : Bool). list_all zeros (range_with_len (i + 1) n) && b) (sym (one-more i))
      ∙ zeros-from (i + 1) n
      ∙ ap (zeros_up_to bs) e

  -- tested from the first on
  pub zeros-all : (n : ℕ) → list_all zeros (range_with_len 0 n) ≡ zeros_up_to bs n
  unfolding zeros_up_to
  zeros-all n =
      let e : 0 + n ≡ n = omega arith in
      sym (and-true (list_all zeros (range_with_len 0 n))) ∙ zeros-from 0 n ∙ ap (zeros_up_to bs) e
