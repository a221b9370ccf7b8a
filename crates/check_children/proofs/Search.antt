-- A loop that looks for the first element that fails a test by its own number, from 0 on.
use Prim.Native.Nat.{ℕ, ◌+◌, ◌≤◌, ◌<◌}
use native.Mathlib.Omega.{arith}
use mathlib.Core.Path.{◌≡◌, ap, ◌∙◌}
use mathlib.Core.Bool.{Bool, true, false}
use Rattle.spec_policy.specs.Lists.{listed}
use Rattle.spec_policy.specs.Spots.{nowhere, on_record, first_off}
use Rattle.spec_policy.proofs.FirstLoop.{Left, all_left, one_less, one_found, none_left}

module _ {A : Type 0} (f : ℕ → A → Bool) (g : ℕ → A) (n : ℕ) where
  -- what is left to look at, from i on
  abbrev pub Looking : ℕ → Type 0
  Looking i = Left f g 0 n i

  pub looking : Looking 0
  looking = all_left f g 0 n

  at_zero : (i : ℕ) {b : Bool} → f i (g i) ≡ b → f (0 + i) (g i) ≡ b
  at_zero i e = let z : 0 + i ≡ i = omega arith in ap (λ (k : ℕ). f k (g i)) z ∙ e

  pub passed : (i : ℕ) → i < n → Looking i → f i (g i) ≡ true → Looking (i + 1)
  passed i h l e = one_less f g 0 n i h l (at_zero i e)

  pub found : (i : ℕ) → i < n → Looking i → f i (g i) ≡ false → on_record i ≡ first_off f 0 (listed g 0 n)
  found i h l e = one_found f g 0 n i i (omega arith) h l (at_zero i e)

  pub none : (i : ℕ) → n ≤ i → Looking i → nowhere ≡ first_off f 0 (listed g 0 n)
  none i h l = none_left f g 0 n i h l
