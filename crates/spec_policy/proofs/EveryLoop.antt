-- A loop that tests f 0, f 1, .. below f n and leaves at the first that fails: what it carries along, and what each way out gives.
--
use Prim.Native.Nat.{ℕ, ◌+◌, ◌-◌, ◌≤◌, ◌<◌}
use native.Mathlib.Omega.{arith}
use mathlib.Core.Path.{◌≡◌, sym, ap, ◌∙◌}
use mathlib.Core.Bool.{Bool, true, false, ◌&&◌}
use Rattle.spec_policy.specs.Lists.{listed, every}
use Rattle.spec_policy.proofs.ListLaws.{every_rest, every-over}

module _ {A : Type 0} (g : A → Bool) (f : ℕ → A) (n : ℕ) where
  -- the whole test is what is left of it from i on
  pub record Left (i : ℕ) : Type 0 where
    pub within : i ≤ n
    pub rest : every g (listed f 0 n) ≡ every g (listed f i (n - i))

  pub all_left : Left 0
  all_left = let z : n ≡ n - 0 = omega arith in record { within = omega arith; rest = ap (λ (k : ℕ). every g (listed f 0 k)) z }

  pub one_less : (i : ℕ) → i < n → Left i → g (f i) ≡ true → Left (i + 1)
  one_less i h l e =
      record { within = omega arith; rest = l.rest ∙ every_rest g f i n h ∙ ap (λ (b : Bool). b && every g (listed f (i + 1) (n - (i + 1)))) e }

  pub one-fails : (i : ℕ) → i < n → Left i → g (f i) ≡ false → false ≡ every g (listed f 0 n)
  one-fails i h l e = sym (l.rest ∙ every_rest g f i n h ∙ ap (λ (b : Bool). b && every g (listed f (i + 1) (n - (i + 1)))) e)

  pub none_left : (i : ℕ) → n ≤ i → Left i → true ≡ every g (listed f 0 n)
  none_left i h l = sym (l.rest ∙ every-over g f i n h)
