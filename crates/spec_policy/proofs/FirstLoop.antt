-- A loop that tests g 0, g 1, .. below g n and leaves at the first that fails, with its number, which counts from b on: what it carries
-- along, and what each way out gives.
use Prim.Native.Nat.{ℕ, suc, ◌+◌, ◌-◌, ◌≤◌, ◌<◌}
use native.Mathlib.Omega.{arith}
use mathlib.Core.Path.{◌≡◌, sym, ap, ◌∙◌}
use mathlib.Core.Bool.{Bool, true, false}
use mathlib.Core.List.{List}
use Rattle.spec_policy.specs.Lists.{listed}
use Rattle.spec_policy.specs.Spots.{Spot, nowhere, on_record, first_off}
use Rattle.spec_policy.proofs.ListLaws.{listed-rest, listed-over}

module _ {A : Type 0} (f : ℕ → A → Bool) (g : ℕ → A) (b n : ℕ) where
  -- the first of all is the first of what is left from i on
  pub record Left (i : ℕ) : Type 0 where
    pub within : i ≤ n
    pub rest : first_off f b (listed g 0 n) ≡ first_off f (b + i) (listed g i (n - i))

  pub all_left : Left 0
  all_left =
      let z : n ≡ n - 0 = omega arith in
      let y : b ≡ b + 0 = omega arith in
      record { within = omega arith; rest = λ t. first_off f (y t) (listed g 0 (z t)) }

  -- one step of it
  step : (i : ℕ) → i < n → (e : Bool) → f (b + i) (g i) ≡ e → first_off f (b + i) (listed g i (n - i)) ≡ (elim e as (λ _. Spot) [ true ↦ first_off f (b + (i + 1)) (listed g (i + 1) (n - (i + 1))) | false ↦ on_record (b + i) ])
  unfolding first_off
  step i h e t =
      let z : suc (b + i) ≡ b + (i + 1) = omega arith in
      ap (λ (l : List A). first_off f (b + i) l) (listed-rest g i n h)
      ∙ λ u. elim (t u) as (λ _. Spot) [ true ↦ first_off f (z u) (listed g (i + 1) (n - (i + 1))) | false ↦ on_record (b + i) ]

  pub one_less : (i : ℕ) → i < n → Left i → f (b + i) (g i) ≡ true → Left (i + 1)
  one_less i h l e = record { within = omega arith; rest = l.rest ∙ step i h true e }

  pub one_found : (i p : ℕ) → p ≡ b + i → i < n → Left i → f (b + i) (g i) ≡ false → on_record p ≡ first_off f b (listed g 0 n)
  one_found i p z h l e = ap on_record z ∙ sym (l.rest ∙ step i h false e)

  pub none_left : (i : ℕ) → n ≤ i → Left i → nowhere ≡ first_off f b (listed g 0 n)
  unfolding first_off
  none_left i h l = sym (l.rest ∙ ap (λ (xs : List A). first_off f (b + i) xs) (listed-over g i n h))

-- The same of a loop that goes down from n: the last that it finds is the first.
module _ {A : Type 0} (f : ℕ → A → Bool) (g : ℕ → A) (n : ℕ) where
  -- the first of those from i on
  unfoldable pub first_from : ℕ → Spot
  first_from i = first_off f i (listed g i (n - i))

  pub none_from : (i : ℕ) → n ≤ i → nowhere ≡ first_from i
  unfolding first_from first_off
  none_from i h = sym (ap (λ (l : List A). first_off f i l) (listed-over g i n h))

  pub found_from : (i : ℕ) → i < n → f i (g i) ≡ false → on_record i ≡ first_from i
  unfolding first_from first_off
  found_from i h e =
      sym (ap (λ (l : List A). first_off f i l) (listed-rest g i n h)
      ∙ λ u. elim (e u) as (λ _. Spot) [ true ↦ first_off f (suc i) (listed g (i + 1) (n - (i + 1))) | false ↦ on_record i ])

  pub kept_from : (i : ℕ) → i < n → f i (g i) ≡ true → first_from (i + 1) ≡ first_from i
  unfolding first_from first_off
  kept_from i h e =
      let z : suc i ≡ i + 1 = omega arith in
      sym (ap (λ (l : List A). first_off f i l) (listed-rest g i n h)
      ∙ λ u. elim (e u) as (λ _. Spot) [ true ↦ first_off f (z u) (listed g (i + 1) (n - (i + 1))) | false ↦ on_record i ])

  pub all_from : first_from 0 ≡ first_off f 0 (listed g 0 n)
  unfolding first_from
  all_from = let z : n - 0 ≡ n = omega arith in ap (λ (k : ℕ). first_off f 0 (listed g 0 k)) z
