-- How often a number is named as a child, by the nodes f 0, f 1, .. below f n.
use Prim.Native.Nat.{ℕ, ◌+◌, ◌-◌, ◌*◌, ◌≤◌, ◌<◌}
use native.Mathlib.Omega.{arith}
use mathlib.Core.Path.{◌≡◌, ap}
use mathlib.Core.List.{List}
use Rattle.spec_policy.specs.Lists.{listed, occurs}
use Rattle.spec_policy.specs.Records.{Node}
use Rattle.spec_policy.proofs.ListLaws.{listed-rest, listed-over}
use Rattle.spec_check.specs.Children.{children}
use Rattle.spec_check.proofs.Numbers.{kids, kids-cons}

module _ (f : ℕ → Node) (n k : ℕ) where
  -- before node i: what is counted, and what is left to count
  pub record Naming (sum i : ℕ) : Type 0 where
    pub below : i ≤ n
    pub few : sum ≤ 2 * i
    pub counted : occurs k (children (listed f 0 n)) ≡ sum + occurs k (children (listed f i (n - i)))

  pub naming-start : Naming 0 0
  naming-start =
      let z : n ≡ n - 0 = omega arith in
      record { below = omega arith; few = omega arith; counted = omega (arith, ap (λ (m : ℕ). occurs k (children (listed f 0 m))) z) }

  pub naming-next : (sum i v : ℕ) → i < n → Naming sum i → v ≡ kids k (f i) → v ≤ 2 → Naming (sum + v) (i + 1)
  naming-next sum i v h s e l = record {
    below = omega arith;
    few = omega (arith, s.few);
    counted = omega (arith, s.counted, ap (λ (xs : List Node). occurs k (children xs)) (listed-rest f i n h), kids-cons k (f i) (listed f (i + 1) (n - (i + 1))));
  }

  pub naming-end : (sum i : ℕ) → n ≤ i → Naming sum i → sum ≡ occurs k (children (listed f 0 n))
  unfolding children occurs
  naming-end sum i h s = omega (arith, s.counted, ap (λ (xs : List Node). occurs k (children xs)) (listed-over f i n h))
