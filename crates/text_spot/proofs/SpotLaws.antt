-- Laws of which record a refusal is about, and of the leaf that a step belongs to.
use Prim.Native.Nat.{ℕ, ◌+◌, ◌-◌, ◌*◌, ◌/◌, ◌≤◌, ◌<◌}
use native.Mathlib.Numerals.{add-one}
use native.Mathlib.Omega.{arith}
use mathlib.Core.Path.{◌≡◌, sym, ap, ap₂, ◌∙◌}
use mathlib.Core.List.{List, ◌∷◌}
use borrow.Author.Tests.{lt-ltb, le-ltb, eq-eqb, ne_eqb}
use lib.ListN.{length}
use Rattle.spec_policy.specs.Bytes.{Bytes}
use Rattle.spec_policy.specs.Lists.{listed}
use Rattle.spec_policy.specs.Records.{Node, node_at, node_size}
use Rattle.spec_policy.specs.Spots.{fault_on}
use Rattle.spec_policy.proofs.ListLaws.{listed-rest, listed-over}
use Rattle.spec_text.specs.Forms.{node, step}
use Rattle.spec_text.specs.Where.{aRecord, node_or_step, rule_sort, which, no_leaf, leaf_at, owner_from, nodes_held, nodes_spelt}

-- ---- which record

module _ (n p : ℕ) where
  pub is-node : p < n → aRecord node p ≡ node_or_step n p
  unfolding node_or_step
  is-node h = rw (node_or_step, lt-ltb p n h)

  pub is-step : n ≤ p → aRecord step (p - n) ≡ node_or_step n p
  unfolding node_or_step
  is-step h = rw (node_or_step, le-ltb p n h)

  module _ (rule : ℕ) where
    pub by_layout : rule ≡ 4 → node_or_step n p ≡ which n (fault_on rule p)
    unfolding which
    by_layout e = rw (which, eq-eqb rule 4 e)

    pub by_rule : (rule ≡ 4 → ⊥) → aRecord (rule_sort rule) p ≡ which n (fault_on rule p)
    unfolding which
    by_rule m = rw (which, ne_eqb rule 4 m)

-- ---- a step's leaf

module _ (ns : Bytes) (s : ℕ) where
  -- the nodes before node i own what is taken off: the rest is looked for in the others
  pub record Passed (n left i : ℕ) : Type 0 where
    pub inside : i ≤ n
    pub rest : owner_from 0 (nodes_spelt ns) s ≡ owner_from i (listed (λ j. node_at ns (node_size * j)) i (n - i)) left

  pub passed_none : Passed (length ns / node_size) s 0
  unfolding nodes_spelt nodes_held
  passed_none =
      let z : length ns / node_size ≡ length ns / node_size - 0 = omega arith in
      record { inside = omega arith; rest = ap (λ (n : ℕ). owner_from 0 (listed (λ j. node_at ns (node_size * j)) 0 n) s) z }

  module _ (n left i : ℕ) (p : Passed n left i) where
    -- at the next node
    at-node : i < n → owner_from 0 (nodes_spelt ns) s ≡ owner_from i (node_at ns (node_size * i) ∷ listed (λ j. node_at ns (node_size * j)) (i + 1) (n - (i + 1))) left
    at-node h = p.rest ∙ ap (λ (xs : List Node). owner_from i xs left) (listed-rest (λ j. node_at ns (node_size * j)) i n h)

    pub in_leaf : i < n → (count : ℕ) → count ≡ (node_at ns (node_size * i)).count → left < count → leaf_at i left ≡ owner_from 0 (nodes_spelt ns) s
    unfolding owner_from
    in_leaf h count e l = sym (at-node h ∙ rw (owner_from, lt-ltb left (node_at ns (node_size * i)).count (omega (arith, e))))

    pub passed-more : i < n → (count : ℕ) → count ≡ (node_at ns (node_size * i)).count → count ≤ left → Passed n (left - count) (i + 1)
    unfolding owner_from
    passed-more h count e l = record {
      inside = omega arith;
      rest =
          at-node h ∙ rw (owner_from, le-ltb left (node_at ns (node_size * i)).count (omega (arith, e)))
          (ap₂ (λ (k o : ℕ). owner_from k (listed (λ j. node_at ns (node_size * j)) (i + 1) (n - (i + 1))) o) (sym (add-one i)) (ap (λ (k : ℕ). left - k) (sym e)));
    }

    pub in-none : n ≤ i → no_leaf ≡ owner_from 0 (nodes_spelt ns) s
    unfolding owner_from
    in-none h = sym (p.rest ∙ ap (λ (xs : List Node). owner_from i xs left) (listed-over (λ j. node_at ns (node_size * j)) i n h))
