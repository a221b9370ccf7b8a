-- A phase of a passed policy runs at most 523,776 steps, whatever the state.
use Prim.Native.Nat.{ℕ, zero, suc, ◌+◌, ◌*◌, ◌≤◌, ◌<◌, zero-le}
use native.Mathlib.Nat.{add-mul, mul_left_comm, mul-le-mul, mul-le-mul_left, le-mul_of_pos_right}
use native.Mathlib.Omega.{arith}
use mathlib.Core.Path.{◌≡◌, refl, sym, ap, ap₂, subst}
use mathlib.Core.Logic.{◌⊎◌, inl, inr}
use mathlib.Core.Bool.{Bool, true, false, ◌||◌}
use lib.Dec.{T, eqb, eqb_refl}
use lib.ListN.{length}
use Rattle.actions.proofs.Tests.{yes_of, or_left, or_right, true-not-false}
use Rattle.spec_policy.specs.Bytes.{Bytes}
use Rattle.spec_policy.specs.Lists.{one}
use Rattle.spec_policy.specs.Records.{node_count}
use Rattle.spec_policy.specs.Tree.{parallel, sequential, Tree, leaf, trivial, unsatisfiable, node, tree}
use Rattle.spec_check.specs.Spread.{spread, spread_of}
use Rattle.spec_check.proofs.Under.{EachLeaf}
use Rattle.spec_check.specs.Lawful.{holds, Disjoint, Lawful}
use Rattle.laws_check.proofs.LawfulTree.{lawful, numbers-below-nodes, spread-255, leaf-length}
use Rattle.spec_check.specs.Passed.{Passed}
use Rattle.spec_check.proofs.Rows.{counts-fit}
use Rattle.spec_turns.specs.State.{State}
use Rattle.spec_turns.specs.Process.{items, trace}
use Rattle.spec_turns.specs.Turn.{Phase, phase}
use Rattle.spec_turns.specs.Events.{steps_run}
use Rattle.laws_turns.proofs.Steps.{step-prices, steps-count}
use Rattle.laws_turns.proofs.Costs.{cost, phase-cost}
use Rattle.spec_policy.proofs.ListLaws.{one-most}

-- ---- the leaves: each has a number of its own

leaves : Tree → ℕ
leaves (leaf i r c code) = 1
leaves (trivial i) = 0
leaves (unsatisfiable i) = 0
leaves (node w j i l r) = leaves l + leaves r

-- how many numbers below n pass the test
tally : (ℕ → Bool) → ℕ → ℕ
tally f zero = 0
tally f (suc n) = one (f 0) + tally (λ k. f (suc k)) n

tally-most : (f : ℕ → Bool) (n : ℕ) → tally f n ≤ n
unfolding tally
tally-most f zero = zero-le
tally-most f (suc n) = omega (arith, one-most (f 0), tally-most (λ k. f (suc k)) n)

tally-some : (f : ℕ → Bool) (i n : ℕ) → i < n → T (f i) → 1 ≤ tally f n
unfolding tally one
tally-some f i zero h t = absurd (omega arith)
tally-some f zero (suc n) h t = omega (arith, ap one (yes_of (f 0) t))
tally-some f (suc i) (suc n) h t = omega (arith, tally-some (λ k. f (suc k)) i n (omega arith) t)

tally-two : (f g h : ℕ → Bool) → ((k : ℕ) → one (f k) + one (g k) ≤ one (h k)) → (n : ℕ) → tally f n + tally g n ≤ tally h n
unfolding tally
tally-two f g h e zero = zero-le
tally-two f g h e (suc n) = omega (arith, e 0, tally-two (λ k. f (suc k)) (λ k. g (suc k)) (λ k. h (suc k)) (λ k. e (suc k)) n)

one_each : (a p q : Bool) → (p ≡ false) ⊎ (q ≡ false) → one p + one q ≤ one (a || (p || q))
unfolding one
one_each true p q (inl e) = omega (arith, ap one e, one-most q)
one_each true p q (inr e) = omega (arith, ap one e, one-most p)
one_each false true q (inl e) = true-not-false refl e
one_each false true q (inr e) = omega (arith, ap one e)
one_each false false q e = omega arith

leaves-tally : (t : Tree) → Lawful t → (n : ℕ) → ((k : ℕ) → T (holds t k) → k < n) → leaves t ≤ tally (holds t) n
unfolding leaves Lawful Disjoint holds
leaves-tally (leaf i r c code) h n b = tally-some (eqb i) i n (b i (eqb_refl i)) (eqb_refl i)
leaves-tally (trivial i) h n b = zero-le
leaves-tally (unsatisfiable i) h n b = zero-le
leaves-tally (node w j i l r) h n b =
    omega (
      arith,
      leaves-tally l h.0 n (λ k u. b k (or_right (eqb i k) (holds l k || holds r k) (or_left (holds l k) (holds r k) u))),
      leaves-tally r h.1 n (λ k u. b k (or_right (eqb i k) (holds l k || holds r k) (or_right (holds l k) (holds r k) u))),
      tally-two (holds l) (holds r) (holds (node w j i l r)) (λ k. one_each (eqb i k) (holds l k) (holds r k) (h.3.sides k)) n,
    )

-- ---- the steps: a leaf's turns are at most one more than the tree's spread, and each runs at most 66

cost-parallel : (c d m n x y : ℕ) → c ≤ 66 * (m * suc x) → d ≤ 66 * (n * suc y) → c + d ≤ 66 * ((m + n) * suc (x + y))
cost-parallel c d m n x y h k =
    let l : suc x ≤ suc (x + y) = omega arith in
    let r : suc y ≤ suc (x + y) = omega arith in
    omega (arith, mul-le-mul_left m l, mul-le-mul_left n r, add-mul m n (suc (x + y)))

cost-sequential : (c d m n x y : ℕ) → c ≤ 66 * (m * suc x) → d ≤ 66 * (n * suc y) → c + suc x * d ≤ 66 * ((m + n) * suc (spread_of sequential x y))
unfolding spread_of
cost-sequential c d m n x y h k =
    let p : ℕ = suc x * suc y in
    let l : suc x ≤ p = le-mul_of_pos_right (suc x) (omega arith) in
    let x₁ : 1 + x ≡ suc x = omega arith in
    let y₁ : 1 + y ≡ suc y = omega arith in
    let e : suc (spread_of sequential x y) ≡ p = omega (arith, ap₂ (λ (a b : ℕ). a * b) x₁ y₁) in
    let b : c + suc x * d ≤ 66 * ((m + n) * p) =
    omega (
      arith,
      mul-le-mul_left m l,
      mul-le-mul_left (suc x) k,
      mul_left_comm (suc x) 66 (n * suc y),
      mul_left_comm (suc x) n (suc y),
      add-mul m n p,
    ) in
    subst (λ (q : ℕ). c + suc x * d ≤ 66 * ((m + n) * q)) (sym e) b

cost-leaves : (t : Tree) → EachLeaf (λ i s c code. (1 ≤ length code) × (length code ≤ 64)) t → cost t 1 0 ≤ 66 * (leaves t * suc (spread t))
unfolding EachLeaf cost leaves spread spread_of
cost-leaves (leaf i r c code) h = omega (arith, step-prices code, h.1)
cost-leaves (trivial i) h = zero-le
cost-leaves (unsatisfiable i) h = zero-le
cost-leaves (node parallel j i l r) h =
    cost-parallel (cost l 1 0) (cost r 1 0) (leaves l) (leaves r) (spread l) (spread r) (cost-leaves l h.0) (cost-leaves r h.1)
cost-leaves (node sequential j i l r) h =
    cost-sequential (cost l 1 0) (cost r 1 0) (leaves l) (leaves r) (spread l) (spread r) (cost-leaves l h.0) (cost-leaves r h.1)

module _ (file : Bytes) (passed : Passed file) where
  few-leaves : leaves (tree file) ≤ 31
  few-leaves =
      omega (
        arith,
        leaves-tally (tree file) (lawful file passed) (node_count file) (numbers-below-nodes file passed),
        tally-most (holds (tree file)) (node_count file),
        (counts-fit file passed.kept3).few-nodes,
      )

  low-cost : cost (tree file) 1 0 ≤ 523776
  low-cost =
      let s : suc (spread (tree file)) ≤ 256 = omega (arith, spread-255 file passed) in
      omega (arith, cost-leaves (tree file) (leaf-length file passed), mul-le-mul few-leaves s)

  pub phase-work : (ph : Phase) (s : State) → steps_run (items (trace (phase (tree file) ph s))) ≤ 523776
  phase-work ph s = omega (arith, steps-count (phase (tree file) ph s), phase-cost 1 0 0 (tree file) (lawful file passed) ph s, low-cost)

  -- so that they can be counted
  pub phase-steps : (ph : Phase) (s : State) → steps_run (items (trace (phase (tree file) ph s))) < 18446744073709551616
  phase-steps ph s = omega (arith, phase-work ph s)
