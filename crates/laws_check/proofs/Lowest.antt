-- What is found first is the lowest record that breaks its rule: rules 4, 5, 6, 9 and 10.
use Prim.Native.Nat.{ℕ, ◌<◌}
use native.Mathlib.Omega.{arith}
use mathlib.Core.Path.{◌≡◌, refl, sym, ap, ◌∙◌, subst}
use mathlib.Core.Logic.{◌⊎◌, inl, inr}
use mathlib.Core.Bool.{Bool, true, false, ◌&&◌, not}
use mathlib.Core.List.{List, map}
use lib.Dec.{T, eqb, leb, leb→le}
use lib.ListN.{length, get_or}
use borrow.Author.Tests.{eqb-true, eqb-false, leb-false}
use Rattle.actions.proofs.Tests.{no_of, not-not}
use Rattle.spec_policy.specs.Bytes.{Bytes}
use Rattle.spec_policy.specs.Lists.{summed, every_at}
use Rattle.spec_policy.specs.Spots.{Spot, nowhere, on_record, somewhere, or_else, first_off}
use Rattle.spec_policy.specs.Records.{Node, StepRecord, node_at, node_place, step_record_at, step_place, node_count, step_count, nodes, step_records}
use Rattle.spec_policy.specs.Steps.{Step, halt}
use Rattle.spec_policy.specs.Tree.{node_kind, steps_owned, tree_at}
use Rattle.spec_policy.proofs.ListLaws.{listed-length, listed_at, every_at-from-0}
use Rattle.spec_policy.proofs.SpotLaws.{FirstOff, LowestOff, off-or-every, first-off, lowest-off}
use Rattle.spec_policy.proofs.NodeLaws.{no_n, nodes-length, node_of}
use Rattle.spec_check.specs.Layout.{node_fits, step_fits, wrong4}
use Rattle.spec_check.specs.Children.{later, one_parent, wrong5}
use Rattle.spec_check.specs.Targets.{leads_well, wrong6}
use Rattle.spec_check.specs.Interference.{crossed, wrong9}
use Rattle.spec_check.specs.Spread.{spread, wrong10}
use Rattle.laws_check.specs.Offends.{LowestOf, Offends4, node-off, step-off, Offends5, StepOff, Off6, Offends6, sum-off, leads-off, Offends9, Offends10}
use Rattle.laws_check.proofs.LeafSpots.{Finds, lowest_step}

-- ---- lists

-- none is found: all pass
pub none-off : {A : Type 0} (f : ℕ → A → Bool) (xs : List A) (none : A) → first_off f 0 xs ≡ nowhere → (q : ℕ) → q < length xs → T (f q (get_or xs q none))
unfolding somewhere
none-off f xs none h q l = every_at-from-0 f xs none (not-not (every_at f 0 xs) (sym (off-or-every f 0 xs) ∙ ap somewhere h)) q l

-- what is first of a leaf's steps: where the test of a step says just what is wrong
pub finds-off : (f : ℕ → Step → Bool) (code : List Step) (Off : ℕ → Type 0) → ((o : ℕ) → o < length code → f o (get_or code o halt) ≡ false → Off o)
    → ((o : ℕ) → o < length code → T (f o (get_or code o halt)) → Off o → ⊥) → Finds (first_off f 0 code) (length code) Off
finds-off f code Off to from = record {
  first = λ o h.
      let r = lowest-off f code halt o h in
      (r.inside, to o r.inside r.fails, λ q l u. from q (omega (arith, r.inside)) (r.before q l) u);
  none = λ h q l u. from q l (none-off f code halt h q l) u;
}

module _ (file : Bytes) where
  step-records-length : length (step_records file) ≡ step_count file
  unfolding step_records
  step-records-length = listed-length (λ i. step_record_at file (step_place file i)) 0 (step_count file)

  abbrev no_step : StepRecord
  no_step = record { kind = 0; action = 0; first = 0; second = 0; operand = 0 }

  step_of : (i : ℕ) → i < step_count file → get_or (step_records file) i no_step ≡ step_record_at file (step_place file i)
  unfolding step_records
  step_of i h = listed_at (λ i. step_record_at file (step_place file i)) 0 (step_count file) no_step i h ∙ ap (λ (k : ℕ). step_record_at file (step_place file k)) (omega arith)

  -- ---- 4

  abbrev node-test : ℕ → Node → Bool
  node-test i x = node_fits (node_kind x.kind) x

  node-passes : (i : ℕ) → i < node_count file → T (node-test i (get_or (nodes file) i no_n)) → node-test i (node_at file (node_place i)) ≡ false → ⊥
  node-passes i l t e = subst T e (subst (λ (x : Node). T (node-test i x)) (node_of file i l) t)

  step-passes : (i : ℕ) → i < step_count file → T (step_fits (get_or (step_records file) i no_step)) → step_fits (step_record_at file (step_place file i)) ≡ false → ⊥
  step-passes i l t e = subst T e (subst (λ (x : StepRecord). T (step_fits x)) (step_of i l) t)

  pub lowest-4 : (p : ℕ) → wrong4 file ≡ on_record p → LowestOf (Offends4 file) p
  unfolding wrong4 or_else
  lowest-4 p h = go (first_off node-test 0 (nodes file)) refl h
    where
      n : length (nodes file) ≡ node_count file
      n = nodes-length file

      by-node : LowestOff node-test (nodes file) no_n p → LowestOf (Offends4 file) p
      by-node r = record {
        offends = node-off p (omega (arith, r.inside, n)) (subst (λ (x : Node). node-test p x ≡ false) (node_of file p (omega (arith, r.inside, n))) r.fails);
        below = low;
      }
        where
          low : (q : ℕ) → q < p → Offends4 file q → ⊥
          low q l (node-off i k e) = node-passes q k (r.before q l) e
          low q l (step-off i k e) = omega (arith, r.inside, n)

      by-step : ((q : ℕ) → q < length (nodes file) → T (node-test q (get_or (nodes file) q no_n))) → FirstOff (λ i x. step_fits x) (node_count file) (step_records file) no_step p → LowestOf (Offends4 file) p
      by-step all r =
          let m : r.offset < step_count file = omega (arith, r.inside, step-records-length) in
          record {
            offends = subst (Offends4 file) (sym r.number) (step-off r.offset m (subst (λ (x : StepRecord). step_fits x ≡ false) (step_of r.offset m) r.fails));
            below = low;
          }
        where
          low : (q : ℕ) → q < p → Offends4 file q → ⊥
          low q l (node-off i k e) = node-passes q k (all q (omega (arith, n))) e
          low q l (step-off i k e) = step-passes i k (r.before i (omega (arith, r.number))) e

      go : (w : Spot) → first_off node-test 0 (nodes file) ≡ w → or_else w (first_off (λ i x. step_fits x) (node_count file) (step_records file)) ≡ on_record p → LowestOf (Offends4 file) p
      go nowhere e u = by-step (none-off node-test (nodes file) no_n e) (first-off (λ i x. step_fits x) (node_count file) (step_records file) no_step p u)
      go (on_record i) e u = by-node (lowest-off node-test (nodes file) no_n p (e ∙ u))

  -- ---- 5, 9 and 10: a test of each node

  module _ (f : ℕ → Node → Bool) (Off : ℕ → Type 0) (to : (i : ℕ) → i < node_count file → f i (node_at file (node_place i)) ≡ false → Off i)
      (from : (i : ℕ) → Off i → (i < node_count file) × (f i (node_at file (node_place i)) ≡ false)) where
    lowest-node : (p : ℕ) → first_off f 0 (nodes file) ≡ on_record p → LowestOf Off p
    lowest-node p h =
        let r = lowest-off f (nodes file) no_n p h in
        let l : p < node_count file = omega (arith, r.inside, nodes-length file) in
        record {
          offends = to p l (subst (λ (x : Node). f p x ≡ false) (node_of file p l) r.fails);
          below = λ q k u. subst T (from q u).1 (subst (λ (x : Node). T (f q x)) (node_of file q (from q u).0) (r.before q k));
        }

  and-off : (a b : Bool) → (a && b) ≡ false → (a ≡ false) ⊎ (b ≡ false)
  and-off true b e = inr e
  and-off false b e = inl refl

  off-and : (a b : Bool) → (a ≡ false) ⊎ (b ≡ false) → (a && b) ≡ false
  off-and true b (inl e) = absurd (subst T e tt)
  off-and true b (inr e) = e
  off-and false b e = refl

  pub lowest-5 : (p : ℕ) → wrong5 file ≡ on_record p → LowestOf (Offends5 file) p
  unfolding wrong5
  lowest-5 =
      lowest-node (λ i x. later (node_count file) i x && one_parent (nodes file) i) (Offends5 file)
      (λ i l e. record { inside = l; off = and-off (later (node_count file) i (node_at file (node_place i))) (one_parent (nodes file) i) e })
      (λ i u. (u.inside, off-and (later (node_count file) i (node_at file (node_place i))) (one_parent (nodes file) i) u.off))

  not-off : (b : Bool) → not b ≡ false → b ≡ true
  not-off true e = refl
  not-off false e = absurd (subst T e tt)

  pub lowest-9 : (p : ℕ) → wrong9 file ≡ on_record p → LowestOf (Offends9 file) p
  unfolding wrong9
  lowest-9 =
      lowest-node (λ i x. not (crossed (tree_at file i))) (Offends9 file) (λ i l e. record { inside = l; off = not-off (crossed (tree_at file i)) e })
      (λ i u. (u.inside, ap not u.off))

  pub lowest-10 : (p : ℕ) → wrong10 file ≡ on_record p → LowestOf (Offends10 file) p
  unfolding wrong10
  lowest-10 =
      lowest-node (λ i x. leb (spread (tree_at file i)) 255) (Offends10 file) (λ i l e. record { inside = l; off = leb-false (spread (tree_at file i)) 255 e })
      (λ i u. (u.inside, no_of (leb (spread (tree_at file i)) 255) (λ t. omega (arith, leb→le (spread (tree_at file i)) 255 t, u.off))))

  -- ---- 6

  pub lowest-6 : (p : ℕ) → wrong6 file ≡ on_record p → LowestOf (Offends6 file) p
  unfolding wrong6 Off6
  lowest-6 p h = go (eqb (summed (map steps_owned (nodes file))) (step_count file)) refl
    where
      go : (b : Bool) → eqb (summed (map steps_owned (nodes file))) (step_count file) ≡ b → LowestOf (Offends6 file) p
      go false e =
          let u : on_record 0 ≡ on_record p = rw (e, wrong6) at h in
          let z : 0 ≡ p = cc in
          record { offends = subst (Offends6 file) z (sum-off (eqb-false (summed (map steps_owned (nodes file))) (step_count file) e)); below = λ q l o. omega arith }
      go true e =
          let s : summed (map steps_owned (nodes file)) ≡ step_count file = eqb-true (summed (map steps_owned (nodes file))) (step_count file) e in
          let r = lowest_step file (λ r code. first_off (leads_well r code) 0 code) Off6 (λ i k. finds-off (leads_well _ _) _ (Off6 _ _) (λ o l u. u) (λ o l t u. subst T u t)) p (rw (e, wrong6) at h) in
          record { offends = leads-off s r.offends; below = low s r }
        where
          low : summed (map steps_owned (nodes file)) ≡ step_count file → LowestOf (StepOff file Off6) p → (q : ℕ) → q < p → Offends6 file q → ⊥
          low s r q l (sum-off n) = n s
          low s r q l (leads-off t o) = r.below q l o
