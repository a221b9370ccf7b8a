-- The rules in order: the answer at the first that is broken, and the answer where none is.
use Prim.Native.Nat.{ℕ, ◌≤◌}
use native.Mathlib.Omega.{arith}
use mathlib.Core.Path.{◌≡◌, refl, sym, ◌∙◌, ap, ap₂, subst}
use mathlib.Core.Bool.{Bool, true, false, ◌||◌, not}
use mathlib.Core.List.{List, map}
use lib.Dec.{T, eqb, ltb, nltb→le}
use lib.ListN.{length, get_or}
use Rattle.std.specs.Prelude.{Option, Some, Result, Ok, Err}
use Rattle.actions.proofs.Tests.{or-false-left}
use Rattle.spec_policy.specs.Bytes.{Bytes}
use Rattle.spec_policy.specs.Lists.{summed, every}
use Rattle.spec_policy.specs.Spots.{Spot, on_record}
use Rattle.spec_policy.specs.Records.{node_count, step_count, length_field, nodes, step_records}
use Rattle.spec_policy.specs.Tree.{steps_owned, regulated}
use Rattle.spec_check.specs.Layout.{step_fits, broken1, broken2, broken3, broken4}
use Rattle.spec_check.specs.Children.{broken5}
use Rattle.spec_check.specs.Targets.{broken6}
use Rattle.spec_check.specs.Modes.{broken7}
use Rattle.spec_check.specs.Possible.{broken8}
use Rattle.spec_check.specs.Interference.{effects, broken9}
use Rattle.spec_check.specs.Spread.{broken10}
use Rattle.spec_check.specs.Check.{Answer, passes, refused, rules, check}
use Rattle.spec_check.proofs.Kept.{broken4-is}
use Rattle.spec_check.proofs.Passed.{lowest-refused, passes-all}
use Rattle.spec_check.specs.Passed.{spot_by, fault_by, here, after}
use Rattle.check_layout.specs.Frame.{Framed}
use Rattle.check_layout.specs.Fits.{nodes_fit, unfit_node, kept_or4}
use Rattle.check_layout.proofs.Unfit.{node-first, nodes-not}
use Rattle.faults.specs.declared.Fault.{Fault}
use Rattle.faults.specs.declared.Refusal.{Refusal}
use Rattle.faults.specs.declared.Refusal.TheVariants as refusals
use Rattle.faults.specs.Meaning.{spot_of, fault_of, number_of}
use Rattle.check_layout.proofs.Frame.{framed}
use Rattle.check_policy.specs.Answers.{answered}
use Rattle.check_policy.specs.Kept.{FrontKept, LeavesKept, Sought, Told}
use Rattle.check_leaves.specs.Leaves.{lowest, LeavesFound}
use Rattle.check_leaves.proofs.LeafLaws.{six-sum, six-leaves}
use Rattle.check_interference.specs.Sets.{Treed, RegulatedFrom, EffectsFrom}
use Rattle.check_interference.proofs.TreeSets.{top-is}

module _ (file : Bytes) where
  -- the refusal of a rule, with its record
  abbrev pub told : ℕ → Answer
  told rule = refused (fault_by file rule)

  pub long-enough : broken1 file ≡ false → 6 ≤ length file
  unfolding broken1
  long-enough e =
      nltb→le (length file) 6
      (subst (λ (b : Bool). T (not b)) (sym (or-false-left (ltb (length file) 6) (not (eqb (length_field file) (length file))) e)) tt)

  pub front_kept : broken1 file ≡ false → broken2 file ≡ false → broken3 file ≡ false → (n m : ℕ) → n ≡ node_count file → m ≡ step_count file → FrontKept file n m
  front_kept a b c n m e f = record {
    frame = subst (λ (k : ℕ). Framed file k m) (sym e) (subst (λ (k : ℕ). Framed file (node_count file) k) (sym f) (framed file c));
    one = a;
    two = b;
    three = c;
  }

  pub refused-1 : broken1 file ≡ true → told 1 ≡ check file
  unfolding rules spot_by
  refused-1 e = sym (lowest-refused file (fault_by file 1) (here e refl))

  pub refused-2 : broken1 file ≡ false → broken2 file ≡ true → told 2 ≡ check file
  unfolding rules spot_by
  refused-2 a e = sym (lowest-refused file (fault_by file 2) (after a (here e refl)))

  pub refused-3 : broken1 file ≡ false → broken2 file ≡ false → broken3 file ≡ true → told 3 ≡ check file
  unfolding rules spot_by
  refused-3 a b e = sym (lowest-refused file (fault_by file 3) (after a (after b (here e refl))))

  module _ {n m : ℕ} (k : FrontKept file n m) where
    refused-4 : broken4 file ≡ true → told 4 ≡ check file
    unfolding rules spot_by
    refused-4 e = sym (lowest-refused file (fault_by file 4) (after k.one (after k.two (after k.three (here e refl)))))

    refused-5 : broken4 file ≡ false → broken5 file ≡ true → told 5 ≡ check file
    unfolding rules spot_by
    refused-5 a e = sym (lowest-refused file (fault_by file 5) (after k.one (after k.two (after k.three (after a (here e refl))))))

    refused-6 : broken4 file ≡ false → broken5 file ≡ false → broken6 file ≡ true → told 6 ≡ check file
    unfolding rules spot_by
    refused-6 a b e = sym (lowest-refused file (fault_by file 6) (after k.one (after k.two (after k.three (after a (after b (here e refl)))))))

    refused-7 : broken4 file ≡ false → broken5 file ≡ false → broken6 file ≡ false → broken7 file ≡ true → told 7 ≡ check file
    unfolding rules spot_by
    refused-7 a b c e = sym (lowest-refused file (fault_by file 7) (after k.one (after k.two (after k.three (after a (after b (after c (here e refl))))))))

    refused-8 : broken4 file ≡ false → broken5 file ≡ false → broken6 file ≡ false → broken7 file ≡ false → broken8 file ≡ true → told 8 ≡ check file
    unfolding rules spot_by
    refused-8 a b c d e =
        sym (lowest-refused file (fault_by file 8) (after k.one (after k.two (after k.three (after a (after b (after c (after d (here e refl)))))))))

    -- rule 4 by its two parts
    pub by_parts : {b : Bool} → nodes_fit file ≡ b → broken4 file ≡ (not b || not (every step_fits (step_records file)))
    unfolding nodes_fit
    by_parts e = broken4-is file ∙ ap (λ (x : Bool). not x || not (every step_fits (step_records file))) e

    pub refused-node : (f : Fault) (x : Option ℕ) {p : ℕ} → fault_of f ≡ record { number = 4; spot = spot_of x } → spot_of x ≡ unfit_node file → x ≡ Some p
        → answered (Err f) ≡ check file
    unfolding answered spot_by spot_of
    refused-node f x e u h =
        let v : on_record _ ≡ unfit_node file = sym (ap spot_of h) ∙ u in
        ap refused (e ∙ ap (λ (q : Spot). record { number = 4; spot = q }) (ap spot_of h ∙ node-first file v)) ∙ refused-4 (by_parts (sym (nodes-not file v)))

    module _ (fits : nodes_fit file ≡ true) where
      sought : (rule : ℕ) → 4 ≤ rule → rule ≤ 8 → (7 ≤ rule → broken6 file ≡ false) → Sought file n m rule
      sought rule low high six = record { frame = k.frame; low = low; high = high; nodes-fit = fits; six-kept = six }

      told-4 : broken4 file ≡ true → Told file n m 4
      told-4 four = record { sought = sought 4 (omega arith) (omega arith) (λ h. absurd (omega (arith, h))); answer = refused-4 four }

      told-5 : broken4 file ≡ false → broken5 file ≡ true → Told file n m 5
      told-5 four five = record { sought = sought 5 (omega arith) (omega arith) (λ h. absurd (omega (arith, h))); answer = refused-5 four five }

      told-6 : broken4 file ≡ false → broken5 file ≡ false → broken6 file ≡ true → Told file n m 6
      told-6 four five six = record { sought = sought 6 (omega arith) (omega arith) (λ h. absurd (omega (arith, h))); answer = refused-6 four five six }

      -- the step records were tested, after a rule was found broken
      pub told-fields : {r : Refusal} → Err r ≡ kept_or4 (every step_fits (step_records file)) → Told file n m (number_of r)
      unfolding kept_or4
      told-fields {r} e = go (every step_fits (step_records file)) (by_parts fits) e
        where
          go : (b : Bool) → broken4 file ≡ not b → Err r ≡ kept_or4 b → Told file n m (number_of r)
          go true four e = absurd cc
          go false four e = let z : refusals.Fields ≡ r = cc in subst (λ (q : Refusal). Told file n m (number_of q)) z (told-4 four)

      fields-kept : {u : Unit {0}} → Ok u ≡ kept_or4 (every step_fits (step_records file)) → broken4 file ≡ false
      unfolding kept_or4
      fields-kept {u} e = go (every step_fits (step_records file)) (by_parts fits) e
        where
          go : (b : Bool) → broken4 file ≡ not b → Ok u ≡ kept_or4 b → broken4 file ≡ false
          go true four e = four
          go false four e = absurd cc

      pub told-child : {u : Unit {0}} → Ok u ≡ kept_or4 (every step_fits (step_records file)) → broken5 file ≡ true → Told file n m 5
      told-child e five = told-5 (fields-kept e) five

      module _ (five : broken5 file ≡ false) where
        pub told-sum : {u : Unit {0}} → Ok u ≡ kept_or4 (every step_fits (step_records file)) → (b : Bool) → b ≡ eqb (summed (map steps_owned (nodes file))) m → b ≡ false → Told file n m 6
        told-sum e b g h = told-6 (fields-kept e) five (six-sum k.frame b g h)

        -- the leaves own all steps, and the walks through them have found this of rules 4, 6, 7 and 8
        module _ (all : summed (map steps_owned (nodes file)) ≡ m) {walked : Result (Unit {0}) Refusal} {effs ins : List ℕ} (found : LeavesFound file n walked effs ins) where
          walked-is : walked ≡ lowest (broken4 file) (broken6 file) (broken7 file) (broken8 file)
          walked-is = let a = sym (by_parts fits) in let b = sym (six-leaves k.frame all) in found.is ∙ λ i. lowest (a i) (b i) (broken7 file) (broken8 file)

          pub told-leaf : {r : Refusal} → walked ≡ Err r → Told file n m (number_of r)
          unfolding lowest
          told-leaf {r} e = go (broken4 file) (broken6 file) (broken7 file) (broken8 file) refl refl refl refl (sym walked-is ∙ e)
            where
              known : {q : Refusal} → q ≡ r → Told file n m (number_of q) → Told file n m (number_of r)
              known z t = subst (λ (q : Refusal). Told file n m (number_of q)) z t

              go : (four six seven eight : Bool) → broken4 file ≡ four → broken6 file ≡ six → broken7 file ≡ seven → broken8 file ≡ eight
                  → lowest four six seven eight ≡ Err r → Told file n m (number_of r)
              go true six seven eight a b c d e = let z : refusals.Fields ≡ r = cc in known z (told-4 a)
              go false true seven eight a b c d e = let z : refusals.Targets ≡ r = cc in known z (told-6 a five b)
              go false false true eight a b c d e =
                  let z : refusals.Modes ≡ r = cc in
                  known z (record { sought = sought 7 (omega arith) (omega arith) (λ h. b); answer = refused-7 a five b c })
              go false false false true a b c d e =
                  let z : refusals.Branches ≡ r = cc in
                  known z (record { sought = sought 8 (omega arith) (omega arith) (λ h. b); answer = refused-8 a five b c d })
              go false false false false a b c d e = absurd cc

          pub leaves_kept : walked ≡ Ok tt → LeavesKept file n m
          unfolding lowest
          leaves_kept none = go (broken4 file) (broken6 file) (broken7 file) (broken8 file) refl refl refl refl (sym walked-is ∙ none)
            where
              go : (four six seven eight : Bool) → broken4 file ≡ four → broken6 file ≡ six → broken7 file ≡ seven → broken8 file ≡ eight
                  → lowest four six seven eight ≡ Ok tt → LeavesKept file n m
              go true six seven eight a b c d e = absurd cc
              go false true seven eight a b c d e = absurd cc
              go false false true eight a b c d e = absurd cc
              go false false false true a b c d e = absurd cc
              go false false false false a b c d e = record { front = k; four = a; five = five; six = b; seven = c; eight = d }

  module _ {n m : ℕ} (k : LeavesKept file n m) where
    pub treed : Treed file n m
    treed = record { frame = k.front.frame; four = k.four; five = k.five; six = k.six }

    pub refused-9 : broken9 file ≡ true → told 9 ≡ check file
    unfolding rules spot_by
    refused-9 e =
        sym (lowest-refused file (fault_by file 9)
        (after k.front.one (after k.front.two (after k.front.three (after k.four (after k.five
        (after k.six (after k.seven (after k.eight (here e refl))))))))))

    pub refused-10 : broken9 file ≡ false → broken10 file ≡ true → told 10 ≡ check file
    unfolding rules spot_by
    refused-10 a e =
        sym (lowest-refused file (fault_by file 10)
        (after k.front.one (after k.front.two (after k.front.three (after k.four (after k.five
        (after k.six (after k.seven (after k.eight (after a (here e refl)))))))))))

    pub all-kept : broken9 file ≡ false → broken10 file ≡ false → (regs effs : List ℕ) → RegulatedFrom file 0 n regs → EffectsFrom file 0 n effs
        → passes (get_or regs 0 0) (get_or effs 0 0) ≡ check file
    all-kept a b regs effs r e =
        ap₂ passes (top-is regulated k.front.frame r) (top-is effects k.front.frame e)
        ∙ sym (passes-all file (record {
          kept1 = k.front.one;
          kept2 = k.front.two;
          kept3 = k.front.three;
          kept4 = k.four;
          kept5 = k.five;
          kept6 = k.six;
          kept7 = k.seven;
          kept8 = k.eight;
          kept9 = a;
          kept10 = b;
        }))
