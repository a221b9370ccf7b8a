-- A refusal's spot is a record of the file.
use Prim.Native.Nat.{ℕ, ◌+◌, ◌<◌}
use native.Mathlib.Omega.{arith}
use mathlib.Core.Path.{◌≡◌, sym, ap, ◌∙◌}
use mathlib.Core.Bool.{Bool, false, not}
use mathlib.Core.List.{List, [], ◌∷◌, map}
use lib.Dec.{eqb, eqb→eq}
use Rattle.actions.specs.Sets.{ActionSet}
use Rattle.actions.proofs.Tests.{not-not, or-false-left}
use Rattle.spec_policy.specs.Bytes.{Bytes}
use Rattle.spec_policy.specs.Lists.{summed}
use Rattle.spec_policy.specs.Records.{node_count, step_count, nodes}
use Rattle.spec_policy.specs.Spots.{Spot, nowhere, on_record, Fault, fault_on}
use Rattle.spec_policy.specs.Steps.{Step}
use Rattle.spec_policy.specs.Tree.{steps_owned, nodes_with_steps}
use Rattle.spec_check.specs.Layout.{CountsFit}
use Rattle.spec_check.specs.Leaves.{every_leaf}
use Rattle.spec_check.specs.Targets.{targets_fit, broken6}
use Rattle.spec_check.specs.Check.{Rule, rules, refused, check}
use Rattle.spec_check.specs.Passed.{Lowest, here, after, Carries, carries-none, carries-one}
use Rattle.spec_check.proofs.Rows.{counts-fit}
use Rattle.spec_check.proofs.Kept.{broken6-is}
use Rattle.spec_check.proofs.Passed.{refused-lowest, refused-carries}
use Rattle.laws_check.specs.Offends.{Offends4, node-off, step-off, StepOff, Offends6, sum-off, leads-off, Off7, Off8, Inside, SmallFault}
use Rattle.laws_check.proofs.LeafSpots.{step-inside}
use Rattle.laws_check.proofs.Lowest.{lowest-4, lowest-5, lowest-6, lowest-9, lowest-10}
use Rattle.laws_check.proofs.Spots.{lowest-7, lowest-8}

module _ (file : Bytes) where
  inside : CountsFit file → (p : ℕ) → p < node_count file + step_count file → Inside file p
  inside c p h = record { of-file = h; small = omega (arith, c.few-nodes, c.few-steps) }

  inside-4 : (p : ℕ) → Offends4 file p → p < node_count file + step_count file
  inside-4 p (node-off i h e) = omega arith
  inside-4 p (step-off i h e) = omega arith

  of-step : (Off : ActionSet → List Step → ℕ → Type 0) → summed (map steps_owned (nodes file)) ≡ step_count file → (p : ℕ) → StepOff file Off p
      → p < node_count file + step_count file
  of-step Off sum p u = omega (arith, step-inside file Off p u)

  inside-6 : CountsFit file → (p : ℕ) → Offends6 file p → p < node_count file + step_count file
  inside-6 c p (sum-off e) = omega (arith, c.some-node)
  inside-6 c p (leads-off sum u) = of-step _ sum p u

  sum_kept : broken6 file ≡ false → summed (map steps_owned (nodes file)) ≡ step_count file
  sum_kept six =
      let sum : Bool = eqb (summed (map steps_owned (nodes file))) (step_count file) in
      eqb→eq (summed (map steps_owned (nodes file))) (step_count file)
      (not-not sum (or-false-left (not sum) (not (every_leaf targets_fit (nodes_with_steps file))) (sym (broken6-is file) ∙ six)))

  -- of rules that are tried one after another: the spot of each, once those before it are kept
  AllInside : List Rule → Type 0
  AllInside [] = Unit {0}
  AllInside (r ∷ rs) = ((p : ℕ) → r.spot file ≡ on_record p → Inside file p) × (r.broken file ≡ false → AllInside rs)

  lowest-inside : (n p : ℕ) (rs : List Rule) → AllInside rs → Lowest file (fault_on n p) rs → Inside file p
  unfolding AllInside
  lowest-inside n p [] t x = elim x [ ]
  lowest-inside n p (r ∷ rs) t (here b e) = t.0 p (ap (λ (f : Fault). f.spot) e)
  lowest-inside n p (r ∷ rs) t (after b l) = lowest-inside n p rs (t.1 b) l

  no-spot : (p : ℕ) → nowhere ≡ on_record p → Inside file p
  no-spot p e = let z : ◌≡◌ {A = ℕ} 0 1 = cc in absurd (omega arith)

  all-inside : AllInside rules
  unfolding AllInside rules
  all-inside = (
    no-spot,
    λ k1. (
      no-spot,
      λ k2. (
        no-spot,
        λ k3.
            let c : CountsFit file = counts-fit file k3 in (
              (λ p e. inside c p (inside-4 p (lowest-4 file p e).offends)),
              λ k4. (
                (λ p e. let u = (lowest-5 file p e).offends in inside c p (omega (arith, u.inside))),
                λ k5. (
                  (λ p e. inside c p (inside-6 c p (lowest-6 file p e).offends)),
                  λ k6. (
                    (λ p e. inside c p (of-step Off7 (sum_kept k6) p (lowest-7 file k6 p e).offends)),
                    λ k7. (
                      (λ p e. inside c p (of-step Off8 (sum_kept k6) p (lowest-8 file p e).offends)),
                      λ k8. (
                        (λ p e. let u = (lowest-9 file p e).offends in inside c p (omega (arith, u.inside))),
                        λ k9.
                            ((λ p e. let u = (lowest-10 file p e).offends in inside c p (omega (arith, u.inside))), λ k10. tt),
                      ),
                    ),
                  ),
                ),
              ),
            ),
      ),
    ),
  )

  pub spots-inside : (n p : ℕ) → check file ≡ refused (fault_on n p) → Inside file p
  spots-inside n p h = lowest-inside n p rules all-inside (refused-lowest file (fault_on n p) h)

  pub small-fault : (f : Fault) → check file ≡ refused f → SmallFault f
  small-fault f h = record {
    number_small = number (refused-carries file f h);
    spot-small = λ p e. omega (arith, (spots-inside f.number p (h ∙ ap (λ (s : Spot). refused (record { number = f.number; spot = s })) e)).small);
  }
    where
      number : Carries f → f.number < 100
      number (carries-none h e) = omega arith
      number (carries-one p g h e) = omega arith
