-- "Refusals 4 to 10 shall also carry a place: the lowest-numbered node or step that breaks that rule.": of every refusal of the check.
use Prim.Native.Nat.{ℕ}
use native.Mathlib.Omega.{arith}
use mathlib.Core.Path.{◌≡◌, refl, sym, ◌∙◌, subst}
use mathlib.Core.Logic.{◌⊎◌, inl, inr}
use mathlib.Core.Bool.{Bool, true, false, ◌&&◌, not}
use mathlib.Core.List.{List, map}
use lib.Dec.{T, eqb, ltb}
use borrow.Author.Tests.{ltb-true, ltb-false}
use lib.ListN.{length, get_or}
use Rattle.actions.specs.Sets.{ActionSet, is_empty, common, difference}
use Rattle.actions.proofs.Tests.{not-not, or-false-right}
use Rattle.spec_policy.specs.Bytes.{Bytes}
use Rattle.spec_policy.specs.Lists.{summed}
use Rattle.spec_policy.specs.Records.{step_count, nodes}
use Rattle.spec_policy.specs.Spots.{on_record, first_off, fault_on}
use Rattle.spec_policy.specs.Steps.{Step, next, ok, sup, ins, acase, spend, end, halt}
use Rattle.spec_policy.specs.Tree.{aLeaf, steps_owned, nodes_with_steps}
use Rattle.spec_check.specs.Leaves.{every_leaf}
use Rattle.spec_check.specs.Targets.{targets_fit, broken6}
use Rattle.spec_check.specs.Modes.{marks, mode_fits, wrong7}
use Rattle.spec_check.specs.Possible.{possible, possible_at, branches_taken, wrong8}
use Rattle.spec_check.specs.Check.{refused, check}
use Rattle.laws_check.specs.Offends.{LowestOf, StepOff, Off7, Off8, SpotsLowest}
use Rattle.spec_check.specs.Numbers.{node_in, node_steps_in, kind_in}
use Rattle.spec_check.proofs.Rows.{leaf-at}
use Rattle.spec_check.proofs.Kept.{broken6-is}
use Rattle.laws_check.proofs.LeafSpots.{Finds, lowest_step}
use Rattle.laws_check.proofs.Lowest.{finds-off, lowest-4, lowest-5, lowest-6, lowest-9, lowest-10}
use Rattle.spec_check.specs.Passed.{breaks, spot_by}
use Rattle.spec_check.proofs.Passed.{refused-number}
use Rattle.laws_check.proofs.Rule7.{one-mode, one-mode-back}

-- ---- rule 7, as the paper says it

module _ (r : ActionSet) (code : List Step) (six : T (targets_fit r code)) where
  finds-7 : Finds (first_off (mode_fits (marks code)) 0 code) (length code) (Off7 r code)
  unfolding Off7
  finds-7 =
      finds-off (mode_fits (marks code)) code (Off7 r code) (λ o l e u. subst T e (one-mode-back r code six o u))
      (λ o l t u. u (one-mode r code six o t))

module _ (file : Bytes) (six : broken6 file ≡ false) where
  targets-fit : T (every_leaf targets_fit (nodes_with_steps file))
  targets-fit =
      not-not (every_leaf targets_fit (nodes_with_steps file))
      (or-false-right (not (eqb (summed (map steps_owned (nodes file))) (step_count file))) (not (every_leaf targets_fit (nodes_with_steps file))) (sym (broken6-is file) ∙ six))

  fit : (i : ℕ) → kind_in (nodes_with_steps file) i ≡ aLeaf → T (targets_fit (node_in (nodes_with_steps file) i).set (node_steps_in (nodes_with_steps file) i).steps)
  fit i e = leaf-at targets_fit (nodes_with_steps file) i targets-fit e

  pub lowest-7 : (p : ℕ) → wrong7 file ≡ on_record p → LowestOf (StepOff file Off7) p
  unfolding wrong7
  lowest-7 p h =
      lowest_step file (λ r code. first_off (mode_fits (marks code)) 0 code) Off7
      (λ i e. finds-7 (node_in (nodes_with_steps file) i).set (node_steps_in (nodes_with_steps file) i).steps (fit i e)) p h

-- ---- rule 8

module _ (r : ActionSet) (code : List Step) where
  module _ (o : ℕ) where
    either : (a b : Bool) → (not a && not b) ≡ false → T a ⊎ T b
    either true b e = inl tt
    either false true e = inr tt
    either false false e = absurd (subst T e tt)

    neither : (a b : Bool) → T (not a && not b) → T a ⊎ T b → ⊥
    neither true b h k = h
    neither false true h k = h
    neither false false h (inl k) = k
    neither false false h (inr k) = k

    to-8 : (k : Step) → get_or code o halt ≡ k → branches_taken (possible r code) o k ≡ false → Off8 r code o
    unfolding branches_taken possible_at
    to-8 (next t d) e h = absurd (subst T h tt)
    to-8 (ok t) e h = absurd (subst T h tt)
    to-8 (sup t) e h = absurd (subst T h tt)
    to-8 (ins b t) e h = absurd (subst T h tt)
    to-8 (acase s y z) e h =
        record { set = s; yes = y; no = z; asks = e; untaken = either (is_empty (common (possible_at r code o) s)) (is_empty (difference (possible_at r code o) s)) h }
    to-8 (spend n y z) e h = absurd (subst T h tt)
    to-8 end e h = absurd (subst T h tt)
    to-8 halt e h = absurd (subst T h tt)

    from-8 : T (branches_taken (possible r code) o (get_or code o halt)) → Off8 r code o → ⊥
    unfolding branches_taken possible_at
    from-8 t u =
        neither (is_empty (common (possible_at r code o) u.set)) (is_empty (difference (possible_at r code o) u.set))
        (subst (λ (k : Step). T (branches_taken (possible r code) o k)) u.asks t) u.untaken

  finds-8 : Finds (first_off (branches_taken (possible r code)) 0 code) (length code) (Off8 r code)
  finds-8 = finds-off (branches_taken (possible r code)) code (Off8 r code) (λ o l e. to-8 o (get_or code o halt) refl e) (λ o l t u. from-8 o t u)

pub lowest-8 : (file : Bytes) (p : ℕ) → wrong8 file ≡ on_record p → LowestOf (StepOff file Off8) p
unfolding wrong8
lowest-8 file p h =
    lowest_step file (λ r code. first_off (branches_taken (possible r code)) 0 code) Off8
    (λ i e. finds-8 (node_in (nodes_with_steps file) i).set (node_steps_in (nodes_with_steps file) i).steps) p h

-- ---- of the check's answer

module _ (file : Bytes) (p : ℕ) where
  -- what is told is the spot of that rule
  told : (n : ℕ) → check file ≡ refused (fault_on n p) → spot_by file n ≡ on_record p
  told n h = sym (refused-number file (fault_on n p) h).there

  -- where rule 7 is told, rule 6 is kept
  six-kept : check file ≡ refused (fault_on 7 p) → broken6 file ≡ false
  unfolding breaks
  six-kept h = (refused-number file (fault_on 7 p) h).lower-kept 6 (omega arith)

pub spots-lowest : (file : Bytes) → SpotsLowest file
unfolding spot_by
spots-lowest file = record {
  four = λ p h. lowest-4 file p (told file p 4 h);
  five = λ p h. lowest-5 file p (told file p 5 h);
  six = λ p h. lowest-6 file p (told file p 6 h);
  seven = λ p h. lowest-7 file (six-kept file p h) p (told file p 7 h);
  eight = λ p h. lowest-8 file p (told file p 8 h);
  nine = λ p h. lowest-9 file p (told file p 9 h);
  ten = λ p h. lowest-10 file p (told file p 10 h);
}

-- there is but one lowest
pub one-lowest : {Offends : ℕ → Type 0} (p q : ℕ) → LowestOf Offends p → LowestOf Offends q → p ≡ q
one-lowest p q a b = go (ltb p q) refl (ltb q p) refl
  where
    go : (s : Bool) → ltb p q ≡ s → (t : Bool) → ltb q p ≡ t → p ≡ q
    go true e t d = absurd (b.below p (ltb-true p q e) a.offends)
    go false e true d = absurd (a.below q (ltb-true q p d) b.offends)
    go false e false d = omega (arith, ltb-false p q e, ltb-false q p d)
