-- Rule 4 of step records that lie one after the other: of none, and of some with others after them.
use Prim.Native.Nat.{ℕ, zero, suc, ◌+◌, ◌*◌}
use native.Mathlib.Omega.{arith}
use mathlib.Core.Path.{◌≡◌, refl, sym, ap, ◌∙◌}
use mathlib.Core.Bool.{Bool, true, false, ◌&&◌}
use mathlib.Core.List.{◌∷◌}
use Rattle.actions.proofs.Tests.{and_assoc}
use Rattle.spec_policy.specs.Bytes.{Bytes}
use Rattle.spec_policy.specs.Lists.{listed, every}
use Rattle.spec_policy.specs.Records.{StepRecord, step_record_at}
use Rattle.spec_check.specs.Layout.{step_fits}
use Rattle.check_layout.specs.Fits.{steps_fit, kept_if, read_as}
use Rattle.file_records.specs.declared.Step.{Step}
use Rattle.file_records.specs.Kinds.{step_value}
use Rattle.spec_policy.specs.Steps.{step_of}
use Rattle.std.specs.Prelude.{Ok, Err}

from_one : (f : ℕ → StepRecord) (i n : ℕ) → listed f (suc i) n ≡ listed (λ k. f (suc k)) i n
unfolding listed
from_one f i zero = refl
from_one f i (suc n) = ap (λ l. f (suc i) ∷ l) (from_one f (suc i) n)

module _ (file : Bytes) where
  pub records-none : (at : ℕ) → steps_fit file at 0 ≡ true
  unfolding steps_fit every listed
  records-none at = refl

  first-row : (at n : ℕ) → steps_fit file at (suc n) ≡ (step_fits (step_record_at file at) && steps_fit file (at + 12) n)
  unfolding steps_fit every listed
  first-row at n =
      let z : at + 12 * 0 ≡ at = omega arith in
      let w : (k : ℕ) → at + 12 * suc k ≡ at + 12 + 12 * k = λ k. omega arith in
      ap (λ l. step_fits (step_record_at file (at + 12 * 0)) && every step_fits l) (from_one (λ i. step_record_at file (at + 12 * i)) 0 n)
      ∙ λ j. step_fits (step_record_at file (z j)) && every step_fits (listed (λ k. step_record_at file (w k j)) 0 n)

  pub records-split : (at a b : ℕ) → steps_fit file at (a + b) ≡ (steps_fit file at a && steps_fit file (at + 12 * a) b)
  records-split at zero b =
      let z : at ≡ at + 12 * 0 = omega arith in
      let w : 0 + b ≡ b = omega arith in
      (λ j. steps_fit file (z j) (w j)) ∙ ap (λ (x : Bool). x && steps_fit file (at + 12 * 0) b) (sym (records-none at))
  records-split at (suc a) b =
      let z : at + 12 + 12 * a ≡ at + 12 * suc a = omega arith in
      let w : suc a + b ≡ suc (a + b) = omega arith in
      ap (steps_fit file at) w ∙ first-row at (a + b) ∙ ap (λ (x : Bool). step_fits (step_record_at file at) && x) (records-split (at + 12) a b)
      ∙ and_assoc (step_fits (step_record_at file at)) (steps_fit file (at + 12) a) (steps_fit file (at + 12 + 12 * a) b)
      ∙ λ j. sym (first-row at a) j && steps_fit file (z j) b

-- ---- a record as it is read

kept-true : (b : Bool) (s t : Step) → kept_if b s ≡ Ok t → (b ≡ true) × (t ≡ s)
unfolding kept_if
kept-true true s t e = (refl, cc)
kept-true false s t e = absurd (let h : Err s ≡ Ok t = e in cc)

kept-false : (b : Bool) (s t : Step) → kept_if b s ≡ Err t → b ≡ false
unfolding kept_if
kept-false true s t e = absurd (let h : Ok s ≡ Err t = e in cc)
kept-false false s t e = refl

pub step-given : (r : StepRecord) (s : Step) → read_as r ≡ Ok s → (step_fits r ≡ true) × (s ≡ step_value (step_of r))
unfolding read_as
step-given r s e = kept-true _ _ _ e

pub no-step-given : (r : StepRecord) (s : Step) → read_as r ≡ Err s → step_fits r ≡ false
unfolding read_as
no-step-given r s e = kept-false _ _ _ e
