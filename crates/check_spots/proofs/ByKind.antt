-- A step as the code has read it: what it makes of each kind, and of the kinds that it does not ask for.
use Prim.Native.Nat.{ℕ, ◌+◌, ◌≤◌}
use native.Mathlib.Omega.{arith}
use mathlib.Core.Path.{◌≡◌, refl, sym, ap, ◌∙◌, subst, subst₂}
use mathlib.Core.Bool.{true}
use mathlib.Core.List.{List}
use Rattle.actions.specs.Sets.{ActionSet}
use Rattle.actions.specs.declared.ActionSet as read
use Rattle.spec_policy.specs.Bytes.{Bytes, number}
use Rattle.spec_policy.specs.Lists.{every}
use Rattle.spec_policy.specs.Records.{step_record_at}
use Rattle.spec_policy.specs.Steps.{Step, next, ok, sup, ins, acase, spend, end, halt, step_of, targets}
use Rattle.spec_check.specs.Targets.{asks_within, leads_well}
use Rattle.spec_check.specs.Modes.{Mode}
use Rattle.spec_check.specs.Possible.{pass_on, branches_taken}
use Rattle.file_records.specs.declared.Operand.{Operand}
use Rattle.file_records.specs.declared.Operand.TheVariants.{Set}
use Rattle.file_records.specs.declared.Step as values
use Rattle.file_records.specs.declared.Step.TheVariants.{Next, Ok, Sup, Ins, Acase, Spend}
use Rattle.file_records.specs.Kinds.{step_meant, step_value}
use Rattle.file_records.proofs.Rows.{step-meant}
use Rattle.check_modes.specs.Table.{Tells}
use Rattle.check_modes.proofs.Table.{tells-record, tells-unknown}
use Rattle.check_targets.proofs.TargetLaws.{tested, tested-all}

-- what is tested of a step, by its value
pub well-of : (r : ActionSet) (code : List Step) (o : ℕ) {x : values.Step} (s : Step) → x ≡ step_value s → tested r code o (step_meant x) ≡ leads_well r code o s
unfolding leads_well
well-of r code o s e = tested-all r code o _ ∙ ap (leads_well r code o) (step-meant e)

-- a case that was read asks for a set
pub record Asks (x : Operand) (y z : ℕ) (s : Step) : Type 0 where
  pub set : read.ActionSet
  pub operand : x ≡ Set set
  pub step : acase set.bits y z ≡ s

pub asks : (s : Step) {x : Operand} {y z : ℕ} → Acase x y z ≡ step_value s → Asks x y z s
unfolding step_value
asks (acase b y z) e = record { set = record { bits = b }; operand = cc; step = cc }
asks (next t d) e = absurd cc
asks (ok t) e = absurd cc
asks (sup t) e = absurd cc
asks (ins b t) e = absurd cc
asks (spend n y z) e = absurd cc
asks end e = absurd cc
asks halt e = absurd cc

-- and an ins or a spend that was read has its own operand
pub ins-is : (s : Step) {x : Operand} {t : ℕ} → Ins x t ≡ step_value s → (b : ℕ) × (ins b t ≡ s)
unfolding step_value
ins-is (ins b t) e = (b, cc)
ins-is (next t d) e = absurd cc
ins-is (ok t) e = absurd cc
ins-is (sup t) e = absurd cc
ins-is (acase b y z) e = absurd cc
ins-is (spend n y z) e = absurd cc
ins-is end e = absurd cc
ins-is halt e = absurd cc

pub spend-is : (s : Step) {x : Operand} {y z : ℕ} → Spend x y z ≡ step_value s → (n : ℕ) × (spend n y z ≡ s)
unfolding step_value
spend-is (spend n y z) e = (n, cc)
spend-is (next t d) e = absurd cc
spend-is (ok t) e = absurd cc
spend-is (sup t) e = absurd cc
spend-is (ins b t) e = absurd cc
spend-is (acase b y z) e = absurd cc
spend-is end e = absurd cc
spend-is halt e = absurd cc

-- ---- kinds that are not asked for

-- end and halt lead nowhere
pub others-lead : (r : ActionSet) (code : List Step) (o : ℕ) {x : values.Step} (s : Step) → x ≡ step_value s → ((t d : ℕ) → x ≡ Next t d → ⊥) → ((t : ℕ) → x ≡ Ok t → ⊥)
    → ((t : ℕ) → x ≡ Sup t → ⊥) → ((a : Operand) (t : ℕ) → x ≡ Ins a t → ⊥) → ((a : Operand) (y z : ℕ) → x ≡ Acase a y z → ⊥)
    → ((a : Operand) (y z : ℕ) → x ≡ Spend a y z → ⊥) → true ≡ leads_well r code o s
unfolding step_value leads_well asks_within targets every
others-lead r code o (next t d) e n k u i a p = absurd (n _ _ e)
others-lead r code o (ok t) e n k u i a p = absurd (k _ e)
others-lead r code o (sup t) e n k u i a p = absurd (u _ e)
others-lead r code o (ins b t) e n k u i a p = absurd (i _ _ e)
others-lead r code o (acase b y z) e n k u i a p = absurd (a _ _ _ e)
others-lead r code o (spend m y z) e n k u i a p = absurd (p _ _ _ e)
others-lead r code o end e n k u i a p = refl
others-lead r code o halt e n k u i a p = refl

-- ok, sup, end and halt pass nothing on
pub others-pass : (r p : ActionSet) (ps : List ActionSet) {x : values.Step} (s : Step) → x ≡ step_value s → ((t d : ℕ) → x ≡ Next t d → ⊥)
    → ((a : Operand) (t : ℕ) → x ≡ Ins a t → ⊥) → ((a : Operand) (y z : ℕ) → x ≡ Acase a y z → ⊥) → ((a : Operand) (y z : ℕ) → x ≡ Spend a y z → ⊥)
    → ps ≡ pass_on r s p ps
unfolding step_value pass_on
others-pass r p ps (next t d) e n i a u = absurd (n _ _ e)
others-pass r p ps (ok t) e n i a u = refl
others-pass r p ps (sup t) e n i a u = refl
others-pass r p ps (ins b t) e n i a u = absurd (i _ _ e)
others-pass r p ps (acase b y z) e n i a u = absurd (a _ _ _ e)
others-pass r p ps (spend m y z) e n i a u = absurd (u _ _ _ e)
others-pass r p ps end e n i a u = refl
others-pass r p ps halt e n i a u = refl

-- only a case has branches
pub others-taken : (ps : List ActionSet) (o : ℕ) {x : values.Step} (s : Step) → x ≡ step_value s → ((a : Operand) (y z : ℕ) → x ≡ Acase a y z → ⊥)
    → true ≡ branches_taken ps o s
unfolding step_value branches_taken
others-taken ps o (next t d) e a = refl
others-taken ps o (ok t) e a = refl
others-taken ps o (sup t) e a = refl
others-taken ps o (ins b t) e a = refl
others-taken ps o (acase b y z) e a = absurd (a _ _ _ e)
others-taken ps o (spend m y z) e a = refl
others-taken ps o end e a = refl
others-taken ps o halt e a = refl

-- ---- a step record as a row of the mode table

module _ (file : Bytes) (at : ℕ) {k x y : ℕ} (ek : k ≡ number file at 1) (ex : x ≡ number file (at + 2) 1) (ey : y ≡ number file (at + 3) 1) where
  as_read : (row : ℕ) (m : Mode) → Tells row (number file (at + 2) 1) (number file (at + 3) 1) (step_of (step_record_at file at)) m
      → Tells row x y (step_of (step_record_at file at)) m
  as_read row m t = subst₂ (λ (a b : ℕ). Tells row a b (step_of (step_record_at file at)) m) (sym ex) (sym ey) t

  pub row-known : 1 ≤ k → k ≤ 8 → (m : Mode) → Tells k x y (step_of (step_record_at file at)) m
  unfolding step_record_at
  row-known g h m = as_read k m (subst (λ (row : ℕ). Tells row (number file (at + 2) 1) (number file (at + 3) 1) (step_of (step_record_at file at)) m) (sym ek)
      (tells-record (step_record_at file at) (omega arith) (omega arith) m))

  pub row-unknown : {q : ℕ} → q ≡ 8 → (1 ≤ k → k ≤ 8 → ⊥) → (m : Mode) → Tells q x y (step_of (step_record_at file at)) m
  unfolding step_record_at
  row-unknown {q} e n m =
      as_read q m
      (subst (λ (row : ℕ). Tells row (number file (at + 2) 1) (number file (at + 3) 1) (step_of (step_record_at file at)) m) (sym e)
      (tells-unknown (step_record_at file at) (λ g h. n (omega arith) (omega arith)) m))
