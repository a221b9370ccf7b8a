-- A step's record by its kind: what it is where the kind byte is known, or known to be none of the kinds.
use Prim.Native.Nat.{ℕ, zero, suc, ◌+◌}
use mathlib.Core.Path.{◌≡◌, refl, ap, ◌∙◌}
use Rattle.spec_policy.specs.Bytes.{Bytes, number}
use Rattle.spec_policy.specs.Records.{StepRecord, step_record_at}
use Rattle.spec_policy.specs.Steps.{Step, next, ok, sup, ins, acase, spend, end, halt, step_of}
use Rattle.file_records.specs.declared.Step as values
use Rattle.file_records.specs.Kinds.{step_meant, step_value}

-- the row at a place, with k for its kind
abbrev pub step_record_with : Bytes → ℕ → ℕ → StepRecord
step_record_with file at k = record {
  kind = k;
  action = number file (at + 1) 1;
  first = number file (at + 2) 1;
  second = number file (at + 3) 1;
  operand = number file (at + 4) 8;
}

pub of-kind : (file : Bytes) (at k : ℕ) → k ≡ number file at 1 → step_of (step_record_with file at k) ≡ step_of (step_record_at file at)
unfolding step_record_at
of-kind file at k e = ap (λ (x : ℕ). step_of (step_record_with file at x)) e

pub steps-else : (r : StepRecord) → (r.kind ≡ 1 → ⊥) → (r.kind ≡ 2 → ⊥) → (r.kind ≡ 3 → ⊥) → (r.kind ≡ 4 → ⊥) → (r.kind ≡ 5 → ⊥) → (r.kind ≡ 6 → ⊥)
    → (r.kind ≡ 7 → ⊥) → step_of r ≡ halt
unfolding step_of
steps-else r = go r.kind
  where
    go : (k : ℕ) → (k ≡ 1 → ⊥) → (k ≡ 2 → ⊥) → (k ≡ 3 → ⊥) → (k ≡ 4 → ⊥) → (k ≡ 5 → ⊥) → (k ≡ 6 → ⊥) → (k ≡ 7 → ⊥)
        → step_of (record { kind = k; action = r.action; first = r.first; second = r.second; operand = r.operand }) ≡ halt
    go zero a b c d e f g = refl
    go (suc zero) a b c d e f g = absurd (a refl)
    go (suc (suc zero)) a b c d e f g = absurd (b refl)
    go (suc (suc (suc zero))) a b c d e f g = absurd (c refl)
    go (suc (suc (suc (suc zero)))) a b c d e f g = absurd (d refl)
    go (suc (suc (suc (suc (suc zero))))) a b c d e f g = absurd (e refl)
    go (suc (suc (suc (suc (suc (suc zero)))))) a b c d e f g = absurd (f refl)
    go (suc (suc (suc (suc (suc (suc (suc zero))))))) a b c d e f g = absurd (g refl)
    go (suc (suc (suc (suc (suc (suc (suc (suc zero)))))))) a b c d e f g = refl
    go (suc (suc (suc (suc (suc (suc (suc (suc (suc k))))))))) a b c d e f g = refl

-- what holds of each kind of step, and of a halt whatever its kind byte is, holds of the step that is read
pub by_kind : (P : ℕ → Step → Type 0) (r : StepRecord) → P 1 (next r.first r.second) → P 2 (ok r.first) → P 3 (sup r.first)
    → P 4 (ins r.action r.first) → P 5 (acase r.operand r.first r.second) → P 6 (spend r.operand r.first r.second) → P 7 end
    → ((k : ℕ) → P k halt) → P r.kind (step_of r)
unfolding step_of
by_kind P r a b c d e f g h = go r.kind
  where
    go : (k : ℕ) → P k (step_of (record { kind = k; action = r.action; first = r.first; second = r.second; operand = r.operand }))
    go zero = h 0
    go (suc zero) = a
    go (suc (suc zero)) = b
    go (suc (suc (suc zero))) = c
    go (suc (suc (suc (suc zero)))) = d
    go (suc (suc (suc (suc (suc zero))))) = e
    go (suc (suc (suc (suc (suc (suc zero)))))) = f
    go (suc (suc (suc (suc (suc (suc (suc zero))))))) = g
    go (suc (suc (suc (suc (suc (suc (suc (suc zero)))))))) = h 8
    go (suc (suc (suc (suc (suc (suc (suc (suc (suc k))))))))) = h (suc (suc (suc (suc (suc (suc (suc (suc (suc k)))))))))

-- ---- the enum

meant-value : (s : Step) → step_meant (step_value s) ≡ s
unfolding step_meant step_value
meant-value (next t d) = refl
meant-value (ok t) = refl
meant-value (sup t) = refl
meant-value (ins a t) = refl
meant-value (acase s y z) = refl
meant-value (spend n y z) = refl
meant-value end = refl
meant-value halt = refl

-- the reader's value means the step
pub step-meant : {x : values.Step} {s : Step} → x ≡ step_value s → step_meant x ≡ s
step-meant {s = s} e = ap step_meant e ∙ meant-value s
