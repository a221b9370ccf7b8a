-- An answer is known by its meaning: no two answers of the check mean the same, and each says what the check says.
use Prim.Native.Nat.{ℕ}
use mathlib.Core.Path.{◌≡◌, refl, sym, ap, ap₂, ◌∙◌}
use mathlib.Core.Bool.{Bool, true, false}
use Rattle.std.specs.Prelude.{Result, Ok, Err}
use Rattle.actions.proofs.Tests.{true-not-false}
use Rattle.spec_policy.specs.Bytes.{Bytes}
use Rattle.spec_check.specs.Check.{Answer, passes, refused, check}
use Rattle.check_policy.specs.declared.Sets.{Sets}
use Rattle.faults.specs.declared.Fault.{Fault}
use Rattle.faults.specs.Meaning.{fault_of, fault_value}
use Rattle.faults.proofs.Once.{same-fault}
use Rattle.check_policy.specs.Answers.{answered, refusal_of}

is_pass : Answer → Bool
is_pass (passes r e) = true
is_pass (refused f) = false

first : Answer → ℕ
first (passes r e) = r
first (refused f) = 0

second : Answer → ℕ
second (passes r e) = e
second (refused f) = 0

pub one_answer : (a b : Result Sets Fault) → answered a ≡ answered b → a ≡ b
unfolding answered is_pass first second refusal_of
one_answer (Ok s) (Ok t) h =
    ap₂ (λ (x y : ℕ). Ok (record { regulated = record { bits = x }; effects = record { bits = y } })) (ap first h) (ap second h)
one_answer (Ok s) (Err f) h = true-not-false refl (ap is_pass h)
one_answer (Err f) (Ok s) h = true-not-false refl (ap is_pass (sym h))
one_answer (Err f) (Err g) h = ap Err (sym (same-fault f) ∙ ap (λ (x : Answer). fault_value (refusal_of x)) h ∙ same-fault g)

-- ---- what the code's answer says of the check's

-- what `refusal` gives of a refusal is that refusal
pub refusal_is : {x : Result Sets Fault} {f : Fault} (g : Fault) → fault_of g ≡ refusal_of (answered x) → x ≡ Err f → fault_of g ≡ fault_of f
unfolding answered refusal_of
refusal_is g e h = e ∙ ap (λ (y : Result Sets Fault). refusal_of (answered y)) h

module _ (policy : Bytes) {x : Result Sets Fault} (e : answered x ≡ check policy) where
  pub check-passes : {s : Sets} → x ≡ Ok s → check policy ≡ passes s.regulated.bits s.effects.bits
  unfolding answered
  check-passes h = sym e ∙ ap answered h

  pub check-refuses : {f : Fault} → x ≡ Err f → check policy ≡ refused (fault_of f)
  unfolding answered
  check-refuses h = sym e ∙ ap answered h
