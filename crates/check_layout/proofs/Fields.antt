-- Rules 1 to 4 by the values that the code has read: a record's fields one by one, each with the equation that it was read by.
--
use Prim.Native.Nat.{ℕ, zero, suc, ◌+◌, ◌*◌, ◌≤◌, ◌<◌}
use native.Mathlib.Omega.{arith}
use borrow.Author.Tests.{lt-ltb, le-ltb, ne_eqb, le-leb, lt-leb}
use mathlib.Core.Path.{◌≡◌, refl, sym, ap, ap₂, ◌∙◌}
use mathlib.Core.Bool.{Bool, true, false, ◌&&◌, ◌||◌, not}
use lib.Dec.{eqb, leb}
use lib.ListN.{length}
use Rattle.spec_policy.specs.Bytes.{Bytes, number}
use Rattle.spec_policy.specs.Records.{Node, StepRecord, length_field, node_count, step_count, step_record_at, node_place, step_place}
use Rattle.spec_policy.specs.Tree.{NodeKind, node_kind}
use Rattle.spec_check.specs.Layout.{broken1, broken3, node_fits, step_fits}
use Rattle.spec_policy.proofs.NumberLaws.{number-join}

pub front-short : (file : Bytes) → length file < 6 → true ≡ broken1 file
unfolding broken1
front-short file h = sym (ap (λ (b : Bool). b || not (eqb (length_field file) (length file))) (lt-ltb (length file) 6 h))

pub front_read : (file : Bytes) (n : ℕ) → 6 ≤ length file → n ≡ number file 0 2 → not (eqb n (length file)) ≡ broken1 file
unfolding broken1 length_field
front_read file n h p = ap₂ (λ (b : Bool) (x : ℕ). b || not (eqb x (length file))) (sym (le-ltb (length file) 6 h)) p

pub counts-read : (file : Bytes) (n m : ℕ) → n ≡ node_count file → m ≡ step_count file
    → (not (leb 1 n && leb n 31 && leb m 512) || not (eqb (length file) (6 + 16 * n + 12 * m))) ≡ broken3 file
unfolding broken3 step_place node_place
counts-read file n m p q =
    ap₂ (λ (x : ℕ) (y : ℕ). not (leb 1 x && leb x 31 && leb y 512) || not (eqb (length file) (6 + 16 * x + 12 * y))) p q

-- the node with its own kind, and with what was read for its other fields
abbrev pub node_of : Node → (left right count start set : ℕ) → Node
node_of x l r c s t = record { kind = x.kind; left = l; right = r; count = c; start = s; set = t }

pub node-read : (x : Node) (k : NodeKind) (l r c s t : ℕ) → k ≡ node_kind x.kind → l ≡ x.left → r ≡ x.right → c ≡ x.count → s ≡ x.start → t ≡ x.set
    → node_fits k (node_of x l r c s t) ≡ node_fits (node_kind x.kind) x
node-read x k l r c s t p q u v w y = λ i. node_fits (p i) (node_of x (q i) (u i) (v i) (w i) (y i))

abbrev pub step_record_of : (kind action first second operand : ℕ) → StepRecord
step_record_of k a f s o = record { kind = k; action = a; first = f; second = s; operand = o }

pub record-read : (file : Bytes) (at k a f s o : ℕ)
    → k ≡ number file at 1 → a ≡ number file (at + 1) 1 → f ≡ number file (at + 2) 1 → s ≡ number file (at + 3) 1 → o ≡ number file (at + 4) 8
    → step_record_of k a f s o ≡ step_record_at file at
unfolding step_record_at
record-read file at k a f s o p q u v w = λ i. step_record_of (p i) (q i) (u i) (v i) (w i)

-- no step has kind 0, or a kind above 8
pub no-step : (k a f s o : ℕ) → (k ≡ 1 → ⊥) → (k ≡ 2 → ⊥) → (k ≡ 3 → ⊥) → (k ≡ 4 → ⊥) → (k ≡ 5 → ⊥) → (k ≡ 6 → ⊥) → (k ≡ 7 → ⊥) → (k ≡ 8 → ⊥)
    → step_fits (step_record_of k a f s o) ≡ false
unfolding step_fits
no-step zero _ _ _ _ p q r s t u v w = refl
no-step (suc zero) _ _ _ _ p q r s t u v w = absurd (p refl)
no-step (suc (suc zero)) _ _ _ _ p q r s t u v w = absurd (q refl)
no-step (suc (suc (suc zero))) _ _ _ _ p q r s t u v w = absurd (r refl)
no-step (suc (suc (suc (suc zero)))) _ _ _ _ p q r s t u v w = absurd (s refl)
no-step (suc (suc (suc (suc (suc zero))))) _ _ _ _ p q r s t u v w = absurd (t refl)
no-step (suc (suc (suc (suc (suc (suc zero)))))) _ _ _ _ p q r s t u v w = absurd (u refl)
no-step (suc (suc (suc (suc (suc (suc (suc zero))))))) _ _ _ _ p q r s t u v w = absurd (v refl)
no-step (suc (suc (suc (suc (suc (suc (suc (suc zero)))))))) _ _ _ _ p q r s t u v w = absurd (w refl)
no-step (suc (suc (suc (suc (suc (suc (suc (suc (suc k))))))))) _ _ _ _ p q r s t u v w = refl

-- ---- an operand that is read in two halves

not-zero : (n : ℕ) → 0 < n → eqb n 0 ≡ false
not-zero n h = ne_eqb n 0 (λ e. omega arith)

pub halves : (high low : ℕ) → (eqb high 0 && eqb low 0) ≡ eqb (high * 4294967296 + low) 0
halves zero zero = refl
halves zero (suc low) = not-zero (suc low) (omega arith) ∙ sym (not-zero (0 * 4294967296 + suc low) (omega arith))
halves (suc high) low =
    ap (λ (b : Bool). b && eqb low 0) (not-zero (suc high) (omega arith)) ∙ sym (not-zero (suc high * 4294967296 + low) (omega arith))

pub high-alone : (high low : ℕ) → low < 4294967296 → eqb high 0 ≡ leb (high * 4294967296 + low) 4294967295
high-alone zero low h = sym (le-leb (0 * 4294967296 + low) 4294967295 (omega arith))
high-alone (suc high) low h = not-zero (suc high) (omega arith) ∙ sym (lt-leb (suc high * 4294967296 + low) 4294967295 (omega arith))

module _ (file : Bytes) (at high low : ℕ) (e : high ≡ number file (at + 4) 4) (f : low ≡ number file (at + 8) 4) where
  pub both : at + 12 ≤ length file → high * 4294967296 + low ≡ number file (at + 4) 8
  both h =
      let z : at + 8 ≡ at + 4 + 4 = omega arith in
      ap₂ (λ (x y : ℕ). x * 4294967296 + y) e (f ∙ ap (λ (i : ℕ). number file i 4) z) ∙ sym (number-join file (at + 4) 4 4 (omega arith))
