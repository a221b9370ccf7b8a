-- A number that was printed is read back, and what is printed of it is a word.
use Prim.Native.Nat.{ℕ, zero, suc, ◌+◌, ◌-◌, ◌*◌, ◌/◌, ◌%◌, ◌≤◌, ◌<◌}
use native.Mathlib.Omega.{arith}
use mathlib.Core.Path.{◌≡◌, refl, ap, ◌∙◌, sym}
use mathlib.Core.Bool.{Bool, true, false}
use mathlib.Core.List.{[], ◌∷◌, ◌++◌, append_assoc, append-nil}
use mathlib.Core.Option.{some}
use lib.Dec.{T, ltb}
use lib.ListN.{length-append}
use borrow.Author.Tests.{le-leb, ltb-true, ltb-false}
use Rattle.actions.proofs.Tests.{and_intro}
use Rattle.spec_policy.specs.Bytes.{Bytes}
use Rattle.spec_policy.specs.Lists.{every, listed}
use Rattle.spec_text.specs.Words.{mark}
use Rattle.spec_text.specs.Numerals.{digit, number_from, numeral, digits, decimal}
use Rattle.spec_text.proofs.WordLaws.{every_append, every-listed, in_line, plain, Word}

digit-read : (most n d : ℕ) (bs : Bytes) → d < 10 → n * 10 + d ≤ most → number_from most n (digit d ∷ bs) ≡ number_from most (n * 10 + d) bs
unfolding number_from
digit-read most n d bs h m =
    let z : 48 + d - 48 ≡ d = omega arith in
    rw (number_from, le-leb 48 (48 + d) (omega arith), le-leb (48 + d) 57 (omega arith), le-leb (n * 10 + (48 + d - 48)) most (omega arith))
    (ap (λ (x : ℕ). number_from most (n * 10 + x) bs) z)

digits-read : (most k n : ℕ) (bs : Bytes) → n ≤ k + 9 → n ≤ most → number_from most 0 (digits k n ++ bs) ≡ number_from most n bs
unfolding digits
digits-read most zero n bs h m = digit-read most 0 n bs (omega arith) (omega arith) ∙ ap (λ (x : ℕ). number_from most x bs) (omega arith)
digits-read most (suc k) n bs h m = go (ltb n 10) refl (digits-read most k (n / 10) (digit (n % 10) ∷ bs))
  where
    go : (b : Bool) → ltb n 10 ≡ b
        → (n / 10 ≤ k + 9 → n / 10 ≤ most → number_from most 0 (digits k (n / 10) ++ (digit (n % 10) ∷ bs)) ≡ number_from most (n / 10) (digit (n % 10) ∷ bs))
        → number_from most 0 (digits (suc k) n ++ bs) ≡ number_from most n bs
    go true e r =
        let l : n < 10 = ltb-true n 10 e in
        rw (digits, e) (digit-read most 0 n bs l (omega arith) ∙ ap (λ (x : ℕ). number_from most x bs) (omega arith))
    go false e r =
        let l : 10 ≤ n = ltb-false n 10 e in
        rw (digits, e) (ap (number_from most 0) (append_assoc (digits k (n / 10)) (digit (n % 10) ∷ []) bs) ∙ r (omega arith) (omega arith)
        ∙ digit-read most (n / 10) (n % 10) bs (omega arith) (omega arith) ∙ ap (λ (x : ℕ). number_from most x bs) (omega arith))

pub numeral-decimal : (most n : ℕ) → n ≤ most → numeral most (decimal n) ≡ some n
unfolding numeral decimal number_from
numeral-decimal most n h = ap (number_from most 0) (sym (append-nil (digits n n))) ∙ digits-read most n n [] (omega arith) h

-- ---- a word

digit-plain : (d : ℕ) → d < 10 → T (plain (digit d))
unfolding plain in_line mark listed every
digit-plain d h = every-listed plain digit 10 tt d h

one-digit : (d : ℕ) → d < 10 → Word (digit d ∷ [])
unfolding every
one-digit d h = record { letters = and_intro (plain (digit d)) true (digit-plain d h) tt; some = omega arith }

digits-word : (k n : ℕ) → n ≤ k + 9 → Word (digits k n)
unfolding digits
digits-word zero n h = one-digit n (omega arith)
digits-word (suc k) n h = go (ltb n 10) refl (digits-word k (n / 10))
  where
    go : (b : Bool) → ltb n 10 ≡ b → (n / 10 ≤ k + 9 → Word (digits k (n / 10))) → Word (digits (suc k) n)
    go true e r = rw (digits, e) (one-digit n (ltb-true n 10 e))
    go false e r =
        let l : 10 ≤ n = ltb-false n 10 e in
        let w : Word (digits k (n / 10)) = r (omega arith) in
        let d : Word (digit (n % 10) ∷ []) = one-digit (n % 10) (omega arith) in
        rw (digits, e)
        (record {
          letters = every_append plain (digits k (n / 10)) (digit (n % 10) ∷ []) w.letters d.letters;
          some = simp length-append (omega (arith, w.some));
        })

pub decimal-word : (n : ℕ) → Word (decimal n)
unfolding decimal
decimal-word n = digits-word n n (omega arith)
