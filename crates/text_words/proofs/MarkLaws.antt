-- Laws of marks: what a byte is, and which marks are the same.
use Prim.Native.Nat.{ℕ}
use mathlib.Core.Path.{◌≡◌, refl, sym, ap, ◌∙◌}
use mathlib.Core.Bool.{Bool, true, false, not}
use mathlib.Core.Logic.{◌⊎◌, inl, inr}
use borrow.Author.Rules.{rules}
use borrow.Author.Tests.{ne_eqb}
use denote.Enum.Bare.{sameb, same_true}
use Rattle.spec_text.specs.Words.{Mark, blank, brace, hash, letter, mark}
use Rattle.text_words.specs.contracts.Mark.{the_type}
use Rattle.text_words.specs.declared.Mark as code
use Rattle.text_words.specs.declared.Mark.TheVariants.{Blank, Brace, Hash, Letter}
use Rattle.text_words.specs.Scanned.{mark_of}

-- ---- what a byte is

pub mark-blank : (b : ℕ) → (b ≡ 9) ⊎ ((b ≡ 13) ⊎ (b ≡ 32)) → blank ≡ mark b
unfolding mark
mark-blank b (inl e) = ap mark (sym e)
mark-blank b (inr (inl e)) = ap mark (sym e)
mark-blank b (inr (inr e)) = ap mark (sym e)

pub mark-brace : (b : ℕ) → (b ≡ 123) ⊎ (b ≡ 125) → brace ≡ mark b
unfolding mark
mark-brace b (inl e) = ap mark (sym e)
mark-brace b (inr e) = ap mark (sym e)

pub mark-hash : (b : ℕ) → b ≡ 35 → hash ≡ mark b
unfolding mark
mark-hash b e = ap mark (sym e)

pub mark-letter : (b : ℕ) → ((b ≡ 9) ⊎ ((b ≡ 13) ⊎ (b ≡ 32)) → ⊥) → ((b ≡ 123) ⊎ (b ≡ 125) → ⊥) → (b ≡ 35 → ⊥) → letter ≡ mark b
unfolding mark
mark-letter b p q r =
    rw (mark, ne_eqb b 32 (λ e. p (inr (inr e))), ne_eqb b 9 (λ e. p (inl e)), ne_eqb b 13 (λ e. p (inr (inl e))), ne_eqb b 123 (λ e. q (inl e)), ne_eqb b 125 (λ e. q (inr e)), ne_eqb b 35 r)

-- ---- which marks are the same

marked : Mark → code.Mark
marked blank = Blank
marked brace = Brace
marked hash = Hash
marked letter = Letter

marked-back : (m : code.Mark) → marked (mark_of m) ≡ m
unfolding marked mark_of
marked-back Blank = refl
marked-back Brace = refl
marked-back Hash = refl
marked-back Letter = refl

same_self : (m : code.Mark) → sameb the_type m m ≡ true
same_self Blank = refl
same_self Brace = refl
same_self Hash = refl
same_self Letter = refl

not-false : (b : Bool) → not b ≡ false → b ≡ true
not-false true e = refl
not-false false e = sym e

pub marks_same : (m n : code.Mark) → not (sameb the_type m n) ≡ false → mark_of m ≡ mark_of n
marks_same m n e = ap mark_of (same_true the_type (search rules) m n (not-false (sameb the_type m n) e))

pub marks-differ : (m n : code.Mark) → not (sameb the_type m n) ≡ true → mark_of m ≡ mark_of n → ⊥
marks-differ m n e q =
    let z : m ≡ n = sym (marked-back m) ∙ ap marked q ∙ marked-back n in
    let t : sameb the_type m n ≡ true = ap (sameb the_type m) (sym z) ∙ same_self m in
    let f : false ≡ true = ap not (sym t) ∙ e in
    absurd (cc)

-- no blank, and so a hash
pub hash-left : {m : code.Mark} {k : Mark} → (m ≡ Hash) ⊎ (m ≡ Blank) → mark_of m ≡ k → (k ≡ blank → ⊥) → k ≡ hash
unfolding mark_of
hash-left (inl e) q n = sym q ∙ ap mark_of e
hash-left (inr e) q n = absurd (n (sym q ∙ ap mark_of e))
