-- Laws of lines and words: what letters in a row do, and words that are the same.
use Prim.Native.Nat.{ℕ, ◌+◌, ◌≤◌, ◌<◌}
use native.Mathlib.Omega.{arith}
use mathlib.Core.Path.{◌≡◌, refl, ap, ap₂, ◌∙◌, subst}
use mathlib.Core.Bool.{Bool, true, false, ◌&&◌, not}
use mathlib.Core.List.{List, [], ◌∷◌, ◌++◌, append_assoc, append-nil}
use lib.Dec.{T, eqb, eqb→eq, eqb_refl}
use lib.ListN.{length}
use Rattle.actions.proofs.Tests.{and_intro, and_left, and_right, not-false}
use Rattle.spec_policy.specs.Bytes.{Bytes}
use Rattle.spec_policy.specs.Lists.{every, listed}
use Rattle.spec_policy.proofs.ListLaws.{listed-length, listed_at, every-at}
use Rattle.spec_text.specs.Words.{same_bytes, newline, lines_from, lines, Mark, blank, brace, hash, letter, mark, ended, words_from}

-- ---- tests of every byte, and of f 0, f 1, ..

module _ (p : ℕ → Bool) where
  pub every_append : (xs ys : Bytes) → T (every p xs) → T (every p ys) → T (every p (xs ++ ys))
  unfolding every
  every_append [] ys h k = k
  every_append (x ∷ xs) ys h k = and_intro (p x) (every p (xs ++ ys)) (and_left (p x) (every p xs) h) (every_append xs ys (and_right (p x) (every p xs) h) k)

  pub every-weaker : (q : ℕ → Bool) → ((b : ℕ) → T (p b) → T (q b)) → (xs : Bytes) → T (every p xs) → T (every q xs)
  unfolding every
  every-weaker q w [] h = tt
  every-weaker q w (x ∷ xs) h = and_intro (q x) (every q xs) (w x (and_left (p x) (every p xs) h)) (every-weaker q w xs (and_right (p x) (every p xs) h))

-- at one place
pub every-listed : {A : Type 0} (g : A → Bool) (f : ℕ → A) (n : ℕ) → T (every g (listed f 0 n)) → (i : ℕ) → i < n → T (g (f i))
every-listed {A} g f n t i h =
    let z : 0 + i ≡ i = omega arith in
    let l : i < length (listed f 0 n) = omega (arith, listed-length f 0 n) in
    subst (λ (x : A). T (g x)) (listed_at f 0 n (f 0) i h ∙ ap f z) (every-at g (listed f 0 n) (f 0) t i l)

-- ---- the same bytes

pub same_refl : (bs : Bytes) → T (same_bytes bs bs)
unfolding same_bytes
same_refl [] = tt
same_refl (b ∷ bs) = and_intro (eqb b b) (same_bytes bs bs) (eqb_refl b) (same_refl bs)

pub same-eq : (bs cs : Bytes) → T (same_bytes bs cs) → bs ≡ cs
unfolding same_bytes
same-eq [] [] h = refl
same-eq [] (c ∷ cs) h = absurd h
same-eq (b ∷ bs) [] h = absurd h
same-eq (b ∷ bs) (c ∷ cs) h = ap₂ {C = Bytes} ◌∷◌ (eqb→eq b c (and_left (eqb b c) (same_bytes bs cs) h)) (same-eq bs cs (and_right (eqb b c) (same_bytes bs cs) h))

-- ---- what is gathered byte after byte

module _ {A : Type 0} (f : Bytes → Bytes → A) (p : ℕ → Bool) (more : (l : Bytes) (b : ℕ) (bs : Bytes) → T (p b) → f l (b ∷ bs) ≡ f (l ++ (b ∷ [])) bs) where
  pub gathered : (l v rest : Bytes) → T (every p v) → f l (v ++ rest) ≡ f (l ++ v) rest
  unfolding every
  gathered l [] rest h = ap (λ (x : Bytes). f x rest) (simp append-nil)
  gathered l (b ∷ v) rest h =
      more l b (v ++ rest) (and_left (p b) (every p v) h) ∙ gathered (l ++ (b ∷ [])) v rest (and_right (p b) (every p v) h)
      ∙ ap (λ (x : Bytes). f x rest) (append_assoc l (b ∷ []) v)

-- ---- lines

-- no end of a line
unfoldable pub in_line : ℕ → Bool
in_line b = not (eqb b newline)

line_on : (l : Bytes) (b : ℕ) (bs : Bytes) → T (in_line b) → lines_from l (b ∷ bs) ≡ lines_from (l ++ (b ∷ [])) bs
unfolding in_line lines_from
line_on l b bs h = rw (not-false (eqb b newline) h, lines_from)

pub lines-first : (l rest : Bytes) → T (every in_line l) → lines (l ++ newline ∷ rest) ≡ l ∷ lines rest
unfolding lines lines_from
lines-first l rest h = gathered lines_from in_line line_on [] l (newline ∷ rest) h

-- ---- words

is_letter : Mark → Bool
is_letter blank = false
is_letter brace = false
is_letter hash = false
is_letter letter = true

-- a byte of a word that stays in its line
unfoldable pub plain : ℕ → Bool
unfolding is_letter
plain b = is_letter (mark b) && in_line b

letter-of : (m : Mark) → T (is_letter m) → m ≡ letter
unfolding is_letter
letter-of blank h = absurd h
letter-of brace h = absurd h
letter-of hash h = absurd h
letter-of letter h = refl

pub plain-stays : (b : ℕ) → T (plain b) → T (in_line b)
unfolding plain
plain-stays b h = and_right (is_letter (mark b)) (in_line b) h

word_on : (w : Bytes) (b : ℕ) (bs : Bytes) → T (plain b) → words_from w (b ∷ bs) ≡ words_from (w ++ (b ∷ [])) bs
unfolding plain words_from
word_on w b bs h = rw (letter-of (mark b) (and_left (is_letter (mark b)) (in_line b) h), words_from)

pub word_read : (w rest : Bytes) → T (every plain w) → words_from [] (w ++ rest) ≡ words_from w rest
word_read w rest h = gathered words_from plain word_on [] w rest h

-- A word: plain letters, and at least one.
pub record Word (w : Bytes) : Type 0 where
  pub letters : T (every plain w)
  pub some : 1 ≤ length w

pub word-ends : {w : Bytes} (ws : List Bytes) → Word w → ended w ws ≡ w ∷ ws
unfolding ended
word-ends {w = []} ws h = absurd (omega arith)
word-ends {w = b ∷ bs} ws h = refl
