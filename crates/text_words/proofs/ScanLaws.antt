-- Laws of a line's words by places: blanks passed over, letters gathered, the word that they make.
use Prim.Native.Nat.{ℕ, zero, suc, ◌+◌, ◌-◌, ◌≤◌, ◌<◌}
use native.Mathlib.Numerals.{add-one}
use native.Mathlib.Omega.{arith}
use mathlib.Core.Path.{◌≡◌, refl, sym, ap, ◌∙◌, subst}
use mathlib.Core.Bool.{Bool, true, false}
use mathlib.Core.List.{[], ◌∷◌, ◌++◌}
use borrow.Author.Tests.{ltb-true, ltb-false}
use lib.Arith.{lt_of_le-ne}
use lib.Dec.{ltb}
use lib.ListN.{length, get_or, take, drop, drop_of_length-le}
use lib.Seq.{slice, slice_empty, length-slice, drop-cons, take-nil, take-suc, length-take-le, drop-append-le}
use Rattle.spec_policy.specs.Bytes.{Bytes}
use Rattle.spec_text.specs.Words.{Mark, blank, brace, hash, letter, mark, ended, words_from, words}
use Rattle.text_words.specs.Scanned.{Run, word_and}
use Rattle.text_words.specs.declared.Word.{Word}
use Rattle.std.specs.Prelude.{Some}

-- a part cut out from the front, and from the back
pub part_slice : (l : Bytes) (a e : ℕ) → a ≤ e → slice a e l ≡ take (e - a) (drop a l)
part_slice l zero e h = let z : e ≡ e - 0 = omega arith in ap (λ (n : ℕ). take n l) z
part_slice [] (suc a) zero h = absurd (omega arith)
part_slice [] (suc a) (suc e) h = sym (take-nil (suc e - suc a))
part_slice (x ∷ l) (suc a) zero h = absurd (omega arith)
part_slice (x ∷ l) (suc a) (suc e) h = let z : e - a ≡ suc e - suc a = omega arith in part_slice l a e (omega arith) ∙ ap (λ (n : ℕ). take n (drop a l)) z

-- ---- a word that no letter goes on

closed : (w : Bytes) (b : ℕ) (bs : Bytes) → 1 ≤ length w → (mark b ≡ letter → ⊥) → words_from w (b ∷ bs) ≡ w ∷ words_from [] (b ∷ bs)
unfolding words_from ended
closed [] b bs h n = absurd (omega arith)
closed (x ∷ xs) b bs h n = go (mark b) refl
  where
    go : (m : Mark) → mark b ≡ m → words_from (x ∷ xs) (b ∷ bs) ≡ (x ∷ xs) ∷ words_from [] (b ∷ bs)
    go blank e = rw (e, words_from)
    go brace e = rw (e, words_from)
    go hash e = rw (e, words_from)
    go letter e = absurd (n e)

closed-last : (w : Bytes) → 1 ≤ length w → words_from w [] ≡ w ∷ words_from [] []
unfolding words_from ended
closed-last [] h = absurd (omega arith)
closed-last (x ∷ xs) h = refl

-- ---- places

module _ (line : Bytes) where
  -- from i on, the byte at i and then the others
  pub from-here : (i : ℕ) → i < length line → drop i line ≡ get_or line i 0 ∷ drop (i + 1) line
  from-here i h = drop-cons line i 0 h ∙ ap (λ (n : ℕ). get_or line i 0 ∷ drop n line) (sym (add-one i))

  -- one byte more
  pub slice-more : (at i : ℕ) → at ≤ i → i < length line → slice at (i + 1) line ≡ slice at i line ++ (get_or line i 0 ∷ [])
  slice-more at i h k =
      ap (λ (n : ℕ). drop at (take n line)) (add-one i) ∙ ap (drop at) (take-suc line i 0 k)
      ∙ drop-append-le at (take i line) (get_or line i 0 ∷ []) (omega (arith, length-take-le i line (omega arith)))

  pub slice-one : (i : ℕ) → i < length line → slice i (i + 1) line ≡ get_or line i 0 ∷ []
  slice-one i h = slice-more i i (omega arith) h ∙ ap (λ (l : Bytes). l ++ (get_or line i 0 ∷ [])) (slice_empty i line)

  word_none : (w : Bytes) (i : ℕ) → length line ≤ i → words_from w (drop i line) ≡ ended w []
  unfolding words_from
  word_none w i h = ap (words_from w) (drop_of_length-le line {i = i} h)

  blank-on : (i : ℕ) → i < length line → mark (get_or line i 0) ≡ blank → words (drop i line) ≡ words (drop (i + 1) line)
  unfolding words words_from ended
  blank-on i h e = ap (words_from []) (from-here i h) ∙ rw (e, words_from)

  letter-on : (w : Bytes) (i : ℕ) → i < length line → mark (get_or line i 0) ≡ letter → words_from w (drop i line) ≡ words_from (w ++ (get_or line i 0 ∷ [])) (drop (i + 1) line)
  unfolding words_from
  letter-on w i h e = ap (words_from w) (from-here i h) ∙ rw (e, words_from)

  -- ---- runs

  pub past-blanks : (n at end : ℕ) → at + n ≡ end → end ≤ length line → ((k : ℕ) → k < end → at ≤ k → mark (get_or line k 0) ≡ blank)
      → words (drop at line) ≡ words (drop end line)
  past-blanks zero at end e h b = let z : at ≡ end = omega arith in ap (λ (i : ℕ). words (drop i line)) z
  past-blanks (suc n) at end e h b =
      blank-on at (omega arith) (b at (omega arith) (omega arith)) ∙ past-blanks n (at + 1) end (omega arith) h (λ k p q. b k p (omega arith))

  pub past-letters : (n at i end : ℕ) → i + n ≡ end → at ≤ i → end ≤ length line → ((k : ℕ) → k < end → at ≤ k → mark (get_or line k 0) ≡ letter)
      → words_from (slice at i line) (drop i line) ≡ words_from (slice at end line) (drop end line)
  past-letters zero at i end e l h b = let z : i ≡ end = omega arith in ap (λ (k : ℕ). words_from (slice at k line) (drop k line)) z
  past-letters (suc n) at i end e l h b =
      letter-on (slice at i line) i (omega arith) (b i (omega arith) l)
      ∙ ap (λ (w : Bytes). words_from w (drop (i + 1) line)) (sym (slice-more at i l (omega arith)))
      ∙ past-letters n at (i + 1) end (omega arith) (omega arith) h b

  -- ---- the next word

  -- a word that no letter goes on
  word-closed : (w : Bytes) (i : ℕ) → 1 ≤ length w → (i < length line → mark (get_or line i 0) ≡ letter → ⊥) → words_from w (drop i line) ≡ w ∷ words (drop i line)
  unfolding words
  word-closed w i h n = go (ltb i (length line)) refl
    where
      go : (b : Bool) → ltb i (length line) ≡ b → words_from w (drop i line) ≡ w ∷ words_from [] (drop i line)
      go true e =
          let l : i < length line = ltb-true i (length line) e in
          subst (λ (bs : Bytes). words_from w bs ≡ w ∷ words_from [] bs) (sym (from-here i l)) (closed w (get_or line i 0) (drop (i + 1) line) h (n l))
      go false e = rw (drop_of_length-le line {i = i} (ltb-false i (length line) e)) (closed-last w h)

  module _ (at start : ℕ) (s : Run line blank at start) where
    same : words (drop at line) ≡ words (drop start line)
    same = past-blanks (start - at) at start (omega (arith, s.after)) s.inside s.each

    pub next-none : length line ≤ start → words (drop at line) ≡ []
    unfolding words ended
    next-none h = same ∙ word_none [] start h

    module _ (l : start < length line) where
      pub next-remark : mark (get_or line start 0) ≡ hash → words (drop at line) ≡ []
      unfolding words words_from ended
      next-remark e = same ∙ ap words (from-here start l) ∙ rw (e, words_from)

      pub next-brace : mark (get_or line start 0) ≡ brace → words (drop at line) ≡ slice start (start + 1) line ∷ words (drop (start + 1) line)
      unfolding words words_from ended
      next-brace e =
          same ∙ ap words (from-here start l)
          ∙ rw (e, words_from) (ap (λ (w : Bytes). w ∷ words (drop (start + 1) line)) (sym (slice-one start l)))

      module _ (m : mark (get_or line start 0) ≡ letter) (end : ℕ) (r : Run line letter start end) where
        pub some-letter : start < end
        some-letter = lt_of_le-ne r.after (λ e. r.stops (omega arith) (subst (λ (i : ℕ). mark (get_or line i 0) ≡ letter) e m))

        pub next-letters : words (drop at line) ≡ slice start end line ∷ words (drop end line)
        unfolding words
        next-letters =
            same
            ∙ ap (λ (w : Bytes). words_from w (drop start line)) (sym (slice_empty start line))
            ∙ past-letters (end - start) start start end (omega (arith, r.after)) (omega arith) r.inside r.each
            ∙ word-closed (slice start end line) end (omega (arith, length-slice start end line r.inside, some-letter)) r.stops

-- a word as it is cut out, and those after it
pub word-first : (line : Bytes) (at : ℕ) (w : Word) → words (drop at line) ≡ word_and line (Some w) → w.start < w.end
    → words (drop at line) ≡ take (w.end - w.start) (drop w.start line) ∷ words (drop w.end line)
unfolding word_and
word-first line at w e h = e ∙ ap (λ (x : Bytes). x ∷ words (drop w.end line)) (part_slice line w.start w.end (omega arith))
