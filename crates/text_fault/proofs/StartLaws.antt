-- Laws of where a line begins, and of how many there are.
use Prim.Native.Nat.{ℕ, zero, suc, ◌+◌, ◌-◌, ◌≤◌, ◌<◌}
use native.Mathlib.Omega.{arith}
use mathlib.Core.Path.{◌≡◌, refl, sym, ap, ◌∙◌}
use mathlib.Core.Bool.{Bool, true, false}
use mathlib.Core.List.{List, [], ◌∷◌, ◌++◌}
use lib.Dec.{eqb}
use lib.ListN.{length, get_or, take, drop, drop_of_length-le}
use lib.Seq.{slice}
use borrow.Author.Tests.{eqb-true, eqb-false}
use Rattle.std.specs.Prelude.{count_by, cond}
use Rattle.std.proofs.lemmas.List.Recursion.{is_count_by}
use Rattle.spec_policy.specs.Bytes.{Bytes}
use Rattle.spec_text.specs.Words.{newline, lines_from, lines}
use Rattle.text_measure.specs.Measures.{LineEnds}
use Rattle.text_words.proofs.ScanLaws.{part_slice}
use Rattle.text_measure.proofs.LineLaws.{first-of-more, last_line}

-- ---- how many lines

-- what was read of the first line makes no more
same_count : (bs l m : Bytes) → length (lines_from l bs) ≡ length (lines_from m bs)
unfolding lines_from
same_count [] l m = refl
same_count (b ∷ bs) l m = go (eqb b newline) refl (same_count bs)
  where
    go : (x : Bool) → eqb b newline ≡ x → ((l m : Bytes) → length (lines_from l bs) ≡ length (lines_from m bs)) → length (lines_from l (b ∷ bs)) ≡ length (lines_from m (b ∷ bs))
    go true e ih = rw (lines_from, e)
    go false e ih = rw (lines_from, e) (ih (l ++ (b ∷ [])) (m ++ (b ∷ [])))

-- so many lines are ended
ended_lines : Bytes → ℕ
ended_lines bs = length (lines bs) - 1

some-line : (bs l : Bytes) → 1 ≤ length (lines_from l bs)
unfolding lines_from
some-line [] l = omega arith
some-line (b ∷ bs) l = go (eqb b newline) refl (λ m. some-line bs m)
  where
    go : (x : Bool) → eqb b newline ≡ x → ((m : Bytes) → 1 ≤ length (lines_from m bs)) → 1 ≤ length (lines_from l (b ∷ bs))
    go true e ih = rw (lines_from, e) (omega arith)
    go false e ih = rw (lines_from, e) (ih (l ++ (b ∷ [])))

ended_more : (b : ℕ) (bs : Bytes) → ended_lines (b ∷ bs) ≡ cond (eqb b newline) (1 + ended_lines bs) (ended_lines bs)
unfolding ended_lines lines lines_from
ended_more b bs = go (eqb b newline) refl
  where
    go : (x : Bool) → eqb b newline ≡ x → ended_lines (b ∷ bs) ≡ cond x (1 + ended_lines bs) (ended_lines bs)
    go true e = let l = some-line bs [] in rw (lines_from, e) (omega (arith, l))
    go false e = rw (lines_from, e) (ap (λ (n : ℕ). n - 1) (same_count bs (b ∷ []) []))

pub counted-lines : (bs : Bytes) → count_by (λ b. eqb b newline) bs + 1 ≡ length (lines bs)
unfolding ended_lines lines lines_from
counted-lines bs = let l = some-line bs [] in let e = is_count_by ended_lines (λ b. eqb b newline) refl ended_more bs in omega (arith, l, e)

-- ---- where a line begins

later : (x : Bytes) (xs : List Bytes) (k : ℕ) → 1 ≤ k → get_or (x ∷ xs) k [] ≡ get_or xs (k - 1) []
later x xs zero h = absurd (omega arith)
later x xs (suc k) h = let z : k ≡ suc k - 1 = omega arith in ap (λ (j : ℕ). get_or xs j []) z

none : (k : ℕ) → get_or {A = Bytes} [] k [] ≡ []
none zero = refl
none (suc k) = refl

module _ (text : Bytes) (at end : ℕ) (e : LineEnds text at end) where
  pub start-on : (k : ℕ) → 1 ≤ k → end < length text → get_or (lines (drop at text)) k [] ≡ get_or (lines (drop (end + 1) text)) (k - 1) []
  start-on k h l = ap (λ (ls : List Bytes). get_or ls k []) (first-of-more text at end e l) ∙ later (slice at end text) (lines (drop (end + 1) text)) k h

  pub start-end : (k : ℕ) → 1 ≤ k → end ≡ length text → get_or (lines (drop at text)) k [] ≡ get_or (lines (drop end text)) 0 []
  unfolding lines lines_from
  start-end k h l =
      ap (λ (ls : List Bytes). get_or ls k []) (last_line text at end e (omega arith)) ∙ later (slice at end text) [] k h ∙ none (k - 1)
      ∙ sym (ap (λ (bs : Bytes). get_or (lines bs) 0 []) (drop_of_length-le text {i = end} (omega arith)))

  -- the line itself
  pub line-is : get_or (lines (drop at text)) 0 [] ≡ take (end - at) (drop at text)
  line-is = go (eqb end (length text)) refl
    where
      go : (b : Bool) → eqb end (length text) ≡ b → get_or (lines (drop at text)) 0 [] ≡ take (end - at) (drop at text)
      go true q = ap (λ (ls : List Bytes). get_or ls 0 []) (last_line text at end e (omega (arith, eqb-true end (length text) q))) ∙ part_slice text at end e.after
      go false q = ap (λ (ls : List Bytes). get_or ls 0 []) (first-of-more text at end e (omega (arith, eqb-false end (length text) q, e.inside))) ∙ part_slice text at end e.after
