-- Laws of a text's lines by places.
use Prim.Native.Nat.{min, ℕ, zero, suc, ◌+◌, ◌-◌, ◌≤◌, ◌<◌}
use native.Mathlib.Omega.{arith}
use mathlib.Core.Path.{◌≡◌, refl, sym, ap, ◌∙◌, subst}
use mathlib.Core.Bool.{Bool, true, false}
use lib.Dec.{ltb}
use mathlib.Core.List.{List, [], ◌∷◌, map}
use borrow.Author.Tests.{eq-eqb, ne_eqb, ltb-true, ltb-false}
use lib.ListN.{length, get_or, take, drop, drop_of_length-le}
use lib.Seq.{slice, slice_empty}
use Rattle.spec_policy.specs.Bytes.{Bytes}
use Rattle.spec_text.specs.Words.{newline, lines_from, lines, words, words_from, ended}
use Rattle.spec_text.specs.Forms.{Sort, node, step}
use Rattle.spec_text.specs.Reading.{Line, nothing, unreadable, entry, line_of, read_lines, read_from}
use Rattle.text_words.proofs.ScanLaws.{from-here, slice-more, part_slice}
use Rattle.text_line.specs.declared.Line as code
use Rattle.text_line.specs.Lines.{line_meant, InTable}
use Rattle.text_measure.specs.Measures.{LineEnds, Follows, more, last, ReadsOn}

module _ (text : Bytes) where
  -- ---- the end of a line

  pub line-starts : (at : ℕ) → lines (drop at text) ≡ lines_from (slice at at text) (drop at text)
  unfolding lines
  line-starts at = ap (λ (l : Bytes). lines_from l (drop at text)) (sym (slice_empty at text))

  pub line-more : (at i : ℕ) → at ≤ i → i < length text → (get_or text i 0 ≡ newline → ⊥) → lines (drop at text) ≡ lines_from (slice at i text) (drop i text)
      → lines (drop at text) ≡ lines_from (slice at (i + 1) text) (drop (i + 1) text)
  unfolding lines_from
  line-more at i l h n s =
      s ∙ ap (lines_from (slice at i text)) (from-here text i h) ∙ rw (lines_from, ne_eqb (get_or text i 0) newline n)
      (ap (λ (x : Bytes). lines_from x (drop (i + 1) text)) (sym (slice-more text at i l h)))

  -- ---- the line, and what follows it

  module _ (at end : ℕ) (e : LineEnds text at end) where
    pub first-of-more : end < length text → lines (drop at text) ≡ slice at end text ∷ lines (drop (end + 1) text)
    unfolding lines lines_from
    first-of-more h = e.same ∙ ap (lines_from (slice at end text)) (from-here text end h) ∙ rw (lines_from, eq-eqb (get_or text end 0) newline (e.stops h))

    pub last_line : length text ≤ end → lines (drop at text) ≡ slice at end text ∷ []
    unfolding lines_from
    last_line h = e.same ∙ ap (lines_from (slice at end text)) (drop_of_length-le text {i = end} h)

-- an empty line after the last says nothing
pub nothing-more : (l : Line) (room n : ℕ) → read_from room n (l ∷ []) ≡ read_from room n (l ∷ nothing ∷ [])
unfolding read_from
nothing-more nothing room n = refl
nothing-more unreadable room n = refl
nothing-more (entry f xs) room n = go f.sort refl room
  where
    go : (s : Sort) → f.sort ≡ s → (r : ℕ) → read_from r n (entry f xs ∷ []) ≡ read_from r n (entry f xs ∷ nothing ∷ [])
    go node e r = rw (e, read_from)
    go step e zero = rw (e, read_from)
    go step e (suc r) = rw (e, read_from)

module _ (text : Bytes) (at end : ℕ) (line : code.Line) (h : at < length text) (e : LineEnds text at end) (table : InTable line)
    (is : line_of (words (take (end - at) (drop at text))) ≡ line_meant line) where
  is-line : line_of (words (slice at end text)) ≡ line_meant line
  is-line = ap (λ (l : Bytes). line_of (words l)) (part_slice text at end e.after) ∙ is

  pub reads_more : end < length text → ReadsOn text at line (end + 1)
  unfolding read_lines
  reads_more m = record {
    after = omega (arith, e.after);
    inside = omega arith;
    in_table = table;
    spoken = words (slice at end text);
    is = is-line;
    on = more (ap (map (λ l. line_of (words l))) (first-of-more text at end e m) ∙ ap (λ (l : Line). l ∷ read_lines (drop (end + 1) text)) is-line);
  }

  pub reads-last : length text ≤ end → ReadsOn text at line end
  unfolding read_lines
  reads-last m = record {
    after = omega arith;
    inside = e.inside;
    in_table = table;
    spoken = words (slice at end text);
    is = is-line;
    on = last (ap (map (λ l. line_of (words l))) (last_line text at end e m) ∙ ap (λ (l : Line). l ∷ []) is-line) (drop_of_length-le text {i = end} m);
  }

  -- the next line begins after the newline, or there is none
  e-inside : end ≤ length text
  e-inside = e.inside

  pub reads : (next : ℕ) → next ≡ min (end + 1) (length text) → ReadsOn text at line next
  reads next e = go (ltb end (length text)) refl
    where
      go : (b : Bool) → ltb end (length text) ≡ b → ReadsOn text at line next
      go true t = let l = ltb-true end (length text) t in let z : end + 1 ≡ next = omega arith in subst (ReadsOn text at line) z (reads_more l)
      go false t = let l = ltb-false end (length text) t in let z : end ≡ next = omega (arith, e-inside) in subst (ReadsOn text at line) z (reads-last l)

-- Of what does not heed an empty line after the last, the two are one.
pub read-on : {A : Type 0} (g : List Line → A) → ((l : Line) → g (l ∷ []) ≡ g (l ∷ nothing ∷ [])) → (text : Bytes) (at next : ℕ) (l : Line)
    → Follows text at next l → g (read_lines (drop at text)) ≡ g (l ∷ read_lines (drop next text))
unfolding read_lines lines lines_from words words_from ended line_of
read-on g h text at next l (more e) = ap g e
read-on g h text at next l (last e d) = ap g e ∙ h l ∙ ap (λ (bs : Bytes). g (l ∷ read_lines bs)) (sym d)
