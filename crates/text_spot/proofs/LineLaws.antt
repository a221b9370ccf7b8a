-- Laws of the line that a record is read from.
use Prim.Native.Nat.{ℕ, zero, suc, ◌+◌, ◌-◌, ◌≤◌}
use native.Mathlib.Numerals.{add-one}
use native.Mathlib.Omega.{arith}
use mathlib.Core.Path.{◌≡◌, refl, sym, ap, ◌∙◌}
use mathlib.Core.Bool.{Bool, true, false}
use mathlib.Core.List.{List, [], ◌∷◌}
use lib.ListN.{length, drop, drop_of_length-le}
use Rattle.spec_policy.specs.Bytes.{Bytes}
use Rattle.spec_text.specs.Words.{lines, lines_from, words, words_from, ended}
use Rattle.spec_text.specs.Forms.{Sort}
use Rattle.spec_text.specs.Reading.{Line, nothing, line_of, read_lines}
use Rattle.spec_text.specs.Where.{is_of, line_from}
use Rattle.text_line.specs.declared.Line as code
use Rattle.text_line.specs.Lines.{line_meant}
use Rattle.text_measure.specs.Measures.{ReadsOn}
use Rattle.text_measure.proofs.LineLaws.{read-on}

-- ---- one line

module _ (s : Sort) (n : ℕ) (l : Line) (ls : List Line) where
  line-here : is_of s l ≡ true → line_from s 0 n (l ∷ ls) ≡ n
  unfolding line_from
  line-here e = rw (line_from, e)

  line-next : (i : ℕ) → is_of s l ≡ true → line_from s (suc i) n (l ∷ ls) ≡ line_from s i (suc n) ls
  unfolding line_from
  line-next i e = rw (line_from, e)

  line_other : (i : ℕ) → is_of s l ≡ false → line_from s i n (l ∷ ls) ≡ line_from s i (suc n) ls
  unfolding line_from
  line_other i e = rw (line_from, e)

-- an empty line after the last is no record's
line_same : (s : Sort) (i n : ℕ) (l : Line) → line_from s i n (l ∷ []) ≡ line_from s i n (l ∷ nothing ∷ [])
unfolding line_from is_of
line_same s i n l = go (is_of s l) refl i
  where
    go : (b : Bool) → is_of s l ≡ b → (i : ℕ) → line_from s i n (l ∷ []) ≡ line_from s i n (l ∷ nothing ∷ [])
    go true e zero = rw (line_from, e)
    go true e (suc i) = rw (line_from, e)
    go false e i = rw (line_from, e)

-- ---- the lines of a text

module _ (text : Bytes) (s : Sort) (i : ℕ) where
  -- so many records of the sort are left to pass from a place on, where the line of this number begins
  pub record Sought (left at line : ℕ) : Type 0 where
    pub inside : at ≤ length text
    pub lines : line ≤ at + 1
    pub rest : line_from s i 1 (read_lines text) ≡ line_from s left line (read_lines (drop at text))

  pub sought-none : Sought i 0 1
  sought-none = record { inside = omega arith; lines = omega arith; rest = refl }

  module _ (left at line : ℕ) (p : Sought left at line) where
    pub not_there : length text ≤ at → 0 ≡ line_from s i 1 (read_lines text)
    unfolding line_from is_of read_lines lines lines_from words words_from ended line_of
    not_there h = sym (p.rest ∙ ap (λ (bs : Bytes). line_from s left line (read_lines bs)) (drop_of_length-le text {i = at} h))

    module _ (l : code.Line) (next : ℕ) (on : ReadsOn text at l next) where
      at-line : line_from s i 1 (read_lines text) ≡ line_from s left line (line_meant l ∷ read_lines (drop next text))
      at-line = p.rest ∙ read-on (line_from s left line) (λ m. line_same s left line m) text at next (line_meant l) on.on

      pub there : is_of s (line_meant l) ≡ true → left ≡ 0 → line ≡ line_from s i 1 (read_lines text)
      there e z = sym (at-line ∙ ap (λ (k : ℕ). line_from s k line (line_meant l ∷ read_lines (drop next text))) z
          ∙ line-here s line (line_meant l) (read_lines (drop next text)) e)

      sought : (k : ℕ) → line_from s i 1 (read_lines text) ≡ line_from s k (suc line) (read_lines (drop next text)) → Sought k next (line + 1)
      sought k e = record {
        inside = on.inside;
        lines = omega (arith, p.lines, on.after);
        rest = e ∙ ap (λ (n : ℕ). line_from s k n (read_lines (drop next text))) (sym (add-one line));
      }

      pub sought-next : is_of s (line_meant l) ≡ true → (left ≡ 0 → ⊥) → Sought (left - 1) next (line + 1)
      sought-next e m =
          let z : left ≡ suc (left - 1) = omega arith in
          sought (left - 1) (at-line ∙ ap (λ (k : ℕ). line_from s k line (line_meant l ∷ read_lines (drop next text))) z
          ∙ line-next s line (line_meant l) (read_lines (drop next text)) (left - 1) e)

      pub sought-other : is_of s (line_meant l) ≡ false → Sought left next (line + 1)
      sought-other e = sought left (at-line ∙ line_other s line (line_meant l) (read_lines (drop next text)) left e)
