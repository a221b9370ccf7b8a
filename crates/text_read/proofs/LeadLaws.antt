-- Laws of the steps before the next node, line by line.
use Prim.Native.Nat.{ℕ, ◌+◌, ◌≤◌, ◌<◌}
use native.Mathlib.Numerals.{one-add}
use native.Mathlib.Omega.{arith}
use mathlib.Core.Path.{◌≡◌, refl, sym, ap}
use mathlib.Core.List.{List, [], ◌∷◌}
use lib.ListN.{length, drop, drop_of_length-le}
use Rattle.spec_policy.specs.Bytes.{Bytes}
use Rattle.spec_text.specs.Words.{lines, lines_from, words, words_from, ended}
use Rattle.spec_text.specs.Forms.{Sort, node, step, Fields}
use Rattle.spec_text.specs.Reading.{Line, nothing, unreadable, entry, line_of, read_lines}
use Rattle.text_forms.specs.Table.{form_count, node_forms, form_at}
use Rattle.text_forms.proofs.FormLaws.{form-node, form-step}
use Rattle.text_line.specs.declared.Line as code
use Rattle.text_line.specs.Lines.{line_meant}
use Rattle.text_measure.specs.Measures.{ReadsOn}
use Rattle.text_measure.proofs.LineLaws.{read-on}
use Rattle.text_read.specs.Written.{lead_in}

-- an empty line after the last adds none
pub lead-last : (l : Line) → lead_in (l ∷ []) ≡ lead_in (l ∷ nothing ∷ [])
unfolding lead_in
lead-last nothing = refl
lead-last unreadable = refl
lead-last (entry f xs) = go f.sort refl
  where
    go : (s : Sort) → f.sort ≡ s → lead_in (entry f xs ∷ []) ≡ lead_in (entry f xs ∷ nothing ∷ [])
    go node e = rw (e, lead_in)
    go step e = rw (e, lead_in)

module _ (form : ℕ) (xs : Fields) (ls : List Line) where
  pub lead-node : form < node_forms → lead_in (entry (form_at form) xs ∷ ls) ≡ 0
  unfolding lead_in
  lead-node h = rw (form-node form h, lead_in)

  pub lead-step : node_forms ≤ form → form < form_count → lead_in (entry (form_at form) xs ∷ ls) ≡ 1 + lead_in ls
  unfolding lead_in
  lead-step l h = rw (form-step form l h, lead_in) (sym (one-add (lead_in ls)))

pub lead-nothing : (ls : List Line) → lead_in (nothing ∷ ls) ≡ 0 + lead_in ls
unfolding lead_in
lead-nothing ls = omega arith

pub lead-bad : (ls : List Line) → lead_in (unreadable ∷ ls) ≡ 0
unfolding lead_in
lead-bad ls = refl

-- from a place of the text on
pub lead-on : (text : Bytes) (at : ℕ) (line : code.Line) (next : ℕ) → ReadsOn text at line next
    → lead_in (read_lines (drop at text)) ≡ lead_in (line_meant line ∷ read_lines (drop next text))
lead-on text at line next r = read-on lead_in lead-last text at next (line_meant line) r.on

pub lead-end : (text : Bytes) (i : ℕ) → length text ≤ i → lead_in (read_lines (drop i text)) ≡ 0
unfolding lead_in read_lines lines lines_from words words_from ended line_of
lead-end text i h = ap (λ (bs : Bytes). lead_in (read_lines bs)) (drop_of_length-le text {i = i} h)
