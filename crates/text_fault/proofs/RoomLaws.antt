-- Laws of how many steps may follow the last node.
use Prim.Native.Nat.{ℕ, zero, suc, ◌-◌, ◌≤◌, ◌<◌}
use native.Mathlib.Omega.{arith}
use mathlib.Core.Path.{◌≡◌, refl, sym, ap, ◌∙◌}
use mathlib.Core.List.{List, [], ◌∷◌}
use lib.ListN.{length, take, drop, drop_of_length-le}
use lib.Seq.{take-nil}
use Rattle.spec_policy.specs.Bytes.{Bytes}
use Rattle.spec_text.specs.Words.{lines, lines_from, words, words_from, ended}
use Rattle.spec_text.specs.Forms.{Sort, node, step, Fields}
use Rattle.spec_text.specs.Reading.{Line, nothing, unreadable, entry, line_of, read_lines}
use Rattle.text_forms.specs.Table.{form_count, node_forms, form_at}
use Rattle.text_forms.proofs.FormLaws.{form-node, form-step}
use Rattle.text_line.specs.declared.Line as code
use Rattle.text_line.specs.Lines.{line_meant}
use Rattle.text_measure.specs.Measures.{ReadsOn}
use Rattle.text_measure.proofs.LineLaws.{read-on}
use Rattle.text_fault.specs.Expected.{room_after}

-- ---- one line

module _ (form room : ℕ) (xs : Fields) (ls : List Line) where
  pub room-node : (r : ℕ) → form < node_forms → r ≡ (form_at form).room → room_after room (entry (form_at form) xs ∷ ls) ≡ room_after r ls
  unfolding room_after
  room-node r h e = rw (form-node form h, room_after) (ap (λ (y : ℕ). room_after y ls) (sym e))

  pub room-step : node_forms ≤ form → form < form_count → room_after room (entry (form_at form) xs ∷ ls) ≡ room_after room ls
  unfolding room_after
  room-step l h = rw (form-step form l h, room_after)

-- ---- the lines before one

-- an empty line after the last changes nothing
room-same : (room : ℕ) (l : Line) → room_after room (l ∷ []) ≡ room_after room (l ∷ nothing ∷ [])
unfolding room_after
room-same room nothing = refl
room-same room unreadable = refl
room-same room (entry f xs) = go f.sort refl
  where
    go : (s : Sort) → f.sort ≡ s → room_after room (entry f xs ∷ []) ≡ room_after room (entry f xs ∷ nothing ∷ [])
    go node e = rw (e, room_after)
    go step e = rw (e, room_after)

room-last : (room : ℕ) (l : Line) (k : ℕ) → room_after room (take k (l ∷ [])) ≡ room_after room (take k (l ∷ nothing ∷ []))
room-last room l zero = refl
room-last room l (suc zero) = refl
room-last room l (suc (suc k)) = room-same room l ∙ sym (ap (λ (ls : List Line). room_after room (l ∷ nothing ∷ ls)) (take-nil k))

first_taken : (l : Line) (ls : List Line) (k : ℕ) → 1 ≤ k → take k (l ∷ ls) ≡ l ∷ take (k - 1) ls
first_taken l ls zero h = absurd (omega arith)
first_taken l ls (suc k) h = let z : k ≡ suc k - 1 = omega arith in ap (λ (j : ℕ). l ∷ take j ls) z

module _ (text : Bytes) (at room k : ℕ) where
  pub room-on : (l : code.Line) (next : ℕ) → ReadsOn text at l next → 1 ≤ k → (r : ℕ)
      → ((ls : List Line) → room_after room (line_meant l ∷ ls) ≡ room_after r ls)
      → room_after room (take k (read_lines (drop at text))) ≡ room_after r (take (k - 1) (read_lines (drop next text)))
  room-on l next on h r e =
      read-on (λ ls. room_after room (take k ls)) (λ m. room-last room m k) text at next (line_meant l) on.on
      ∙ ap (room_after room) (first_taken (line_meant l) (read_lines (drop next text)) k h) ∙ e (take (k - 1) (read_lines (drop next text)))

  pub room-end : length text ≤ at → room_after room (take k (read_lines (drop at text))) ≡ room
  unfolding room_after read_lines lines lines_from words words_from ended line_of
  room-end h = ap (λ (bs : Bytes). room_after room (take k (read_lines bs))) (drop_of_length-le text {i = at} h) ∙ go k
    where
      go : (k : ℕ) → room_after room (take k (nothing ∷ [])) ≡ room
      go zero = refl
      go (suc zero) = refl
      go (suc (suc k)) = refl
