-- Laws of the tally: what each line adds to the number of records.
use Prim.Native.Nat.{ℕ, suc, ◌+◌, ◌-◌, ◌≤◌, ◌<◌}
use native.Mathlib.Numerals.{add-one}
use native.Mathlib.Omega.{arith}
use mathlib.Core.Path.{◌≡◌, refl, sym, ap, ap₂, ◌∙◌}
use mathlib.Core.List.{◌∷◌}
use lib.ListN.{length, drop, drop_of_length-le}
use Rattle.spec_policy.specs.Bytes.{Bytes, spell}
use Rattle.spec_policy.specs.Parts
use Rattle.spec_text.specs.Forms.{size, Fields, record_of}
use Rattle.spec_text.specs.Reading.{nothing, unreadable, entry, Found, found, wrong, with_node, with_step, read_from, answer, line_of, read_lines, read_text}
use Rattle.spec_text.specs.Words.{lines, lines_from, words, words_from, ended}
use Rattle.text_forms.specs.Table.{form_count, node_forms, form_at}
use Rattle.text_forms.proofs.FormLaws.{form-node, form-step}
use Rattle.text_line.specs.declared.Line as code
use Rattle.text_line.specs.Lines.{line_meant}
use Rattle.std.specs.Prelude.{Some, None}
use Rattle.text_measure.specs.Measures.{Sizes, sized, wrong_at, sizes_read, sizes_found, plus, goes_on, ReadsOn, Counted}
use Rattle.text_measure.proofs.LineLaws.{nothing-more, read-on}
use Rattle.text_measure.specs.declared.Tally.{Tally}

-- ---- sizes

node-more : (xs : Fields) (f : Found) → sizes_found (with_node xs f) ≡ plus 1 0 (sizes_found f)
unfolding sizes_found sizes_read answer with_node plus record_of Parts.node spell size
node-more xs (found k ns ss) = ap₂ sized (omega arith) (omega arith)
node-more xs (wrong n) = refl

step-more : (xs : Fields) (f : Found) → sizes_found (with_step xs f) ≡ plus 0 1 (sizes_found f)
unfolding sizes_found sizes_read answer with_step plus record_of Parts.step spell size
step-more xs (found k ns ss) = ap₂ sized (omega arith) (omega arith)
step-more xs (wrong n) = refl

plus-plus : (a b c d : ℕ) (s : Sizes) → plus a b (plus c d s) ≡ plus (a + c) (b + d) s
unfolding plus
plus-plus a b c d (sized x y) = ap₂ sized (omega arith) (omega arith)
plus-plus a b c d (wrong_at n) = refl

-- ---- a line of each kind

module _ (t : Tally) where
  pub counted_none : Counted nothing t (Some t)
  unfolding read_from goes_on
  counted_none = record { nodes = omega arith; steps = omega arith; is = λ n ls. refl }

  pub counted_wrong : Counted unreadable t None
  unfolding read_from goes_on plus sizes_found sizes_read answer
  counted_wrong = record { nodes = tt; steps = tt; is = λ n ls. refl }

  module _ (form : ℕ) (xs : Fields) where
    pub counted-node : (room : ℕ) → form < node_forms → room ≡ (form_at form).room
        → Counted (entry (form_at form) xs) t (Some (record { nodes = t.nodes + 1; steps = t.steps; room = room }))
    unfolding read_from goes_on
    counted-node room h e = record {
      nodes = omega arith;
      steps = omega arith;
      is = λ n ls.
          let s : t.steps + 0 ≡ t.steps = omega arith in
          rw (form-node form h, read_from) (ap (plus t.nodes t.steps) (node-more xs (read_from (form_at form).room (suc n) ls))
          ∙ plus-plus t.nodes t.steps 1 0 (sizes_found (read_from (form_at form).room (suc n) ls))
          ∙ ap₂ (λ (x y : ℕ). plus (t.nodes + 1) x (sizes_found (read_from y (suc n) ls))) s (sym e));
    }

    module _ (low : node_forms ≤ form) (high : form < form_count) where
      pub counted-astray : t.room ≡ 0 → Counted (entry (form_at form) xs) t None
      unfolding read_from goes_on plus sizes_found sizes_read answer
      counted-astray z = record {
        nodes = tt;
        steps = tt;
        is = λ n ls.
            ap (λ (r : ℕ). plus t.nodes t.steps (sizes_found (read_from r n (entry (form_at form) xs ∷ ls)))) z ∙ rw (form-step form low high, read_from);
      }

      pub counted_step : (t.room ≡ 0 → ⊥) → Counted (entry (form_at form) xs) t (Some (record { nodes = t.nodes; steps = t.steps + 1; room = t.room - 1 }))
      unfolding read_from goes_on
      counted_step p = record {
        nodes = omega arith;
        steps = omega arith;
        is = λ n ls.
            let z : t.room ≡ suc (t.room - 1) = omega arith in
            let s : t.nodes + 0 ≡ t.nodes = omega arith in
            ap (λ (r : ℕ). plus t.nodes t.steps (sizes_found (read_from r n (entry (form_at form) xs ∷ ls)))) z
            ∙ rw (form-step form low high, read_from) (ap (plus t.nodes t.steps) (step-more xs (read_from (t.room - 1) (suc n) ls))
            ∙ plus-plus t.nodes t.steps 0 1 (sizes_found (read_from (t.room - 1) (suc n) ls))
            ∙ ap (λ (x : ℕ). plus x (t.steps + 1) (sizes_found (read_from (t.room - 1) (suc n) ls))) s);
      }

-- ---- the whole text

-- What the text is read as, by what was counted up to a place and what is read from there on.
pub record Tallied (text : Bytes) (t : Tally) (at line : ℕ) : Type 0 where
  pub inside : at ≤ length text
  pub lines : line ≤ at + 1
  pub nodes : t.nodes ≤ at
  pub steps : t.steps ≤ at
  pub all : sizes_read (read_text text) ≡ plus t.nodes t.steps (sizes_found (read_from t.room line (read_lines (drop at text))))

plus_none : (s : Sizes) → s ≡ plus 0 0 s
unfolding plus
plus_none (sized x y) = ap₂ sized (omega arith) (omega arith)
plus_none (wrong_at n) = refl

pub tallied-none : (text : Bytes) → Tallied text (record { nodes = 0; steps = 0; room = 0 }) 0 1
unfolding read_text sizes_found
tallied-none text = record { inside = omega arith; lines = omega arith; nodes = omega arith; steps = omega arith; all = plus_none (sizes_read (read_text text)) }

module _ (text : Bytes) (t : Tally) (at line : ℕ) (h : Tallied text t at line) where
  module _ (l : code.Line) (next : ℕ) (on : ReadsOn text at l next) where
    on_line : sizes_read (read_text text) ≡ plus t.nodes t.steps (sizes_found (read_from t.room line (line_meant l ∷ read_lines (drop next text))))
    on_line = h.all ∙ ap (λ (f : Found). plus t.nodes t.steps (sizes_found f)) (read-on (read_from t.room line) (λ l. nothing-more l t.room line) text at next (line_meant l) on.on)

    pub tallied-more : (r : Tally) → Counted (line_meant l) t (Some r) → Tallied text r next (line + 1)
    unfolding goes_on
    tallied-more r k = record {
      inside = on.inside;
      lines = omega (arith, h.lines, on.after);
      nodes = omega (arith, h.nodes, k.nodes, on.after);
      steps = omega (arith, h.steps, k.steps, on.after);
      all = on_line ∙ k.is line (read_lines (drop next text))
          ∙ ap (λ (n : ℕ). plus r.nodes r.steps (sizes_found (read_from r.room n (read_lines (drop next text))))) (sym (add-one line));
    }

    pub tallied-wrong : Counted (line_meant l) t None → wrong_at line ≡ sizes_read (read_text text)
    unfolding goes_on
    tallied-wrong k = sym (on_line ∙ k.is line (read_lines (drop next text)))

  pub tallied-all : length text ≤ at → sized t.nodes t.steps ≡ sizes_read (read_text text)
  unfolding plus sizes_found sizes_read answer read_from read_lines lines lines_from words words_from ended line_of size
  tallied-all l =
      sym (h.all ∙ ap (λ (bs : Bytes). plus t.nodes t.steps (sizes_found (read_from t.room line (read_lines bs)))) (drop_of_length-le text {i = at} l)
      ∙ ap₂ sized (omega arith) (omega arith))
