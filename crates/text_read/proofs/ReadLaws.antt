-- All lines copied, and what reading a text gives.
use Prim.Native.Nat.{ℕ, zero, suc, ◌+◌, ◌*◌, ◌/◌, ◌%◌, ◌≤◌, ◌<◌}
use native.Mathlib.Omega.{arith}
use mathlib.Core.Path.{◌≡◌, refl, sym, ap, ap₂, ◌∙◌}
use mathlib.Core.Bool.{and-false}
use mathlib.Core.List.{List, [], ◌∷◌}
use borrow.Author.Tests.{le-leb, lt-leb}
use lib.Dec.{leb}
use lib.ListN.{length, drop, length-append, drop_of_length-le}
use Rattle.spec_policy.specs.Bytes.{Bytes, put}
use Rattle.spec_text.specs.Words.{lines, lines_from, words, words_from, ended}
use Rattle.spec_text.specs.Forms.{Sort, node, step, size, record_of}
use Rattle.spec_text.specs.Reading.{records, Line, nothing, unreadable, entry, line_of, read_lines, Found, found, wrong, read_from, answer, read_text}
use Rattle.spec_text.specs.Reading as text
use Rattle.spec_text.proofs.RecordLaws.{record-size}
use Rattle.text_line.specs.declared.Line as code
use Rattle.text_line.specs.Lines.{line_meant}
use Rattle.text_measure.specs.Measures.{ReadsOn, sized, wrong_at, sizes_read}
use Rattle.text_measure.proofs.LineLaws.{nothing-more, read-on}
use Rattle.text_read.specs.Written.{lead_in, Buffers, buffers, written, Roomy, Ready}
use Rattle.text_read.specs.Transcribed.{gave, transcribed}
use Rattle.std.specs.Prelude.{Ok, Err}
use Rattle.text_read.specs.declared.ReadError.TheVariants.{BadLine, Short}
use Rattle.text_read.proofs.WrittenLaws.{node-before, step-before, NodeBefore, StepBefore, written-found}
use Rattle.text_read.proofs.FitLaws.{line-fits}

-- ---- line after line

written_last : (l : Line) (i j : ℕ) (N S : Bytes) → written (l ∷ []) i j N S ≡ written (l ∷ nothing ∷ []) i j N S
unfolding written lead_in
written_last nothing i j N S = refl
written_last unreadable i j N S = refl
written_last (entry f xs) i j N S = go f.sort refl
  where
    go : (s : Sort) → f.sort ≡ s → written (entry f xs ∷ []) i j N S ≡ written (entry f xs ∷ nothing ∷ []) i j N S
    go node e = rw (e, written)
    go step e = rw (e, written)

module _ (text : Bytes) (at : ℕ) (line : code.Line) (next : ℕ) (on : ReadsOn text at line next) (i j : ℕ) (N S : Bytes) where
  pub ready : Roomy (read_lines (drop at text)) i j N S → Ready text next line i j N S
  ready r = record {
    inside = on.inside;
    in_table = on.in_table;
    bytes = line-fits line on.in_table on.spoken on.is;
    roomy = record {
      room = r.room;
      number = r.number;
      lead = r.lead;
      nodes = r.nodes;
      steps = r.steps;
      reads = sym (read-on (read_from r.room r.number) (λ l. nothing-more l r.room r.number) text at next (line_meant line) on.on) ∙ r.reads;
      few = r.few;
      nodes_fit = r.nodes_fit;
      steps_fit = r.steps_fit;
    };
  }

  pub written_on : written (read_lines (drop at text)) i j N S ≡ written (line_meant line ∷ read_lines (drop next text)) i j N S
  written_on = read-on (λ ls. written ls i j N S) (λ l. written_last l i j N S) text at next (line_meant line) on.on

pub written-end : (text : Bytes) (at i j : ℕ) (N S : Bytes) → length text ≤ at → written (read_lines (drop at text)) i j N S ≡ buffers N S
unfolding written read_lines lines lines_from words words_from ended line_of
written-end text at i j N S h = ap (λ (bs : Bytes). written (read_lines bs) i j N S) (drop_of_length-le text {i = at} h)

-- ---- whole records

pub record Whole (ns ss : Bytes) : Type 0 where
  pub nodes : length ns % 16 ≡ 0
  pub steps : length ss % 12 ≡ 0

whole : (ls : List Line) (room n k : ℕ) (ns ss : Bytes) → read_from room n ls ≡ found k ns ss → Whole ns ss
unfolding read_from size
whole [] room n k ns ss e =
    let p : [] ≡ ns = cc in
    let q : [] ≡ ss = cc in
    record { nodes = sym (ap (λ (l : Bytes). length l % 16) p); steps = sym (ap (λ (l : Bytes). length l % 12) q) }
whole (nothing ∷ ls) room n k ns ss e = whole ls room (suc n) k ns ss e
whole (unreadable ∷ ls) room n k ns ss e = let z : ◌≡◌ {A = ℕ} 0 1 = cc in absurd (omega arith)
whole (entry f xs ∷ ls) room n k ns ss e = go f.sort refl room e (λ r. whole ls r (suc n))
  where
    go : (s : Sort) → f.sort ≡ s → (r : ℕ) → read_from r n (entry f xs ∷ ls) ≡ found k ns ss
        → ((r k : ℕ) (ns ss : Bytes) → read_from r (suc n) ls ≡ found k ns ss → Whole ns ss) → Whole ns ss
    go node q r h ih =
        let x : NodeBefore xs (read_from f.room (suc n) ls) k ns ss = node-before xs (read_from f.room (suc n) ls) k ns ss (rw (q, read_from) at h) in
        let w : Whole x.rest ss = ih f.room x.lead x.rest ss x.is in
        let l : length ns ≡ 16 + length x.rest = ap length x.nodes ∙ length-append (record_of node x.lead xs) x.rest ∙ ap (λ (m : ℕ). m + length x.rest) (record-size node x.lead xs) in
        record { nodes = omega (arith, w.nodes); steps = w.steps }
    go step q zero h ih = let u : wrong n ≡ found k ns ss = rw (q, read_from) at h in let z : ◌≡◌ {A = ℕ} 0 1 = cc in absurd (omega arith)
    go step q (suc r) h ih =
        let x : StepBefore xs (read_from r (suc n) ls) k ns ss = step-before xs (read_from r (suc n) ls) k ns ss (rw (q, read_from) at h) in
        let w : Whole ns x.rest = ih r x.lead ns x.rest x.is in
        let l : length ss ≡ 12 + length x.rest = ap length x.steps ∙ length-append (record_of step 0 xs) x.rest ∙ ap (λ (m : ℕ). m + length x.rest) (record-size step 0 xs) in
        record { nodes = w.nodes; steps = omega (arith, w.steps) }

-- ---- the whole text

module _ (t N S : Bytes) where
  pub gave-bad : (line : ℕ) → wrong_at line ≡ sizes_read (read_text t) → transcribed (read_text t) N S ≡ gave (Err (BadLine line)) N S
  unfolding read_text answer sizes_read transcribed
  gave-bad line = by (read_from 0 1 (read_lines t))
    where
      by : (f : Found) → wrong_at line ≡ sizes_read (answer f) → transcribed (answer f) N S ≡ gave (Err (BadLine line)) N S
      by (found k ns ss) e = let z : ◌≡◌ {A = ℕ} 0 1 = cc in absurd (omega arith)
      by (wrong n) e = let q : n ≡ line = cc in ap (λ (x : ℕ). gave (Err (BadLine x)) N S) q

  -- What the text is read as, where so many records were counted.
  pub record Counts (n m : ℕ) : Type 0 where
    pub lead : ℕ
    pub nodes : Bytes
    pub steps : Bytes
    pub reads : read_from 0 1 (read_lines t) ≡ found lead nodes steps
    pub nodes_long : length nodes ≡ 16 * n
    pub steps_long : length steps ≡ 12 * m

  pub counts : (n m : ℕ) → sized n m ≡ sizes_read (read_text t) → Counts n m
  unfolding read_text answer sizes_read size
  counts n m e = by (read_from 0 1 (read_lines t)) refl e
    where
      by : (f : Found) → read_from 0 1 (read_lines t) ≡ f → sized n m ≡ sizes_read (answer f) → Counts n m
      by (found k ns ss) q h =
          let w : Whole ns ss = whole (read_lines t) 0 1 k ns ss q in
          let a : n ≡ length ns / 16 = cc in
          let b : m ≡ length ss / 12 = cc in
          record { lead = k; nodes = ns; steps = ss; reads = q; nodes_long = omega (arith, w.nodes); steps_long = omega (arith, w.steps) }
      by (wrong l) q h = let z : ◌≡◌ {A = ℕ} 0 1 = cc in absurd (omega arith)

  module _ (n m : ℕ) (c : Counts n m) where
    is_read : read_text t ≡ records c.nodes c.steps
    unfolding read_text answer
    is_read = ap answer c.reads

    pub short-nodes : length N / 16 < n → transcribed (read_text t) N S ≡ gave (Err Short) N S
    unfolding transcribed
    short-nodes h =
        ap (λ (r : text.Read). transcribed r N S) is_read ∙ rw (transcribed, lt-leb (length c.nodes) (length N) (omega (arith, c.nodes_long)))

    pub short-steps : length S / 12 < m → transcribed (read_text t) N S ≡ gave (Err Short) N S
    unfolding transcribed
    short-steps h =
        ap (λ (r : text.Read). transcribed r N S) is_read
        ∙ rw (transcribed, lt-leb (length c.steps) (length S) (omega (arith, c.steps_long)), and-false (leb (length c.nodes) (length N)))

    module _ (a : n ≤ length N / 16) (b : m ≤ length S / 12) where
      pub roomy-all : Roomy (read_lines t) 0 0 N S
      unfolding size
      roomy-all = record {
        room = 0;
        number = 1;
        lead = c.lead;
        nodes = c.nodes;
        steps = c.steps;
        reads = c.reads;
        few = omega arith;
        nodes_fit = omega (arith, c.nodes_long);
        steps_fit = omega (arith, c.steps_long);
      }

      pub gave_read : (N' S' : Bytes) → written (read_lines t) 0 0 N S ≡ buffers N' S' → transcribed (read_text t) N S ≡ gave (Ok (record { nodes = n; steps = m })) N' S'
      unfolding transcribed size
      gave_read N' S' e =
          let w : buffers N' S' ≡ buffers (put N 0 c.nodes) (put S 0 c.steps) =
          sym e ∙ written-found (read_lines t) 0 1 c.lead c.nodes c.steps c.reads 0 0 N S (omega (arith, c.nodes_long)) (omega (arith, c.steps_long)) in
          let x : length c.nodes / 16 ≡ n = omega (arith, c.nodes_long) in
          let y : length c.steps / 12 ≡ m = omega (arith, c.steps_long) in
          ap (λ (r : text.Read). transcribed r N S) is_read
          ∙ rw (transcribed, le-leb (length c.nodes) (length N) (omega (arith, c.nodes_long)), le-leb (length c.steps) (length S) (omega (arith, c.steps_long)))
          (ap₂ (λ (u v : ℕ). gave (Ok (record { nodes = u; steps = v })) (put N 0 c.nodes) (put S 0 c.steps)) x y ∙ ap (λ (q : Buffers). gave (Ok (record { nodes = n; steps = m })) q.nodes q.steps) (sym w))
