-- One line copied, and what is left to be copied.
use Prim.Native.Nat.{ℕ, zero, suc, ◌+◌, ◌*◌, ◌≤◌, ◌<◌}
use native.Mathlib.Omega.{arith}
use mathlib.Core.Path.{◌≡◌, refl, sym, ap, ◌∙◌, subst}
use mathlib.Core.List.{List, [], ◌∷◌}
use lib.Dec.{leb, leb→le}
use lib.ListN.{length, length-append}
use Rattle.spec_policy.specs.Bytes.{Bytes, put}
use Rattle.spec_policy.specs.Lists.{every, listed}
use Rattle.spec_policy.proofs.ByteLaws.{put-length}
use Rattle.spec_text.specs.Forms.{Sort, node, step, size, Fields, Form, record_of, forms}
use Rattle.spec_text.specs.Reading.{Line, nothing, unreadable, entry, found, wrong, read_from}
use Rattle.spec_text.proofs.RecordLaws.{record-size}
use Rattle.text_forms.specs.Table.{form_count, node_forms, no_form, form_at}
use Rattle.text_forms.proofs.TableLaws.{tested_at}
use Rattle.text_forms.proofs.FormLaws.{form-node, form-step}
use Rattle.text_line.specs.declared.Line as code
use Rattle.text_line.specs.declared.Line.TheVariants.{Nothing, Unreadable, Record}
use Rattle.text_line.specs.Lines.{line_meant}
use Rattle.text_read.specs.Written.{lead_in, written, Roomy, Copied}
use Rattle.text_read.proofs.WrittenLaws.{NodeBefore, node-before, StepBefore, step-before, lead_is}

-- no more steps are read than may follow
lead-few : (ls : List Line) (room n k : ℕ) (ns ss : Bytes) → read_from room n ls ≡ found k ns ss → k ≤ room
unfolding read_from
lead-few [] room n k ns ss e = let q : 0 ≡ k = cc in omega arith
lead-few (nothing ∷ ls) room n k ns ss e = lead-few ls room (suc n) k ns ss e
lead-few (unreadable ∷ ls) room n k ns ss e = let z : ◌≡◌ {A = ℕ} 0 1 = cc in absurd (omega arith)
lead-few (entry f xs ∷ ls) room n k ns ss e = go f.sort refl room e (λ r. lead-few ls r (suc n))
  where
    go : (s : Sort) → f.sort ≡ s → (r : ℕ) → read_from r n (entry f xs ∷ ls) ≡ found k ns ss
        → ((r k : ℕ) (ns ss : Bytes) → read_from r (suc n) ls ≡ found k ns ss → k ≤ r) → k ≤ r
    go node q r h ih = omega (arith, (node-before xs (read_from f.room (suc n) ls) k ns ss (rw (q, read_from) at h)).none)
    go step q zero h ih = let u : wrong n ≡ found k ns ss = rw (q, read_from) at h in let z : ◌≡◌ {A = ℕ} 0 1 = cc in absurd (omega arith)
    go step q (suc r) h ih =
        let b : StepBefore xs (read_from r (suc n) ls) k ns ss = step-before xs (read_from r (suc n) ls) k ns ss (rw (q, read_from) at h) in
        omega (arith, b.more, ih r b.lead ns b.rest b.is)

few-room : (form : ℕ) → form < form_count → (form_at form).room ≤ 255
unfolding listed every form_at no_form forms
few-room form h = leb→le (form_at form).room 255 (tested_at (λ i. leb (form_at i).room 255) form_count tt form h)

module _ (form : ℕ) (xs : Fields) (ls : List Line) (i j : ℕ) (N S : Bytes) (r : Roomy (entry (form_at form) xs ∷ ls) i j N S) where
  module _ (h : form < node_forms) where
    f : Form
    f = form_at form

    before : NodeBefore xs (read_from f.room (suc r.number) ls) r.lead r.nodes r.steps
    unfolding f read_from
    before =
        node-before xs (read_from (form_at form).room (suc r.number) ls) r.lead r.nodes r.steps
        (sym (rw (form-node form h, read_from)) ∙ r.reads)

    size_of : length r.nodes ≡ 16 + length before.rest
    unfolding size
    size_of = ap length before.nodes ∙ length-append (record_of node before.lead xs) before.rest ∙ ap (λ (n : ℕ). n + length before.rest) (record-size node before.lead xs)

    pub node-room : 16 * i + 16 ≤ length N
    unfolding size
    node-room = omega (arith, r.nodes_fit, size_of)

    lead-here : before.lead ≡ lead_in ls
    lead-here = lead_is ls f.room (suc r.number) before.lead before.rest r.steps before.is

    pub few-steps : lead_in ls ≤ 255
    unfolding f
    few-steps = omega (arith, lead-here, lead-few ls f.room (suc r.number) before.lead before.rest r.steps before.is, few-room form (omega arith))

    pub node-copied : (N' : Bytes) → N' ≡ put N (16 * i) (record_of node (lead_in ls) xs) → Copied (entry (form_at form) xs) ls i j N S (i + 1) j N' S
    unfolding f written size
    node-copied N' e = record {
      same = rw (form-node form h, written) (ap (λ (b : Bytes). written ls (i + 1) j b S) (sym e));
      roomy = record {
        room = f.room;
        number = suc r.number;
        lead = before.lead;
        nodes = before.rest;
        steps = r.steps;
        reads = before.is;
        few = few-room form (omega arith);
        nodes_fit = omega (arith, r.nodes_fit, size_of, ap length e, put-length N (16 * i) (record_of node (lead_in ls) xs) (omega (arith, node-room, record-size node (lead_in ls) xs)));
        steps_fit = r.steps_fit;
      };
    }

  module _ (low : node_forms ≤ form) (h : form < form_count) where
    -- a step may stand there, so some room was left
    step-read : (room : ℕ) → read_from room r.number (entry (form_at form) xs ∷ ls) ≡ found r.lead r.nodes r.steps → room ≤ 255
        → (m : ℕ) × (m ≤ 255) × StepBefore xs (read_from m (suc r.number) ls) r.lead r.nodes r.steps
    unfolding read_from
    step-read zero e l =
        let u : wrong r.number ≡ found r.lead r.nodes r.steps = rw (form-step form low h, read_from) at e in
        let z : ◌≡◌ {A = ℕ} 0 1 = cc in absurd (omega arith)
    step-read (suc m) e l = (m, omega arith, step-before xs (read_from m (suc r.number) ls) r.lead r.nodes r.steps (rw (form-step form low h, read_from) at e))

    after : (m : ℕ) × (m ≤ 255) × StepBefore xs (read_from m (suc r.number) ls) r.lead r.nodes r.steps
    after = step-read r.room r.reads r.few

    steps-size : length r.steps ≡ 12 + length after.2.rest
    unfolding size
    steps-size = ap length after.2.steps ∙ length-append (record_of step 0 xs) after.2.rest ∙ ap (λ (n : ℕ). n + length after.2.rest) (record-size step 0 xs)

    pub step-room : 12 * j + 12 ≤ length S
    unfolding size
    step-room = omega (arith, r.steps_fit, steps-size)

    pub step-copied : (S' : Bytes) → S' ≡ put S (12 * j) (record_of step 0 xs) → Copied (entry (form_at form) xs) ls i j N S i (j + 1) N S'
    unfolding written size
    step-copied S' e = record {
      same = rw (form-step form low h, written) (ap (λ (b : Bytes). written ls i (j + 1) N b) (sym e));
      roomy = record {
        room = after.0;
        number = suc r.number;
        lead = after.2.lead;
        nodes = r.nodes;
        steps = after.2.rest;
        reads = after.2.is;
        few = after.1;
        nodes_fit = r.nodes_fit;
        steps_fit = omega (arith, r.steps_fit, steps-size, ap length e, put-length S (12 * j) (record_of step 0 xs) (omega (arith, step-room, record-size step 0 xs)));
      };
    }

-- what is no record is nothing, since the lines are read
pub nothing-copied : (ls : List Line) (i j : ℕ) (N S : Bytes) → Roomy (nothing ∷ ls) i j N S → Copied nothing ls i j N S i j N S
unfolding read_from written
nothing-copied ls i j N S r = record {
  same = refl;
  roomy = record {
    room = r.room;
    number = suc r.number;
    lead = r.lead;
    nodes = r.nodes;
    steps = r.steps;
    reads = r.reads;
    few = r.few;
    nodes_fit = r.nodes_fit;
    steps_fit = r.steps_fit;
  };
}

pub none-bad : (ls : List Line) (i j : ℕ) (N S : Bytes) → Roomy (unreadable ∷ ls) i j N S → ⊥
unfolding read_from
none-bad ls i j N S r =
    let u : wrong r.number ≡ found r.lead r.nodes r.steps = r.reads in
    absurd (cc)

-- ---- a line as the code has it

pub roomy_as : (line : code.Line) {l : Line} {ls : List Line} {i j : ℕ} {N S : Bytes} → Roomy (line_meant line ∷ ls) i j N S → line_meant line ≡ l → Roomy (l ∷ ls) i j N S
roomy_as line {l} {ls} {i} {j} {N} {S} r e = subst (λ (x : Line). Roomy (x ∷ ls) i j N S) e r

pub copied_as : (line : code.Line) {l : Line} {ls : List Line} {i j i' j' : ℕ} {N S N' S' : Bytes} → Copied l ls i j N S i' j' N' S' → line_meant line ≡ l
    → Copied (line_meant line) ls i j N S i' j' N' S'
copied_as line {l} {ls} {i} {j} {i'} {j'} {N} {S} {N'} {S'} c e = subst (λ (x : Line). Copied x ls i j N S i' j' N' S') (sym e) c

pub other-copied : (line : code.Line) → ((form : ℕ) (xs : Fields) → line ≡ Record form xs → ⊥) → (ls : List Line) (i j : ℕ) (N S : Bytes)
    → Roomy (line_meant line ∷ ls) i j N S → Copied (line_meant line) ls i j N S i j N S
unfolding line_meant
other-copied Nothing n ls i j N S r = nothing-copied ls i j N S r
other-copied Unreadable n ls i j N S r = absurd (none-bad ls i j N S r)
other-copied (Record form xs) n ls i j N S r = absurd (n form xs refl)
