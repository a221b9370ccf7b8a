-- A written file: its length, its front, and that it keeps rules 1 and 2, and rule 3 just where its buffers are fit to be lent.
--
use Prim.Native.Nat.{ℕ, ◌+◌, ◌*◌, ◌/◌, ◌%◌, ◌≤◌, ◌<◌}
use native.Mathlib.Nat.{div-add-mod, mul-div_right, mul-mod_right}
use native.Mathlib.Omega.{arith}
use mathlib.Core.Path.{◌≡◌, refl, sym, ap, ◌∙◌}
use mathlib.Core.Bool.{Bool, true, false, ◌&&◌}
use lib.Dec.{T, eqb, leb, eqb→eq, leb→le}
use lib.ListN.{length, take, drop, length-append}
use lib.Seq.{take_at}
use borrow.Author.Tests.{eq-eqb, le-leb, le-ltb}
use Rattle.actions.proofs.Tests.{yes_of, of-yes, and_intro, and_left, and_right, true-not-false}
use Rattle.spec_policy.specs.Bytes.{Bytes, spelt, number, spell, put}
use Rattle.spec_policy.specs.Records.{node_size, step_size, most_nodes, most_steps, length_field, version_field, node_count, step_count, node_place, step_place}
use Rattle.spec_policy.specs.Parts.{file}
use Rattle.spec_policy.proofs.ByteLaws.{spelt-spell}
use Rattle.spec_policy.specs.Spots.{bare_fault}
use Rattle.spec_check.specs.Layout.{broken1, broken2, broken3, CountsFit}
use Rattle.spec_check.specs.Check.{rules, Answer, refused, tried, check}
use Rattle.spec_check.proofs.Rows.{counts-fit}
use Rattle.spec_writer.specs.Writing.{holds, written, whole, from_three, refusal, after, writes}
use Rattle.spec_writer.specs.Lent.{lendable, Lent}

-- ---- whole records

pub whole_length : (size : ℕ) (bs : Bytes) → T (whole size bs) → length bs ≡ size * holds size bs
unfolding whole holds
whole_length size bs t = let e : length bs % size ≡ 0 = eqb→eq (length bs % size) 0 t in omega (arith, div-add-mod (length bs) size)

-- as many as the bytes make up
pub holds-is : (size k : ℕ) (bs : Bytes) → 0 < size → length bs ≡ size * k → holds size bs ≡ k
unfolding holds
holds-is size k bs h e = ap (λ (n : ℕ). n / size) e ∙ mul-div_right k h

pub whole_is : (size k : ℕ) (bs : Bytes) → length bs ≡ size * k → T (whole size bs)
unfolding whole
whole_is size k bs e = of-yes (eqb (length bs % size) 0) (eq-eqb (length bs % size) 0 (ap (λ (n : ℕ). n % size) e ∙ mul-mod_right size k))

-- ---- the front

module _ (nodes steps : Bytes) where
  pub written-length : length (written nodes steps) ≡ 6 + length nodes + length steps
  unfolding written file spell
  written-length = simp length-append (omega arith)

  version : version_field (written nodes steps) ≡ 1
  unfolding version_field number spelt written file spell
  version = refl

  pub node-count : node_count (written nodes steps) ≡ holds node_size nodes
  unfolding node_count number spelt written file spell
  node-count = omega arith

  step-count : step_count (written nodes steps) ≡ holds step_size steps % 65536
  unfolding step_count number written file spell
  step-count = spelt-spell 0 2 (holds step_size steps) ∙ omega arith

  length-told : length_field (written nodes steps) ≡ (6 + node_size * holds node_size nodes + step_size * holds step_size steps) % 65536
  unfolding length_field number written file spell
  length-told = spelt-spell 0 2 (6 + node_size * holds node_size nodes + step_size * holds step_size steps) ∙ omega arith

  -- ---- buffers fit to be lent

  module _ (l : Lent nodes steps) where
    pub step-count-lent : step_count (written nodes steps) ≡ holds step_size steps
    step-count-lent = step-count ∙ omega arith

    pub kept1 : broken1 (written nodes steps) ≡ false
    unfolding broken1
    kept1 =
        let a : 6 ≤ length (written nodes steps) = omega (arith, written-length) in
        let b : length_field (written nodes steps) ≡ length (written nodes steps) = omega (arith, length-told, written-length) in
        rw (le-ltb (length (written nodes steps)) 6 a, eq-eqb (length_field (written nodes steps)) (length (written nodes steps)) b)

    pub kept2 : broken2 (written nodes steps) ≡ false
    unfolding broken2
    kept2 = rw (eq-eqb (version_field (written nodes steps)) 1 version)

    pub kept3 : broken3 (written nodes steps) ≡ false
    unfolding broken3 step_place node_place
    kept3 =
        let e : length (written nodes steps) ≡ step_place (written nodes steps) (step_count (written nodes steps)) = omega (arith, written-length, node-count, step-count) in
        rw (eq-eqb (length (written nodes steps)) (step_place (written nodes steps) (step_count (written nodes steps))) e, node-count, step-count-lent, le-leb 1 (holds node_size nodes) l.some-node, le-leb (holds node_size nodes) most_nodes l.few-nodes, le-leb (holds step_size steps) most_steps l.few-steps)

  -- ---- and the others

  -- of whole records, the counts alone can break rule 3
  pub kept-lent : T (whole node_size nodes) → T (whole step_size steps) → broken3 (written nodes steps) ≡ false → Lent nodes steps
  unfolding step_place node_place
  kept-lent a b three =
      let f : CountsFit (written nodes steps) = counts-fit (written nodes steps) three in
      let n = node-count in
      let p = whole_length node_size nodes a in
      let q = whole_length step_size steps b in
      let e : step_count (written nodes steps) ≡ holds step_size steps = omega (arith, written-length, f.long) in
      record { node-bytes = p; step-bytes = q; some-node = omega (arith, f.some-node); few-nodes = omega (arith, f.few-nodes); few-steps = omega (arith, f.few-steps) }

  wholes : Lent nodes steps → (whole node_size nodes && whole step_size steps) ≡ true
  wholes l = yes_of (whole node_size nodes && whole step_size steps) (and_intro (whole node_size nodes) (whole step_size steps)
      (whole_is node_size (holds node_size nodes) nodes l.node-bytes) (whole_is step_size (holds step_size steps) steps l.step-bytes))

  pub lent-lendable : Lent nodes steps → lendable nodes steps ≡ true
  unfolding lendable
  lent-lendable l =
      rw (wholes l, le-leb 1 (holds node_size nodes) l.some-node, le-leb (holds node_size nodes) most_nodes l.few-nodes, le-leb (holds step_size steps) most_steps l.few-steps)

  pub lendable-lent : lendable nodes steps ≡ true → Lent nodes steps
  unfolding lendable
  lendable-lent e =
      let w : Bool = whole node_size nodes && whole step_size steps in
      let a : Bool = leb 1 (holds node_size nodes) in
      let b : Bool = leb (holds node_size nodes) most_nodes in
      let c : Bool = leb (holds step_size steps) most_steps in
      let t : T (w && (a && b && c)) = of-yes (w && (a && b && c)) e in
      let u : T w = and_left w (a && b && c) t in
      let v : T (a && b && c) = and_right w (a && b && c) t in
      record {
        node-bytes = whole_length node_size nodes (and_left (whole node_size nodes) (whole step_size steps) u);
        step-bytes = whole_length step_size steps (and_right (whole node_size nodes) (whole step_size steps) u);
        some-node = leb→le 1 (holds node_size nodes) (and_left a b (and_left (a && b) c v));
        few-nodes = leb→le (holds node_size nodes) most_nodes (and_right a b (and_left (a && b) c v));
        few-steps = leb→le (holds step_size steps) most_steps (and_right (a && b) c v);
      }

  -- ---- the writer's answer, by the check of the file

  three : broken3 (written nodes steps) ≡ true → tried from_three (written nodes steps) ≡ refused (bare_fault 3)
  unfolding tried from_three rules
  three e = rw (e, tried)

  pub unlent : (out : Bytes) → lendable nodes steps ≡ false → writes nodes steps out ≡ refusal (bare_fault 3) out
  unfolding writes after
  unlent out e = go (whole node_size nodes && whole step_size steps) refl (broken3 (written nodes steps)) refl
    where
      go : (w : Bool) → (whole node_size nodes && whole step_size steps) ≡ w → (b : Bool) → broken3 (written nodes steps) ≡ b → writes nodes steps out ≡ refusal (bare_fault 3) out
      go false h b k = rw (h, writes)
      go true h true k = rw (h, writes, three k)
      go true h false k =
          let t : T (whole node_size nodes && whole step_size steps) = of-yes (whole node_size nodes && whole step_size steps) h in
          true-not-false (lent-lendable (kept-lent (and_left (whole node_size nodes) (whole step_size steps) t) (and_right (whole node_size nodes) (whole step_size steps) t) k)) e

  -- rules 1 and 2 refuse no written file
  from-three : Lent nodes steps → tried from_three (written nodes steps) ≡ check (written nodes steps)
  unfolding check rules tried from_three
  from-three l = sym (rw (kept1 l, kept2 l, tried))

  pub by-check : (out : Bytes) → Lent nodes steps → writes nodes steps out ≡ after (check (written nodes steps)) (written nodes steps) out
  unfolding writes
  by-check out l = rw (wholes l, writes) (ap (λ (a : Answer). after a (written nodes steps) out) (from-three l))

-- what was laid, taken again
pub taken-again : (out : Bytes) {made filled : Bytes} {n : ℕ} → n ≡ length made → filled ≡ put out 0 made → take n filled ≡ made
unfolding put
taken-again out {made} {filled} {n} e f = ap (take n) f ∙ take_at made (drop (0 + length made) out) n (sym e)
