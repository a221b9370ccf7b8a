-- "every file that the check passes is written again byte for byte from its own records".
use Prim.Native.Nat.{ℕ, ◌+◌, ◌*◌, ◌≤◌}
use native.Mathlib.Omega.{arith}
use mathlib.Core.Path.{◌≡◌, sym, ap, ◌∙◌}
use mathlib.Core.Bool.{not}
use mathlib.Core.List.{◌∷◌, ◌++◌}
use lib.Dec.{eqb, eqb→eq, ltb}
use lib.ListN.{length, take, drop, length-drop, take-append-drop}
use lib.Seq.{take_all, drop-drop}
use borrow.Author.Tests.{le-ltb}
use Rattle.actions.specs.Sets.{ActionSet}
use Rattle.actions.proofs.Tests.{not-not, or-false-right}
use Rattle.spec_policy.specs.Bytes.{Bytes, number, spell, Small}
use Rattle.spec_policy.specs.Records.{node_size, step_size, length_field, version_field, node_count, step_count, node_place, step_place, node_bytes, step_bytes}
use Rattle.spec_policy.specs.Parts.{file}
use Rattle.spec_policy.proofs.NumberLaws.{byte-first, number-first}
use Rattle.spec_check.specs.Layout.{broken1, broken2, CountsFit}
use Rattle.spec_check.specs.Passed.{Passed}
use Rattle.spec_check.specs.Check.{Answer, passes, check}
use Rattle.spec_check.proofs.Rows.{counts-fit, node-bytes-length, step-bytes-length}
use Rattle.spec_check.proofs.Passed.{passed}
use Rattle.spec_writer.specs.Writing.{holds, written, laid, after}
use Rattle.spec_writer.specs.Lent.{Lent}
use Rattle.spec_writer.specs.Promises.{WrittenAgain}
use Rattle.spec_writer.proofs.Files.{holds-is, by-check}

module _ (made : Bytes) (small : Small made) where
  module _ (ok : Passed made) where
    c : CountsFit made
    c = counts-fit made ok.kept3

    sized : length_field made ≡ length made
    unfolding broken1
    sized = eqb→eq (length_field made) (length made) (not-not (eqb (length_field made) (length made)) (or-false-right (ltb (length made) 6) (not (eqb (length_field made) (length made))) ok.kept1))

    versioned : version_field made ≡ 1
    unfolding broken2
    versioned = eqb→eq (version_field made) 1 (not-not (eqb (version_field made) 1) ok.kept2)

    nodes-held : holds node_size (node_bytes made) ≡ node_count made
    nodes-held = holds-is node_size (node_count made) (node_bytes made) (omega arith) (node-bytes-length made c)

    steps-held : holds step_size (step_bytes made) ≡ step_count made
    steps-held = holds-is step_size (step_count made) (step_bytes made) (omega arith) (step-bytes-length made c)

    joined : node_bytes made ++ step_bytes made ≡ drop 6 made
    unfolding node_bytes step_bytes step_place node_place
    joined =
        let n : ℕ = node_size * node_count made in
        let m : ℕ = step_size * step_count made in
        let s : take m (drop (6 + n) made) ≡ drop (6 + n) made = take_all m (drop (6 + n) made) (simp length-drop (omega (arith, c.long))) in
        ap (λ (zs : Bytes). take n (drop 6 made) ++ zs) (s ∙ sym (drop-drop n 6 made)) ∙ take-append-drop n (drop 6 made)

    pub written-again : written (node_bytes made) (step_bytes made) ≡ made
    unfolding written file length_field version_field node_count step_count step_place node_place
    written-again =
        let l : 6 + node_size * holds node_size (node_bytes made) + step_size * holds step_size (step_bytes made) ≡ number made 0 2 =
        omega (arith, nodes-held, steps-held, sized, c.long) in
        let long : 6 ≤ length made = omega (arith, c.long) in
        (λ x. spell 2 (l x) ++ (sym versioned x ∷ nodes-held x ∷ (spell 2 (steps-held x) ++ joined x)))
        ∙ ap (λ (zs : Bytes). spell 2 (number made 0 2) ++ (number made 2 1 ∷ number made 3 1 ∷ zs)) (number-first made small 4 2 long)
        ∙ ap (λ (zs : Bytes). spell 2 (number made 0 2) ++ (number made 2 1 ∷ zs)) (byte-first made 3 (omega arith))
        ∙ ap (λ (zs : Bytes). spell 2 (number made 0 2) ++ zs) (byte-first made 2 (omega arith))
        ∙ number-first made small 0 2 (omega arith)

    pub own-lent : Lent (node_bytes made) (step_bytes made)
    own-lent = record {
      node-bytes = node-bytes-length made c ∙ ap (λ (k : ℕ). node_size * k) (sym nodes-held);
      step-bytes = step-bytes-length made c ∙ ap (λ (k : ℕ). step_size * k) (sym steps-held);
      some-node = omega (arith, nodes-held, c.some-node);
      few-nodes = omega (arith, nodes-held, c.few-nodes);
      few-steps = omega (arith, steps-held, c.few-steps);
    }

pub writes_again : (made : Bytes) → Small made → (r e : ActionSet) → check made ≡ passes r e → WrittenAgain made
unfolding after laid
writes_again made small r e h out room =
    let ok = passed made r e h in
    by-check (node_bytes made) (step_bytes made) out (own-lent made small ok)
    ∙ ap (λ (f : Bytes). after (check f) f out) (written-again made small ok)
    ∙ ap (λ (a : Answer). after a made out) h
    ∙ rw (le-ltb (length out) (length made) room, laid)
