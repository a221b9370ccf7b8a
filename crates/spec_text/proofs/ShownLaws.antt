-- Records that have a text are shown as that text.
use Prim.Native.Nat.{ℕ, zero, suc, ◌+◌, ◌*◌, ◌/◌, ◌≤◌, min}
use native.Mathlib.Omega.{arith}
use mathlib.Core.Path.{◌≡◌, ap, ap₂, ◌∙◌, sym}
use mathlib.Core.List.{[], ◌∷◌, ◌++◌}
use lib.ListN.{length, take, drop, length-take, length-drop}
use Rattle.spec_policy.specs.Bytes.{Bytes}
use Rattle.spec_text.specs.Forms.{Sort, node, step, size}
use Rattle.spec_text.specs.Printing.{Print, text, both, count_in, record_text, steps_text, nodes_text, printed, shown_record, shown_steps, steps_had, shown_left, shown_nodes, shown_records}
use Rattle.spec_text.proofs.RecordLaws.{record-size}
use Rattle.spec_text.proofs.TextLaws.{record-read, Parts, both-parts}

record-shown : (s : Sort) (i : ℕ) (bs t : Bytes) → record_text s i bs ≡ text t → shown_record s i bs ≡ t
unfolding shown_record
record-shown s i bs t e = rw (shown_record, e)

-- the first of a leaf's steps, and the others
step-parts : (k j : ℕ) (ss t : Bytes) → steps_text (suc k) j ss ≡ text t → Parts (record_text step j (take (size step) ss)) (steps_text k (suc j) (drop (size step) ss)) t
unfolding steps_text
step-parts k j ss t e = both-parts (record_text step j (take (size step) ss)) (steps_text k (suc j) (drop (size step) ss)) t e

steps-shown : (k j : ℕ) (ss t : Bytes) → steps_text k j ss ≡ text t → shown_steps k j ss ≡ t
unfolding steps_text shown_steps
steps-shown zero j ss t e = cc
steps-shown (suc k) j ss t e =
    let p = step-parts k j ss t e in
    ap₂ (λ (x y : Bytes). x ++ y) (record-shown step j (take (size step) ss) p.first p.is-first) (steps-shown k (suc j) (drop (size step) ss) p.second p.is-second)
    ∙ sym p.whole

-- a record that has a text is all there, and so are a leaf's steps
record-long : (s : Sort) (i : ℕ) (bs t : Bytes) → record_text s i bs ≡ text t → length bs ≡ size s
record-long s i bs t e = let x = record-read s i bs t e in sym (ap length x.again) ∙ record-size s (count_in s bs) x.fields

pub steps-long : (k j : ℕ) (ss t : Bytes) → steps_text k j ss ≡ text t → size step * k ≤ length ss
unfolding size
steps-long zero j ss t e = omega arith
steps-long (suc k) j ss t e =
    let p = step-parts k j ss t e in
    let a : length (take 12 ss) ≡ 12 = record-long step j (take 12 ss) p.first p.is-first in
    let b = steps-long k (suc j) (drop 12 ss) p.second p.is-second in
    omega (arith, length-take 12 ss, length-drop 12 ss)

nodes-shown : (k i j : ℕ) (ns ss t : Bytes) → nodes_text k i ns ss ≡ text t → shown_nodes k i j ns ss ≡ t
unfolding nodes_text shown_nodes shown_left steps_had size
nodes-shown zero i j [] [] t e = cc
nodes-shown zero i j [] (s ∷ ss) t e = let z : ◌≡◌ {A = ℕ} 0 1 = cc in absurd (omega arith)
nodes-shown zero i j (n ∷ ns) ss t e = let z : ◌≡◌ {A = ℕ} 0 1 = cc in absurd (omega arith)
nodes-shown (suc k) i j ns ss t e =
    let x : Bytes = take 16 ns in
    let c : ℕ = count_in node x in
    let rest : Print = nodes_text k (suc i) (drop 16 ns) (drop (12 * c) ss) in
    let p = both-parts (record_text node i x) (both (steps_text c 0 ss) rest) t e in
    let q = both-parts (steps_text c 0 ss) rest p.second p.is-second in
    let l = steps-long c 0 ss q.first q.is-first in
    let m : min c (length ss / 12) ≡ c = omega arith in
    ap (λ (n : ℕ). shown_record node i x ++ (shown_steps n 0 ss ++ shown_nodes k (suc i) (j + n) (drop 16 ns) (drop (12 * n) ss))) m
    ∙ ap₂ (λ (y z : Bytes). y ++ z) (record-shown node i x p.first p.is-first)
    (ap₂ (λ (y z : Bytes). y ++ z) (steps-shown c 0 ss q.first q.is-first) (nodes-shown k (suc i) (j + c) (drop 16 ns) (drop (12 * c) ss) q.second q.is-second)
    ∙ sym q.whole)
    ∙ sym p.whole

-- One meaning: what is shown of records that have a text is the text.
pub shown-text : (ns ss t : Bytes) → printed ns ss ≡ text t → shown_records ns ss ≡ t
unfolding printed shown_records size
shown-text ns ss t e = nodes-shown (length ns / 16) 0 0 ns ss t e
