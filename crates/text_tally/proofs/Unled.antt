-- Without what leads the steps, a tally's lines are the policy's text.
use Prim.Native.Nat.{ℕ, zero, suc, ◌+◌, ◌*◌, ◌/◌, min}
use native.Mathlib.Omega.{arith}
use mathlib.Core.Path.{◌≡◌, refl, ap₂}
use mathlib.Core.List.{[], ◌∷◌, ◌++◌}
use lib.ListN.{length, take, drop}
use Rattle.actions.specs.Sets.{ActionSet}
use Rattle.spec_policy.specs.Bytes.{Bytes, Small}
use Rattle.spec_policy.specs.Records.{node_bytes, step_bytes}
use Rattle.spec_check.specs.Check.{passes, check}
use Rattle.spec_text.specs.Forms.{node, size}
use Rattle.spec_text.specs.Printing.{Print, text, both, count_in, record_text, steps_text, nodes_text, printed, shown_record, steps_had, shown_left, shown_nodes, shown_records}
use Rattle.spec_text.proofs.TextLaws.{both-parts}
use Rattle.spec_text.proofs.ShownLaws.{steps-long}
use Rattle.spec_text.proofs.Printable.{read-printed}
use Rattle.text_print.proofs.PrintLaws.{steps-unled}
use Rattle.text_tally.specs.Lines.{led_nodes, led_records, Unled}

-- where records have a text, no step is left over
nodes-unled : (k i j : ℕ) (ns ss t : Bytes) → nodes_text k i ns ss ≡ text t → led_nodes (λ _. []) k i j ns ss ≡ shown_nodes k i j ns ss
unfolding nodes_text led_nodes shown_nodes shown_left steps_had size
nodes-unled zero i j [] [] t e = refl
nodes-unled zero i j [] (s ∷ ss) t e = let z : ◌≡◌ {A = ℕ} 0 1 = cc in absurd (omega arith)
nodes-unled zero i j (n ∷ ns) ss t e = let z : ◌≡◌ {A = ℕ} 0 1 = cc in absurd (omega arith)
nodes-unled (suc k) i j ns ss t e =
    let x : Bytes = take 16 ns in
    let c : ℕ = count_in node x in
    let rest : Print = nodes_text k (suc i) (drop 16 ns) (drop (12 * c) ss) in
    let p = both-parts (record_text node i x) (both (steps_text c 0 ss) rest) t e in
    let q = both-parts (steps_text c 0 ss) rest p.second p.is-second in
    let l = steps-long c 0 ss q.first q.is-first in
    let m : c ≡ min c (length ss / 12) = omega arith in
    let n : ℕ = min c (length ss / 12) in
    let r : nodes_text k (suc i) (drop 16 ns) (drop (12 * n) ss) ≡ text q.second = rw (← m) q.is-second in
    ap₂ (λ (y z : Bytes). shown_record node i x ++ (y ++ z)) (steps-unled n 0 j ss) (nodes-unled k (suc i) (j + n) (drop 16 ns) (drop (12 * n) ss) q.second r)

pub every-file-unled : (file : Bytes) (r e : ActionSet) → Small file → check file ≡ passes r e → Unled file
unfolding Unled printed led_records shown_records
every-file-unled file r e small h =
    let back = read-printed file r e small h in
    nodes-unled (length (node_bytes file) / size node) 0 0 (node_bytes file) (step_bytes file) back.text back.prints
