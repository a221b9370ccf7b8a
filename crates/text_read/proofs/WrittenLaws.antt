-- What is written line by line is what the text is read as.
use Prim.Native.Nat.{ℕ, zero, suc, ◌+◌, ◌*◌, ◌≤◌}
use native.Mathlib.Omega.{arith}
use mathlib.Core.Path.{◌≡◌, refl, sym, ap, ap₂, ◌∙◌}
use mathlib.Core.List.{List, [], ◌∷◌, ◌++◌}
use lib.ListN.{length, length-append}
use Rattle.spec_policy.specs.Bytes.{Bytes, put}
use Rattle.spec_policy.proofs.ByteLaws.{put-none, put-length, put-append}
use Rattle.spec_text.specs.Forms.{Sort, node, step, size, Fields, record_of}
use Rattle.spec_text.specs.Reading.{Line, nothing, unreadable, entry, Found, found, wrong, with_node, with_step, read_from}
use Rattle.spec_text.proofs.RecordLaws.{record-size}
use Rattle.text_read.specs.Written.{lead_in, Buffers, written}

-- ---- what a node or a step was put before

pub record NodeBefore (xs : Fields) (f : Found) (k : ℕ) (ns ss : Bytes) : Type 0 where
  pub lead : ℕ
  pub rest : Bytes
  pub is : f ≡ found lead rest ss
  pub none : k ≡ 0
  pub nodes : ns ≡ record_of node lead xs ++ rest

pub node-before : (xs : Fields) (f : Found) (k : ℕ) (ns ss : Bytes) → with_node xs f ≡ found k ns ss → NodeBefore xs f k ns ss
unfolding with_node
node-before xs (found k' ns' ss') k ns ss e =
    let q : ss' ≡ ss = cc in
    record { lead = k'; rest = ns'; is = ap (found k' ns') q; none = (cc); nodes = (cc) }
node-before xs (wrong n) k ns ss e = let z : ◌≡◌ {A = ℕ} 0 1 = cc in absurd (omega arith)

pub record StepBefore (xs : Fields) (f : Found) (k : ℕ) (ns ss : Bytes) : Type 0 where
  pub lead : ℕ
  pub rest : Bytes
  pub is : f ≡ found lead ns rest
  pub more : k ≡ suc lead
  pub steps : ss ≡ record_of step 0 xs ++ rest

pub step-before : (xs : Fields) (f : Found) (k : ℕ) (ns ss : Bytes) → with_step xs f ≡ found k ns ss → StepBefore xs f k ns ss
unfolding with_step
step-before xs (found k' ns' ss') k ns ss e =
    let q : ns' ≡ ns = cc in
    record { lead = k'; rest = ss'; is = ap (λ (x : Bytes). found k' x ss') q; more = (cc); steps = (cc) }
step-before xs (wrong n) k ns ss e = let z : ◌≡◌ {A = ℕ} 0 1 = cc in absurd (omega arith)

-- ---- the lines

pub lead_is : (ls : List Line) (room n k : ℕ) (ns ss : Bytes) → read_from room n ls ≡ found k ns ss → k ≡ lead_in ls
unfolding read_from lead_in
lead_is [] room n k ns ss e = cc
lead_is (nothing ∷ ls) room n k ns ss e = lead_is ls room (suc n) k ns ss e
lead_is (unreadable ∷ ls) room n k ns ss e = let z : ◌≡◌ {A = ℕ} 0 1 = cc in absurd (omega arith)
lead_is (entry f xs ∷ ls) room n k ns ss e = go f.sort refl room e (λ r. lead_is ls r (suc n))
  where
    go : (s : Sort) → f.sort ≡ s → (r : ℕ) → read_from r n (entry f xs ∷ ls) ≡ found k ns ss
        → ((r k : ℕ) (ns ss : Bytes) → read_from r (suc n) ls ≡ found k ns ss → k ≡ lead_in ls) → k ≡ lead_in (entry f xs ∷ ls)
    go node q r h ih = rw (q, lead_in) (node-before xs (read_from f.room (suc n) ls) k ns ss (rw (q, read_from) at h)).none
    go step q zero h ih = let u : wrong n ≡ found k ns ss = rw (q, read_from) at h in let z : ◌≡◌ {A = ℕ} 0 1 = cc in absurd (omega arith)
    go step q (suc r) h ih =
        let b : StepBefore xs (read_from r (suc n) ls) k ns ss = step-before xs (read_from r (suc n) ls) k ns ss (rw (q, read_from) at h) in
        rw (q, lead_in) (b.more ∙ ap suc (ih r b.lead ns b.rest b.is))

abbrev placed : ℕ → ℕ → Bytes → Bytes → Bytes → Bytes → Buffers
placed i j N S ns ss = record { nodes = put N (size node * i) ns; steps = put S (size step * j) ss }

pub written-found : (ls : List Line) (room n k : ℕ) (ns ss : Bytes) → read_from room n ls ≡ found k ns ss → (i j : ℕ) (N S : Bytes)
    → size node * i + length ns ≤ length N → size step * j + length ss ≤ length S → written ls i j N S ≡ placed i j N S ns ss
unfolding read_from written size
written-found [] room n k ns ss e i j N S a b =
    let p : [] ≡ ns = cc in
    let q : [] ≡ ss = cc in
    ap₂ {C = Buffers} (λ (x y : Bytes). record { nodes = x; steps = y }) (sym (put-none N (16 * i)) ∙ ap (put N (16 * i)) p) (sym (put-none S (12 * j)) ∙ ap (put S (12 * j)) q)
written-found (nothing ∷ ls) room n k ns ss e i j N S a b = written-found ls room (suc n) k ns ss e i j N S a b
written-found (unreadable ∷ ls) room n k ns ss e i j N S a b = let z : ◌≡◌ {A = ℕ} 0 1 = cc in absurd (omega arith)
written-found (entry f xs ∷ ls) room n k ns ss e i j N S a b = go f.sort refl room e (λ r. written-found ls r (suc n))
  where
    go : (s : Sort) → f.sort ≡ s → (r : ℕ) → read_from r n (entry f xs ∷ ls) ≡ found k ns ss
        → ((r k : ℕ) (ns ss : Bytes) → read_from r (suc n) ls ≡ found k ns ss → (i j : ℕ) (N S : Bytes)
        → size node * i + length ns ≤ length N → size step * j + length ss ≤ length S → written ls i j N S ≡ placed i j N S ns ss)
        → written (entry f xs ∷ ls) i j N S ≡ placed i j N S ns ss
    go node q r h ih =
        let F : Found = read_from f.room (suc n) ls in
        let x : NodeBefore xs F k ns ss = node-before xs F k ns ss (rw (q, read_from) at h) in
        let R : Bytes = record_of node x.lead xs in
        let l : length R ≡ 16 = record-size node x.lead xs in
        let m : length ns ≡ length R + length x.rest = ap length x.nodes ∙ length-append R x.rest in
        let w : record_of node (lead_in ls) xs ≡ R = ap (λ (c : ℕ). record_of node c xs) (sym (lead_is ls f.room (suc n) x.lead x.rest ss x.is)) in
        let N' : Bytes = put N (16 * i) R in
        let o : length N' ≡ length N = put-length N (16 * i) R (omega arith) in
        rw (q, written) (ap (λ (y : Bytes). written ls (i + 1) j (put N (16 * i) y) S) w
        ∙ ih f.room x.lead x.rest ss x.is (i + 1) j N' S (omega arith) (omega arith)
        ∙ ap (λ (y : Bytes). record { nodes = y; steps = put S (12 * j) ss })
        (put-append N (16 * i) R (16 * (i + 1)) x.rest (omega arith) (omega arith) ∙ ap (put N (16 * i)) (sym x.nodes)))
    go step q zero h ih = let u : wrong n ≡ found k ns ss = rw (q, read_from) at h in let z : ◌≡◌ {A = ℕ} 0 1 = cc in absurd (omega arith)
    go step q (suc r) h ih =
        let F : Found = read_from r (suc n) ls in
        let x : StepBefore xs F k ns ss = step-before xs F k ns ss (rw (q, read_from) at h) in
        let R : Bytes = record_of step 0 xs in
        let l : length R ≡ 12 = record-size step 0 xs in
        let m : length ss ≡ length R + length x.rest = ap length x.steps ∙ length-append R x.rest in
        let S' : Bytes = put S (12 * j) R in
        let o : length S' ≡ length S = put-length S (12 * j) R (omega arith) in
        rw (q, written) (ih r x.lead ns x.rest x.is i (j + 1) N S' (omega arith) (omega arith)
        ∙ ap (λ (y : Bytes). record { nodes = put N (16 * i) ns; steps = y })
        (put-append S (12 * j) R (12 * (j + 1)) x.rest (omega arith) (omega arith) ∙ ap (put S (12 * j)) (sym x.steps)))
