-- "Whatever it writes is read back by the check as the same records", and why the writer refuses.
use Prim.Native.Nat.{ℕ, zero, suc, ◌+◌, ◌*◌, ◌≤◌, ◌<◌}
use native.Mathlib.Omega.{arith}
use mathlib.Core.Path.{◌≡◌, refl, sym, ap, ap₂, ◌∙◌, subst}
use mathlib.Core.Bool.{Bool, true, false, ◌&&◌}
use mathlib.Core.List.{List, [], ◌∷◌}
use lib.Dec.{T, leb, ltb, leb→le}
use lib.ListN.{length, take, drop}
use lib.Seq.{take_at, drop_at, take_all, drop-drop}
use borrow.Author.Tests.{ltb-true, ltb-false}
use Rattle.actions.proofs.Tests.{and_left, and_right, true-not-false}
use Rattle.spec_policy.specs.Bytes.{Bytes, spell, put}
use Rattle.spec_policy.specs.Lists.{listed, every}
use Rattle.spec_policy.specs.Records.{node_size, step_size, node_count, step_count, node_at, step_record_at, node_place, step_place, nodes, step_records, node_bytes, step_bytes}
use Rattle.spec_policy.specs.Tree.{regulated, tree}
use Rattle.spec_policy.specs.Parts.{file}
use Rattle.spec_policy.proofs.ByteLaws.{drop-after}
use Rattle.spec_policy.specs.Spots.{Fault, bare_fault}
use Rattle.spec_policy.proofs.PartLaws.{node-part, step_part}
use Rattle.spec_check.specs.Interference.{effects}
use Rattle.spec_check.specs.Check.{Rule, rules, Answer, passes, refused, check}
use Rattle.spec_check.proofs.Rows.{counts-fit, node-bytes-length, step-bytes-length}
use Rattle.spec_check.specs.Layout.{CountsFit}
use Rattle.spec_check.proofs.Passed.{passed, passes-all, refused-lowest}
use Rattle.spec_check.specs.Passed.{Lowest, here, after}
use Rattle.spec_writer.specs.Writing as writing
use Rattle.spec_writer.specs.Writing.{holds, written, wrote, refuses, Result, refusal, laid, writes}
use Rattle.spec_writer.specs.Lent.{nodes_lent, step_records_lent, lendable, Lent}
use Rattle.spec_writer.specs.Promises.{ReadBack, Why, unlent, broken, short}
use Rattle.spec_writer.proofs.Files as files
use Rattle.spec_writer.proofs.Files.{holds-is, node-count, step-count-lent, kept1, kept2, kept3, lendable-lent, by-check, taken-again}

-- ---- a file's records are those that its node bytes and its step bytes spell

listed_same : {A : Type 0} (f g : ℕ → A) (i n : ℕ) → ((j : ℕ) → j < i + n → f j ≡ g j) → listed f i n ≡ listed g i n
unfolding listed
listed_same f g i zero h = refl
listed_same f g i (suc n) h = ap₂ ◌∷◌ (h i (omega arith)) (listed_same f g (suc i) n (λ j l. h j (omega arith)))

module _ (made : Bytes) (f : CountsFit made) where
  pub nodes-spelt : nodes made ≡ nodes_lent (node_bytes made)
  unfolding nodes nodes_lent node_bytes step_place node_place
  nodes-spelt =
      listed_same (λ i. node_at made (6 + node_size * i)) (λ i. node_at (node_bytes made) (node_size * i)) 0 (node_count made)
      (λ j h. sym (node-part made 6 (node_size * node_count made) (omega (arith, f.long)) (node_size * j) (omega arith)))
      ∙ ap (λ (k : ℕ). listed (λ i. node_at (node_bytes made) (node_size * i)) 0 k) (sym (holds-is node_size (node_count made) (node_bytes made) (omega arith) (node-bytes-length made f)))

  pub records-spelt : step_records made ≡ step_records_lent (step_bytes made)
  unfolding step_records step_records_lent step_bytes step_place node_place
  records-spelt =
      listed_same (λ i. step_record_at made (6 + node_size * node_count made + step_size * i)) (λ i. step_record_at (step_bytes made) (step_size * i)) 0 (step_count made)
      (λ j h. sym (step_part made (6 + node_size * node_count made) (step_size * step_count made) (omega (arith, f.long)) (step_size * j) (omega arith)))
      ∙ ap (λ (k : ℕ). listed (λ i. step_record_at (step_bytes made) (step_size * i)) 0 k) (sym (holds-is step_size (step_count made) (step_bytes made) (omega arith) (step-bytes-length made f)))

-- ---- a written file's are those lent

module _ (lent_nodes lent_steps : Bytes) (l : Lent lent_nodes lent_steps) where
  nodes-back : node_bytes (written lent_nodes lent_steps) ≡ lent_nodes
  unfolding node_bytes written file spell
  nodes-back =
      ap (λ (k : ℕ). take (node_size * k) (drop 6 (written lent_nodes lent_steps))) (node-count lent_nodes lent_steps)
      ∙ take_at lent_nodes lent_steps (node_size * holds node_size lent_nodes) l.node-bytes

  steps_back : step_bytes (written lent_nodes lent_steps) ≡ lent_steps
  unfolding step_bytes node_place written file spell
  steps_back =
      ap₂ (λ (k j : ℕ). take (step_size * k) (drop (6 + node_size * j) (written lent_nodes lent_steps))) (step-count-lent lent_nodes lent_steps l) (node-count lent_nodes lent_steps)
      ∙ ap (take (step_size * holds step_size lent_steps)) (sym (drop-drop (node_size * holds node_size lent_nodes) 6 (written lent_nodes lent_steps)) ∙ drop_at lent_nodes lent_steps (node_size * holds node_size lent_nodes) l.node-bytes)
      ∙ take_all (step_size * holds step_size lent_steps) lent_steps (omega (arith, l.step-bytes))

-- ---- how the writer's answer comes about

data How (lent_nodes lent_steps out : Bytes) : Result → Type 0 where
  refused3 : lendable lent_nodes lent_steps ≡ false → How lent_nodes lent_steps out (refusal (bare_fault 3) out)
  refused_by : {k : Fault} → Lent lent_nodes lent_steps → check (written lent_nodes lent_steps) ≡ refused k → How lent_nodes lent_steps out (refusal k out)
  refused15 : {r e : ℕ} → Lent lent_nodes lent_steps → check (written lent_nodes lent_steps) ≡ passes r e → length out < length (written lent_nodes lent_steps)
      → How lent_nodes lent_steps out (refusal (bare_fault 15) out)
  done : {r e : ℕ} → Lent lent_nodes lent_steps → check (written lent_nodes lent_steps) ≡ passes r e → length (written lent_nodes lent_steps) ≤ length out
      → How lent_nodes lent_steps out (record { reply = wrote (length (written lent_nodes lent_steps)); out = put out 0 (written lent_nodes lent_steps) })

module _ (lent_nodes lent_steps out : Bytes) where
  with-room : {r e : ℕ} → Lent lent_nodes lent_steps → check (written lent_nodes lent_steps) ≡ passes r e → (b : Bool) → ltb (length out) (length (written lent_nodes lent_steps)) ≡ b
      → How lent_nodes lent_steps out (laid (written lent_nodes lent_steps) out)
  unfolding laid
  with-room l e true h = rw (h, laid) (refused15 l e (ltb-true (length out) (length (written lent_nodes lent_steps)) h))
  with-room l e false h = rw (h, laid) (done l e (ltb-false (length out) (length (written lent_nodes lent_steps)) h))

  by : Lent lent_nodes lent_steps → (a : Answer) → check (written lent_nodes lent_steps) ≡ a → How lent_nodes lent_steps out (writing.after a (written lent_nodes lent_steps) out)
  unfolding writing.after
  by l (passes r e) h = with-room l h (ltb (length out) (length (written lent_nodes lent_steps))) refl
  by l (refused k) h = refused_by l h

  how : How lent_nodes lent_steps out (writes lent_nodes lent_steps out)
  how = go (lendable lent_nodes lent_steps) refl
    where
      go : (b : Bool) → lendable lent_nodes lent_steps ≡ b → How lent_nodes lent_steps out (writes lent_nodes lent_steps out)
      go false h = subst (How lent_nodes lent_steps out) (sym (files.unlent lent_nodes lent_steps out h)) (refused3 h)
      go true h =
          let l = lendable-lent lent_nodes lent_steps h in
          subst (How lent_nodes lent_steps out) (sym (by-check lent_nodes lent_steps out l)) (by l (check (written lent_nodes lent_steps)) refl)

  -- ---- what it writes

  back : (x : Result) (n : ℕ) → How lent_nodes lent_steps out x → x.reply ≡ wrote n → ReadBack lent_nodes lent_steps out n x
  unfolding refusal
  back x n (refused3 h) e = let z : ◌≡◌ {A = ℕ} 0 1 = cc in absurd (omega arith)
  back x n (refused_by l h) e = let z : ◌≡◌ {A = ℕ} 0 1 = cc in absurd (omega arith)
  back x n (refused15 l h s) e = let z : ◌≡◌ {A = ℕ} 0 1 = cc in absurd (omega arith)
  back x n (done l h s) e =
      let f : Bytes = written lent_nodes lent_steps in
      let k : n ≡ length f = cc in
      let t : take n (put out 0 f) ≡ f = taken-again out k refl in
      let c : CountsFit f = counts-fit f (kept3 lent_nodes lent_steps l) in
      record {
        made = t;
        size = k;
        after = drop-after out 0 f n (omega arith) (omega arith);
        passed = subst (λ (g : Bytes). check g ≡ passes (regulated (tree g)) (effects (tree g))) (sym t) (passes-all f (passed f _ _ h));
        same_nodes = ap nodes t ∙ nodes-spelt f c ∙ ap nodes_lent (nodes-back lent_nodes lent_steps l);
        same-steps = ap step_records t ∙ records-spelt f c ∙ ap step_records_lent (steps_back lent_nodes lent_steps l);
        node-bytes = ap node_bytes t ∙ nodes-back lent_nodes lent_steps l;
        step-bytes = ap step_bytes t ∙ steps_back lent_nodes lent_steps l;
      }

  pub read_back : (n : ℕ) → (writes lent_nodes lent_steps out).reply ≡ wrote n → ReadBack lent_nodes lent_steps out n (writes lent_nodes lent_steps out)
  read_back n e = back (writes lent_nodes lent_steps out) n how e

-- ---- what it refuses

module _ {made : Bytes} {k : Fault} where
  skip : {r : Rule} {rs : List Rule} → r.broken made ≡ false → Lowest made k (r ∷ rs) → Lowest made k rs
  skip e (here f s) = true-not-false f e
  skip e (after f l) = l

  among : (rs : List Rule) → T (every (λ r. leb 4 r.number && leb r.number 10) rs) → Lowest made k rs → (4 ≤ k.number) × (k.number ≤ 10)
  unfolding every
  among [] t x = elim x [ ]
  among (r ∷ rs) t (here f s) =
      let u = and_left (leb 4 r.number && leb r.number 10) (every (λ r. leb 4 r.number && leb r.number 10) rs) t in
      let a = leb→le 4 r.number (and_left (leb 4 r.number) (leb r.number 10) u) in
      let b = leb→le r.number 10 (and_right (leb 4 r.number) (leb r.number 10) u) in
      let n : r.number ≡ k.number = ap (λ (x : Fault). x.number) s in
      (omega arith, omega arith)
  among (r ∷ rs) t (after f l) = among rs (and_right (leb 4 r.number && leb r.number 10) (every (λ r. leb 4 r.number && leb r.number 10) rs) t) l

module _ (lent_nodes lent_steps out : Bytes) where
  four-to-ten : {j : Fault} → Lent lent_nodes lent_steps → check (written lent_nodes lent_steps) ≡ refused j → (4 ≤ j.number) × (j.number ≤ 10)
  unfolding rules every
  four-to-ten {j} l h =
      among _ tt (skip (kept3 lent_nodes lent_steps l) (skip (kept2 lent_nodes lent_steps l) (skip (kept1 lent_nodes lent_steps l) (refused-lowest (written lent_nodes lent_steps) j h))))

  because : (x : Result) (k : Fault) → How lent_nodes lent_steps out x → x.reply ≡ refuses k → (x.out ≡ out) × Why lent_nodes lent_steps out k
  unfolding refusal
  because x k (refused3 h) e = let z : bare_fault 3 ≡ k = cc in (refl, subst (Why lent_nodes lent_steps out) z (unlent h))
  because x k (refused_by {k = j} l h) e =
      let z : j ≡ k = cc in
      let u = four-to-ten l h in
      (refl, subst (Why lent_nodes lent_steps out) z (broken l h u.0 u.1))
  because x k (refused15 l h s) e = let z : bare_fault 15 ≡ k = cc in (refl, subst (Why lent_nodes lent_steps out) z (short l h s))
  because x k (done l h s) e = let z : ◌≡◌ {A = ℕ} 0 1 = cc in absurd (omega arith)

  pub refused_why : (k : Fault) → (writes lent_nodes lent_steps out).reply ≡ refuses k → ((writes lent_nodes lent_steps out).out ≡ out) × Why lent_nodes lent_steps out k
  refused_why k e = because (writes lent_nodes lent_steps out) k (how lent_nodes lent_steps out) e
