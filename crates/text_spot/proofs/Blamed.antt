-- The record that a refusal of a text's records is about is one of the text's.
use Prim.Native.Nat.{ℕ, zero, suc, ◌+◌, ◌-◌, ◌*◌, ◌/◌, ◌≤◌, ◌<◌}
use native.Mathlib.Omega.{arith}
use mathlib.Core.Path.{◌≡◌, refl, sym, ap, ap₂, ◌∙◌, subst}
use mathlib.Core.Bool.{Bool, true, false, ◌&&◌}
use mathlib.Core.List.{List, [], ◌∷◌, map}
use borrow.Author.Tests.{lt-ltb, le-ltb}
use lib.Dec.{T, eqb, eqb→eq}
use lib.ListN.{length, take, drop}
use lib.Seq.{take_at}
use Rattle.actions.specs.Sets.{ActionSet}
use Rattle.actions.proofs.Tests.{and_left, and_right}
use Rattle.spec_policy.specs.Bytes.{Bytes, spell}
use Rattle.spec_policy.specs.Lists.{summed, every}
use Rattle.spec_policy.specs.Records.{Node, node_size, step_size, node_count, step_count, nodes, node_bytes}
use Rattle.spec_policy.specs.Parts.{file}
use Rattle.spec_policy.specs.Spots.{Spot, on_record, Fault, fault_on}
use Rattle.spec_policy.specs.Steps.{Step}
use Rattle.spec_policy.specs.Tree.{NodeKind, aLeaf, aTrivial, an_unsatisfiable, no_node, aPair, node_kind, steps_owned}
use Rattle.spec_check.specs.Layout.{node_fits, broken4}
use Rattle.spec_check.specs.Check.{refused, check}
use Rattle.spec_check.specs.Passed.{breaks}
use Rattle.spec_check.proofs.Passed.{refused-number}
use Rattle.spec_check.proofs.Rows.{counts-fit, nodes-fit}
use Rattle.laws_check.specs.Offends.{Offends4, node-off, step-off, StepOff, Off6, Offends6, sum-off, leads-off, Off7, Off8}
use Rattle.laws_check.proofs.LeafSpots.{step-inside}
use Rattle.laws_check.proofs.Spots.{spots-lowest}
use Rattle.spec_writer.specs.Writing.{holds, written, refuses, writes}
use Rattle.spec_writer.specs.Lent.{nodes_lent, Lent}
use Rattle.spec_writer.specs.Promises.{Why, unlent, broken, short}
use Rattle.spec_writer.proofs.Files.{node-count, step-count-lent, kept3}
use Rattle.spec_writer.proofs.ReadBack.{nodes-spelt, refused_why}
use Rattle.spec_text.specs.Forms.{Sort, node, step, size}
use Rattle.spec_text.specs.Reading.{records, read_text}
use Rattle.spec_text.specs.Where.{aRecord, node_or_step, rule_sort, which, nodes_held, nodes_spelt, line_of_record, spot_line, record_in, Source, run_of, Sourced}
use Rattle.spec_text.proofs.WhereLaws.{each-sourced}
use Rattle.spec_text.proofs.CountLaws.{all-counted}
use Rattle.text_spot.specs.Blamed.{Blamed}

-- ---- rule 4: a node's count is what it owns

no-count : (x : Node) (a b c : Bool) → T (a && eqb x.count 0 && b && c) → 0 ≡ x.count
no-count x a b c h =
    let e : Bool = eqb x.count 0 in
    sym (eqb→eq x.count 0 (and_right a e (and_left (a && e) b (and_left (a && e && b) c h))))

count-owned : (x : Node) (k : NodeKind) → node_kind x.kind ≡ k → T (node_fits k x) → steps_owned x ≡ x.count
unfolding node_fits steps_owned
count-owned x aLeaf e h = rw (e, steps_owned)
count-owned x aTrivial e h = rw (e, steps_owned) (no-count x (eqb x.left 0 && eqb x.right 0) (eqb x.start 0) (eqb x.set 0) h)
count-owned x an_unsatisfiable e h = rw (e, steps_owned) (no-count x (eqb x.left 0 && eqb x.right 0) (eqb x.start 0) (eqb x.set 0) h)
count-owned x (aPair w j) e h = rw (e, steps_owned) (no-count x true (eqb x.start 0) (eqb x.set 0) h)
count-owned x no_node e h = absurd h

all_own : (xs : List Node) → T (every (λ (x : Node). node_fits (node_kind x.kind) x) xs) → summed (map steps_owned xs) ≡ summed (map (λ (x : Node). x.count) xs)
unfolding every summed
all_own [] h = refl
all_own (x ∷ xs) h =
    let a : Bool = node_fits (node_kind x.kind) x in
    let b : Bool = every (λ (y : Node). node_fits (node_kind y.kind) y) xs in
    ap₂ ◌+◌ (count-owned x (node_kind x.kind) refl (and_left a b h)) (all_own xs (and_right a b h))

-- ---- a record of a file of n nodes and m steps

record Among (n m : ℕ) (f : Fault) : Type 0 where
  sort : Sort
  number : ℕ
  is : which n f ≡ aRecord sort number
  inside : number < elim sort [ node ↦ n | step ↦ m ]

module _ (n m p : ℕ) where
  a-node : p < n → Among n m (fault_on 4 p)
  unfolding which node_or_step
  a-node h = record { sort = node; number = p; is = rw (node_or_step, lt-ltb p n h); inside = h }

  a-step : (i : ℕ) → p ≡ n + i → i < m → Among n m (fault_on 4 p)
  unfolding which node_or_step
  a-step i e h = record { sort = step; number = p - n; is = rw (node_or_step, le-ltb p n (omega arith)); inside = omega arith }

module _ (ns ss : Bytes) (l : Lent ns ss) (all : summed (map (λ (x : Node). x.count) (nodes_spelt ns)) ≡ length ss / size step) (p : ℕ) where
  abbrev made : Bytes
  made = written ns ss

  nodes-are : nodes made ≡ nodes_spelt ns
  unfolding node_bytes written file spell nodes_lent nodes_spelt nodes_held holds
  nodes-are = nodes-spelt made (counts-fit made (kept3 ns ss l)) ∙ ap nodes_lent
      (ap (λ (k : ℕ). take (node_size * k) (drop 6 made)) (node-count ns ss) ∙ take_at ns ss (node_size * holds node_size ns) l.node-bytes)

  module _ (k : ℕ) (c : check made ≡ refused (fault_on k p)) where
    four-kept : 4 < k → broken4 made ≡ false
    unfolding breaks
    four-kept h = (refused-number made (fault_on k p) c).lower-kept 4 h

    sum-right : 4 < k → summed (map steps_owned (nodes made)) ≡ step_count made
    unfolding size holds
    sum-right h =
        all_own (nodes made) (nodes-fit made (four-kept h)) ∙ ap (λ (xs : List Node). summed (map (λ (x : Node). x.count) xs)) nodes-are ∙ all ∙ sym (step-count-lent ns ss l)

    among-step : (Off : ActionSet → List Step → ℕ → Type 0) → 4 < k → (s : ℕ) → StepOff made Off s → s < step_count made
    among-step Off h s u = omega (arith, step-inside made Off s u, sum-right h)

    among-6 : 4 < k → (s : ℕ) → Offends6 made s → s < step_count made
    among-6 h s (sum-off e) = absurd (e (sum-right h))
    among-6 h s (leads-off e u) = among-step Off6 h s u

  among-4 : (q : ℕ) → Offends4 made q → Among (node_count made) (step_count made) (fault_on 4 q)
  among-4 q (node-off i h e) = a-node (node_count made) (step_count made) i h
  among-4 q (step-off i h e) = a-step (node_count made) (step_count made) (node_count made + i) i refl h

  abbrev Here : ℕ → Type 0
  Here k = Among (node_count made) (step_count made) (fault_on k p)

  -- by the rule's number
  among : (k : ℕ) → 4 ≤ k → k ≤ 10 → check made ≡ refused (fault_on k p) → Here k
  unfolding which rule_sort
  among zero h j c = absurd (omega arith)
  among (suc zero) h j c = absurd (omega arith)
  among (suc (suc zero)) h j c = absurd (omega arith)
  among (suc (suc (suc zero))) h j c = absurd (omega arith)
  among (suc (suc (suc (suc zero)))) h j c = among-4 p ((spots-lowest made).four p c).offends
  among (suc (suc (suc (suc (suc zero))))) h j c = record { sort = node; number = p; is = refl; inside = ((spots-lowest made).five p c).offends.inside }
  among (suc (suc (suc (suc (suc (suc zero)))))) h j c = record { sort = step; number = p; is = refl; inside = among-6 6 c (omega arith) p ((spots-lowest made).six p c).offends }
  among (suc (suc (suc (suc (suc (suc (suc zero))))))) h j c = record { sort = step; number = p; is = refl; inside = among-step 7 c Off7 (omega arith) p ((spots-lowest made).seven p c).offends }
  among (suc (suc (suc (suc (suc (suc (suc (suc zero)))))))) h j c = record { sort = step; number = p; is = refl; inside = among-step 8 c Off8 (omega arith) p ((spots-lowest made).eight p c).offends }
  among (suc (suc (suc (suc (suc (suc (suc (suc (suc zero))))))))) h j c = record { sort = node; number = p; is = refl; inside = ((spots-lowest made).nine p c).offends.inside }
  among (suc (suc (suc (suc (suc (suc (suc (suc (suc (suc zero)))))))))) h j c = record { sort = node; number = p; is = refl; inside = ((spots-lowest made).ten p c).offends.inside }
  among (suc (suc (suc (suc (suc (suc (suc (suc (suc (suc (suc k))))))))))) h j c = absurd (omega arith)

-- ---- the writer's refusal of a text's records

module _ (text ns ss : Bytes) (h : read_text text ≡ records ns ss) where
  in-run : (s : Sort) (i : ℕ) → i < elim s [ node ↦ nodes_held ns | step ↦ holds step_size ss ] → i < length (run_of s ns ss) / size s
  unfolding run_of size nodes_held holds
  in-run node i l = l
  in-run step i l = l

  sourced : (f : Fault) → Among (nodes_held ns) (holds step_size ss) f → Blamed text ns ss f
  unfolding spot_line Sourced
  sourced f a = record {
    sort = a.sort;
    number = a.number;
    is = a.is;
    source = subst (Source text a.sort a.number (record_in a.sort (run_of a.sort ns ss) a.number)) (ap (line_of_record text) (sym a.is))
        (each-sourced text ns ss h a.sort a.number (in-run a.sort a.number a.inside));
  }

  blamed : (k p : ℕ) → Lent ns ss → check (written ns ss) ≡ refused (fault_on k p) → 4 ≤ k → k ≤ 10 → Blamed text ns ss (fault_on k p)
  unfolding nodes_held holds
  blamed k p l c four ten =
      sourced (fault_on k p)
      (subst (λ (n : ℕ). Among n (holds step_size ss) (fault_on k p)) (node-count ns ss)
      (subst (λ (m : ℕ). Among (node_count (written ns ss)) m (fault_on k p)) (step-count-lent ns ss l) (among ns ss l (all-counted text ns ss h) p k four ten c)))

  pub text-blamed : (out : Bytes) (f : Fault) (p : ℕ) → (writes ns ss out).reply ≡ refuses f → f.spot ≡ on_record p → Blamed text ns ss f
  text-blamed out f p e s = go f (refused_why ns ss out f e).1 s
    where
      go : (f : Fault) → Why ns ss out f → f.spot ≡ on_record p → Blamed text ns ss f
      go f (unlent x) s = let z : ◌≡◌ {A = ℕ} 0 1 = cc in absurd (omega arith)
      go f (short l c x) s = let z : ◌≡◌ {A = ℕ} 0 1 = cc in absurd (omega arith)
      go f (broken l c four ten) s =
          let e : f ≡ fault_on f.number p = ap (λ (w : Spot). record { number = f.number; spot = w }) s in
          subst (Blamed text ns ss) (sym e) (blamed f.number p l (c ∙ ap refused e) four ten)
