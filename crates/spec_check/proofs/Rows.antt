-- What rules 3, 4 and 6 give: the counts of the front, that every leaf's inserts are actions, and that every leaf has the steps that
-- it counts, 1 to 64 of them.
--
use Prim.Native.Nat.{ℕ, zero, suc, ◌*◌, ◌≤◌}
use native.Mathlib.Omega.{arith}
use mathlib.Core.Path.{◌≡◌, refl, sym, ◌∙◌, ap, subst}
use mathlib.Core.Bool.{Bool, false, ◌&&◌, not}
use mathlib.Core.List.{List, [], ◌∷◌, map}
use lib.Dec.{T, eqb, leb, eqb→eq, leb→le}
use lib.ListN.{length, get_or, take, drop, length-drop, length-map}
use lib.Seq.{length-take-le}
use Rattle.actions.specs.Sets.{ActionSet, is_action, is_empty}
use Rattle.actions.proofs.Tests.{and_intro, and_left, and_right, not-not, or-false-left, or-false-right}
use Rattle.spec_policy.specs.Bytes.{Bytes}
use Rattle.spec_policy.specs.Lists.{summed, every}
use Rattle.spec_policy.specs.Records.{Node, StepRecord, front_size, node_size, step_size, most_nodes, most_steps, step_record_at, node_place, step_place, node_count, step_count, nodes, step_records, node_bytes, step_bytes}
use Rattle.spec_policy.specs.Steps.{Step, step_of}
use Rattle.spec_policy.specs.Tree.{NodeKind, aLeaf, aTrivial, an_unsatisfiable, aPair, no_node, node_kind, steps_owned, NodeSteps, no_node_steps, with_steps, nodes_with_steps}
use Rattle.spec_policy.proofs.ListLaws.{listed-length, every-at, every_take, every_drop}
use Rattle.spec_policy.proofs.NodeLaws.{no_n}
use Rattle.spec_check.specs.Layout.{node_fits, no_second, no_operand, step_fits, broken3, broken4, CountsFit}
use Rattle.spec_check.specs.Leaves.{every_leaf}
use Rattle.spec_check.specs.Targets.{targets_fit, broken6}
use Rattle.spec_check.proofs.Kept.{broken4-is, broken6-is}
use Rattle.spec_check.proofs.InsFits.{ins_fits}
use Rattle.spec_check.specs.Numbers.{node_steps_in, node_in, kind_in}
use Rattle.spec_check.proofs.Numbers.{same-node, node-inside}

-- ---- rule 3: the counts of the front

pub counts-fit : (file : Bytes) → broken3 file ≡ false → CountsFit file
unfolding broken3
counts-fit file three =
    let a : Bool = leb 1 (node_count file) in
    let b : Bool = leb (node_count file) most_nodes in
    let c : Bool = leb (step_count file) most_steps in
    let d : Bool = eqb (length file) (step_place file (step_count file)) in
    let u : T (a && b && c) = not-not (a && b && c) (or-false-left (not (a && b && c)) (not d) three) in
    let v : T (a && b) = and_left (a && b) c u in
    record {
      some-node = leb→le 1 (node_count file) (and_left a b v);
      few-nodes = leb→le (node_count file) most_nodes (and_right a b v);
      few-steps = leb→le (step_count file) most_steps (and_right (a && b) c u);
      long = eqb→eq (length file) (step_place file (step_count file)) (not-not d (or-false-right (not (a && b && c)) (not d) three));
    }

-- so long are its records
module _ (file : Bytes) (f : CountsFit file) where
  pub node-bytes-length : length (node_bytes file) ≡ node_size * node_count file
  unfolding node_bytes step_place node_place
  node-bytes-length = length-take-le (node_size * node_count file) (drop front_size file) (simp length-drop (omega (arith, f.long)))

  pub step-bytes-length : length (step_bytes file) ≡ step_size * step_count file
  unfolding step_bytes step_place node_place
  step-bytes-length = length-take-le (step_size * step_count file) (drop (node_place (node_count file)) file) (simp length-drop (omega (arith, f.long)))

-- ---- a test of every leaf

-- what every step passes, every leaf's steps pass
steps-leaves : (f : Step → Bool) (xs : List Node) (ss : List Step) → T (every f ss) → T (every_leaf (λ r code. every f code) (with_steps xs ss))
unfolding with_steps every_leaf
steps-leaves f [] ss h = tt
steps-leaves f (x ∷ xs) ss h = go (node_kind x.kind) refl (steps-leaves f xs (drop (steps_owned x) ss) (every_drop f (steps_owned x) ss h))
  where
    go : (k : NodeKind) → node_kind x.kind ≡ k → T (every_leaf (λ r code. every f code) (with_steps xs (drop (steps_owned x) ss)))
        → T (every_leaf (λ r code. every f code) (with_steps (x ∷ xs) ss))
    go aLeaf e u = rw (e, every_leaf) (and_intro (every f (take (steps_owned x) ss)) (every_leaf (λ r code. every f code) (with_steps xs (drop (steps_owned x) ss))) (every_take f (steps_owned x) ss h) u)
    go aTrivial e u = rw (e, every_leaf) u
    go an_unsatisfiable e u = rw (e, every_leaf) u
    go no_node e u = rw (e, every_leaf) u
    go (aPair w j) e u = rw (e, every_leaf) u

module _ (f : ActionSet → List Step → Bool) where
  first_leaf : (p : NodeSteps) (ps : List NodeSteps) → node_kind p.node.kind ≡ aLeaf → T (every_leaf f (p ∷ ps)) → T (f p.node.set p.steps)
  unfolding every_leaf
  first_leaf p ps e h = and_left (f p.node.set p.steps) (every_leaf f ps) (rw (e, every_leaf) at h)

  rest-leaves : (p : NodeSteps) (ps : List NodeSteps) → T (every_leaf f (p ∷ ps)) → T (every_leaf f ps)
  unfolding every_leaf
  rest-leaves p ps h = go (node_kind p.node.kind) refl
    where
      go : (k : NodeKind) → node_kind p.node.kind ≡ k → T (every_leaf f ps)
      go aLeaf e = and_right (f p.node.set p.steps) (every_leaf f ps) (rw (e, every_leaf) at h)
      go aTrivial e = rw (e, every_leaf) at h
      go an_unsatisfiable e = rw (e, every_leaf) at h
      go no_node e = rw (e, every_leaf) at h
      go (aPair w j) e = rw (e, every_leaf) at h

  -- at one of them
  pub leaf-at : (ps : List NodeSteps) (i : ℕ) → T (every_leaf f ps) → kind_in ps i ≡ aLeaf → T (f (node_in ps i).set (node_steps_in ps i).steps)
  unfolding no_node_steps node_kind
  leaf-at [] i h e = let z : ◌≡◌ {A = ℕ} 0 1 = cc in absurd (omega arith)
  leaf-at (p ∷ ps) zero h e = first_leaf p ps e h
  leaf-at (p ∷ ps) (suc i) h e = leaf-at ps i (rest-leaves p ps h) e

-- ---- rule 4: inserts

every_map : {A B : Type 0} (f : A → Bool) (g : B → Bool) (m : A → B) → ((a : A) → T (f a) → T (g (m a))) → (xs : List A) → T (every f xs) → T (every g (map m xs))
unfolding every
every_map f g m h [] t = tt
every_map f g m h (a ∷ xs) t = and_intro (g (m a)) (every g (map m xs)) (h a (and_left (f a) (every f xs) t)) (every_map f g m h xs (and_right (f a) (every f xs) t))

-- only kind 4 inserts
row-ins : (kind action first second operand : ℕ) → let r : StepRecord = record { kind = kind; action = action; first = first; second = second; operand = operand } in
    T (step_fits r) → T (ins_fits (step_of r))
unfolding step_fits no_second no_operand step_of ins_fits
row-ins zero a f s o h = tt
row-ins (suc zero) a f s o h = tt
row-ins (suc (suc zero)) a f s o h = tt
row-ins (suc (suc (suc zero))) a f s o h = tt
row-ins (suc (suc (suc (suc zero)))) a f s o h = and_left (is_action a) (eqb s 0) (and_left (is_action a && eqb s 0) (eqb o 0) h)
row-ins (suc (suc (suc (suc (suc zero))))) a f s o h = tt
row-ins (suc (suc (suc (suc (suc (suc zero)))))) a f s o h = tt
row-ins (suc (suc (suc (suc (suc (suc (suc zero))))))) a f s o h = tt
row-ins (suc (suc (suc (suc (suc (suc (suc (suc zero)))))))) a f s o h = tt
row-ins (suc (suc (suc (suc (suc (suc (suc (suc (suc k))))))))) a f s o h = tt

module _ (file : Bytes) (four : broken4 file ≡ false) where
  pub nodes-fit : T (every (λ x. node_fits (node_kind x.kind) x) (nodes file))
  nodes-fit =
      not-not (every (λ x. node_fits (node_kind x.kind) x) (nodes file))
      (or-false-left (not (every (λ x. node_fits (node_kind x.kind) x) (nodes file))) (not (every step_fits (step_records file))) (sym (broken4-is file) ∙ four))

  pub steps-fit : T (every step_fits (step_records file))
  steps-fit =
      not-not (every step_fits (step_records file))
      (or-false-right (not (every (λ x. node_fits (node_kind x.kind) x) (nodes file))) (not (every step_fits (step_records file))) (sym (broken4-is file) ∙ four))

  -- "An action is at most 63": of every ins of every leaf
  pub ins-fit : T (every_leaf (λ r code. every ins_fits code) (nodes_with_steps file))
  unfolding nodes_with_steps
  ins-fit =
      steps-leaves ins_fits (nodes file) (map step_of (step_records file))
      (every_map step_fits ins_fits step_of (λ r. row-ins r.kind r.action r.first r.second r.operand) (step_records file) steps-fit)

-- ---- rules 4 and 6: how many steps a leaf has

placed-length : (xs : List Node) (ss : List Step) → summed (map steps_owned xs) ≤ length ss → (i : ℕ)
    → length (node_steps_in (with_steps xs ss) i).steps ≡ steps_owned (node_in (with_steps xs ss) i)
unfolding with_steps summed no_node_steps steps_owned node_kind
placed-length [] ss h i = refl
placed-length (x ∷ xs) ss h zero = length-take-le (steps_owned x) ss (omega arith)
placed-length (x ∷ xs) ss h (suc i) = placed-length xs (drop (steps_owned x) ss) (omega (arith, length-drop (steps_owned x) ss)) i

-- the steps of the leaf x: as many as it counts, 1 to 64
pub record LeafSteps (x : Node) (code : List Step) : Type 0 where
  pub counted : length code ≡ x.count
  pub some : 1 ≤ length code
  pub few : length code ≤ 64

pub leaf-owned : (x : Node) → node_kind x.kind ≡ aLeaf → steps_owned x ≡ x.count
unfolding steps_owned
leaf-owned x e = rw (e, steps_owned)

pub leaf-fits : (x : Node) → T (node_fits aLeaf x) → (1 ≤ x.count) × (x.count ≤ 64)
unfolding node_fits
leaf-fits x h =
    let a : Bool = eqb x.left 0 && eqb x.right 0 in
    let u : T (a && leb 1 x.count && leb x.count 64) = and_left (a && leb 1 x.count && leb x.count 64) (not (is_empty x.set)) h in (
      leb→le 1 x.count (and_right a (leb 1 x.count) (and_left (a && leb 1 x.count) (leb x.count 64) u)),
      leb→le x.count 64 (and_right (a && leb 1 x.count) (leb x.count 64) u),
    )

pub all-owned : (file : Bytes) → broken6 file ≡ false → summed (map steps_owned (nodes file)) ≡ step_count file
all-owned file six =
    eqb→eq (summed (map steps_owned (nodes file))) (step_count file) (not-not (eqb (summed (map steps_owned (nodes file))) (step_count file))
    (or-false-left (not (eqb (summed (map steps_owned (nodes file))) (step_count file))) (not (every_leaf targets_fit (nodes_with_steps file))) (sym (broken6-is file) ∙ six)))

module _ (file : Bytes) (four : broken4 file ≡ false) (six : broken6 file ≡ false) where
  steps-length : length (map step_of (step_records file)) ≡ step_count file
  unfolding step_records
  steps-length = length-map (step_records file) step_of ∙ listed-length (λ i. step_record_at file (step_place file i)) 0 (step_count file)

  pub leaf-steps : (i : ℕ) → kind_in (nodes_with_steps file) i ≡ aLeaf → LeafSteps (node_in (nodes_with_steps file) i) (node_steps_in (nodes_with_steps file) i).steps
  unfolding nodes_with_steps
  leaf-steps i e =
      let x : Node = get_or (nodes file) i no_n in
      let l : node_kind x.kind ≡ aLeaf = subst (λ (y : Node). node_kind y.kind ≡ aLeaf) (same-node file i) e in
      let f : (1 ≤ x.count) × (x.count ≤ 64) =
      leaf-fits x (subst (λ (k : NodeKind). T (node_fits k x)) l (every-at (λ x. node_fits (node_kind x.kind) x) (nodes file) no_n (nodes-fit file four) i
      (node-inside (nodes file) i (λ n. let z : ◌≡◌ {A = ℕ} 0 1 = cc in omega arith)))) in
      let c : (node_in (nodes_with_steps file) i).count ≡ x.count = ap (λ (y : Node). y.count) (same-node file i) in
      let n : length (node_steps_in (nodes_with_steps file) i).steps ≡ (node_in (nodes_with_steps file) i).count =
      placed-length (nodes file) (map step_of (step_records file)) (omega (arith, all-owned file six, steps-length)) i ∙ leaf-owned (node_in (nodes_with_steps file) i) e in
      record { counted = n; some = omega (arith, f.0); few = omega (arith, f.1) }
