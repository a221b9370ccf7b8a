-- The first step that is wrong, over all leaves: it is wrong in its leaf, and nothing with a smaller number is.
use Prim.Native.Nat.{ℕ, zero, suc, ◌+◌, ◌≤◌, ◌<◌}
use native.Mathlib.Omega.{arith}
use mathlib.Core.Path.{◌≡◌, refl, sym, ap, ◌∙◌, subst}
use mathlib.Core.Bool.{Bool, true, false}
use mathlib.Core.List.{List, [], ◌∷◌, map}
use lib.Dec.{ltb}
use borrow.Author.Tests.{ltb-true, ltb-false}
use lib.ListN.{length, take, drop}
use Rattle.actions.specs.Sets.{ActionSet}
use Rattle.spec_policy.specs.Bytes.{Bytes}
use Rattle.spec_policy.specs.Lists.{summed}
use Rattle.spec_policy.specs.Records.{Node, nodes, step_records}
use Rattle.spec_policy.specs.Spots.{Spot, nowhere, on_record, or_else, counted_from}
use Rattle.spec_policy.specs.Steps.{Step, step_of}
use Rattle.spec_policy.specs.Tree.{NodeKind, aLeaf, aTrivial, an_unsatisfiable, aPair, no_node, node_kind, steps_owned, first_step, NodeSteps, no_node_steps, with_steps, nodes_with_steps}
use Rattle.spec_check.specs.Leaves.{first_in_leaves}
use Rattle.laws_check.specs.Offends.{LowestOf, StepOff}
use Rattle.spec_check.specs.Numbers.{node_steps_in, node_in, kind_in}

-- ---- how many steps the nodes before node i own

before : List NodeSteps → ℕ → ℕ
before [] i = 0
before (p ∷ ps) zero = 0
before (p ∷ ps) (suc i) = steps_owned p.node + before ps i

before-file : (xs : List Node) (ss : List Step) (i : ℕ) → before (with_steps xs ss) i ≡ summed (map steps_owned (take i xs))
unfolding before with_steps summed
before-file [] ss zero = refl
before-file [] ss (suc i) = refl
before-file (x ∷ xs) ss zero = refl
before-file (x ∷ xs) ss (suc i) = ap (λ (k : ℕ). steps_owned x + k) (before-file xs (drop (steps_owned x) ss) i)

before-later : (ps : List NodeSteps) (i k : ℕ) → i < k → before ps i + steps_owned (node_in ps i) ≤ before ps k
unfolding before no_node_steps steps_owned node_kind
before-later [] i k h = omega arith
before-later (p ∷ ps) zero zero h = absurd (omega arith)
before-later (p ∷ ps) zero (suc k) h = omega arith
before-later (p ∷ ps) (suc i) zero h = absurd (omega arith)
before-later (p ∷ ps) (suc i) (suc k) h = omega (arith, before-later ps i k (omega arith))

-- and how many all own
before-all : (ps : List NodeSteps) (i : ℕ) → before ps i + steps_owned (node_in ps i) ≤ summed (map (λ p. steps_owned p.node) ps)
unfolding before summed no_node_steps steps_owned node_kind
before-all [] i = omega arith
before-all (p ∷ ps) zero = omega arith
before-all (p ∷ ps) (suc i) = omega (arith, before-all ps i)

all-owned : (xs : List Node) (ss : List Step) → summed (map (λ p. steps_owned p.node) (with_steps xs ss)) ≡ summed (map steps_owned xs)
unfolding with_steps summed
all-owned [] ss = refl
all-owned (x ∷ xs) ss = ap (λ (k : ℕ). steps_owned x + k) (all-owned xs (drop (steps_owned x) ss))

take-most : {A : Type 0} (n : ℕ) (xs : List A) → length (take n xs) ≤ n
take-most zero [] = omega arith
take-most zero (x ∷ xs) = omega arith
take-most (suc n) [] = omega arith
take-most (suc n) (x ∷ xs) = omega (arith, take-most n xs)

steps-owned : (xs : List Node) (ss : List Step) (i : ℕ) → length (node_steps_in (with_steps xs ss) i).steps ≤ steps_owned (node_in (with_steps xs ss) i)
unfolding with_steps no_node_steps steps_owned node_kind
steps-owned [] ss i = omega arith
steps-owned (x ∷ xs) ss zero = take-most (steps_owned x) ss
steps-owned (x ∷ xs) ss (suc i) = steps-owned xs (drop (steps_owned x) ss) i

-- ---- the first

module _ (f : ActionSet → List Step → Spot) where
  -- s is what f finds in leaf i, and f finds nothing in a leaf before it; b steps are owned before all these
  record FirstLeaf (b : ℕ) (ps : List NodeSteps) (s : ℕ) : Type 0 where
    leaf : ℕ
    offset : ℕ
    is-leaf : kind_in ps leaf ≡ aLeaf
    found : f (node_in ps leaf).set (node_steps_in ps leaf).steps ≡ on_record offset
    number : s ≡ b + before ps leaf + offset
    earlier : (k : ℕ) → k < leaf → kind_in ps k ≡ aLeaf → f (node_in ps k).set (node_steps_in ps k).steps ≡ nowhere

  module _ (b : ℕ) (p : NodeSteps) (ps : List NodeSteps) (s : ℕ) where
    -- nothing is found in p
    later-leaf : (node_kind p.node.kind ≡ aLeaf → f p.node.set p.steps ≡ nowhere) → FirstLeaf (b + steps_owned p.node) ps s → FirstLeaf b (p ∷ ps) s
    unfolding before
    later-leaf none r = record {
      leaf = suc r.leaf;
      offset = r.offset;
      is-leaf = r.is-leaf;
      found = r.found;
      number = omega (arith, r.number);
      earlier = go;
    }
      where
        go : (k : ℕ) → k < suc r.leaf → kind_in (p ∷ ps) k ≡ aLeaf → f (node_in (p ∷ ps) k).set (node_steps_in (p ∷ ps) k).steps ≡ nowhere
        go zero l e = none e
        go (suc k) l e = r.earlier k (omega arith) e

    this-leaf : node_kind p.node.kind ≡ aLeaf → (o : ℕ) → f p.node.set p.steps ≡ on_record o → s ≡ b + o → FirstLeaf b (p ∷ ps) s
    unfolding before
    this-leaf e o h z = record { leaf = 0; offset = o; is-leaf = e; found = h; number = omega arith; earlier = λ k l u. absurd (omega arith) }

  first_leaf : (b : ℕ) (ps : List NodeSteps) (s : ℕ) → first_in_leaves f b ps ≡ on_record s → FirstLeaf b ps s
  unfolding first_in_leaves or_else counted_from
  first_leaf b [] s h = let z : ◌≡◌ {A = ℕ} 0 1 = cc in absurd (omega arith)
  first_leaf b (p ∷ ps) s h = go (node_kind p.node.kind) refl (first_leaf (b + steps_owned p.node) ps s)
    where
      rest : Type 0
      rest = first_in_leaves f (b + steps_owned p.node) ps ≡ on_record s → FirstLeaf (b + steps_owned p.node) ps s

      in_leaf : node_kind p.node.kind ≡ aLeaf → rest → (w : Spot) → f p.node.set p.steps ≡ w → or_else (counted_from b w) (first_in_leaves f (b + steps_owned p.node) ps) ≡ on_record s
          → FirstLeaf b (p ∷ ps) s
      in_leaf e again nowhere w u = later-leaf b p ps s (λ k. w) (again u)
      in_leaf e again (on_record o) w u =
          let v : on_record (b + o) ≡ on_record s = u in
          let z : b + o ≡ s = cc in
          this-leaf b p ps s e o w (sym z)

      other : {k : NodeKind} → node_kind p.node.kind ≡ k → (k ≡ aLeaf → ⊥) → rest → first_in_leaves f (b + steps_owned p.node) ps ≡ on_record s → FirstLeaf b (p ∷ ps) s
      other e n again u = later-leaf b p ps s (λ l. absurd (n (sym e ∙ l))) (again u)

      go : (k : NodeKind) → node_kind p.node.kind ≡ k → rest → FirstLeaf b (p ∷ ps) s
      go aLeaf e again = in_leaf e again (f p.node.set p.steps) refl (rw (e, first_in_leaves) at h)
      go aTrivial e again = other e (λ n. let z : ◌≡◌ {A = ℕ} 0 1 = cc in omega arith) again (rw (e, first_in_leaves) at h)
      go an_unsatisfiable e again = other e (λ n. let z : ◌≡◌ {A = ℕ} 0 1 = cc in omega arith) again (rw (e, first_in_leaves) at h)
      go (aPair w j) e again = other e (λ n. let z : ◌≡◌ {A = ℕ} 0 1 = cc in omega arith) again (rw (e, first_in_leaves) at h)
      go no_node e again = other e (λ n. let z : ◌≡◌ {A = ℕ} 0 1 = cc in omega arith) again (rw (e, first_in_leaves) at h)

-- what f finds in each leaf is what is wrong there, and nothing before it is
pub record Finds (f : Spot) (length : ℕ) (Off : ℕ → Type 0) : Type 0 where
  pub first : (o : ℕ) → f ≡ on_record o → (o < length) × Off o × ((q : ℕ) → q < o → Off q → ⊥)
  pub none : f ≡ nowhere → (q : ℕ) → q < length → Off q → ⊥

module _ (file : Bytes) (f : ActionSet → List Step → Spot) (Off : ActionSet → List Step → ℕ → Type 0)
    (finds : (i : ℕ) → kind_in (nodes_with_steps file) i ≡ aLeaf
    → Finds (f (node_in (nodes_with_steps file) i).set (node_steps_in (nodes_with_steps file) i).steps) (length (node_steps_in (nodes_with_steps file) i).steps) (Off (node_in (nodes_with_steps file) i).set (node_steps_in (nodes_with_steps file) i).steps)) where
  first-step : (i : ℕ) → first_step file i ≡ before (nodes_with_steps file) i
  unfolding first_step nodes_with_steps
  first-step i = sym (before-file (nodes file) (map step_of (step_records file)) i)

  own : (i : ℕ) → length (node_steps_in (nodes_with_steps file) i).steps ≤ steps_owned (node_in (nodes_with_steps file) i)
  unfolding nodes_with_steps
  own i = steps-owned (nodes file) (map step_of (step_records file)) i

  -- no step with a smaller number is wrong, whatever leaf it is in
  in_order : (s : ℕ) (r : FirstLeaf f 0 (nodes_with_steps file) s) (q : ℕ) → q < s → StepOff file Off q → ⊥
  in_order s r q l u = go (ltb u.leaf r.leaf) refl (ltb r.leaf u.leaf) refl
    where
      same : u.leaf ≡ r.leaf → u.offset < r.offset → ⊥
      same z k =
          ((finds r.leaf r.is-leaf).first r.offset r.found).2 u.offset k
          (subst (λ (i : ℕ). Off (node_in (nodes_with_steps file) i).set (node_steps_in (nodes_with_steps file) i).steps u.offset) z u.off)

      go : (b : Bool) → ltb u.leaf r.leaf ≡ b → (c : Bool) → ltb r.leaf u.leaf ≡ c → ⊥
      go true e c d = (finds u.leaf u.is-leaf).none (r.earlier u.leaf (ltb-true u.leaf r.leaf e) u.is-leaf) u.offset u.inside u.off
      go false e true d =
          let i = ((finds r.leaf r.is-leaf).first r.offset r.found).0 in
          omega (arith, before-later (nodes_with_steps file) r.leaf u.leaf (ltb-true r.leaf u.leaf d), own r.leaf, r.number, u.number, first-step u.leaf, i)
      go false e false d =
          let a : r.leaf ≤ u.leaf = ltb-false u.leaf r.leaf e in
          let b : u.leaf ≤ r.leaf = ltb-false r.leaf u.leaf d in
          let z : u.leaf ≡ r.leaf = omega arith in
          same z (omega (arith, r.number, u.number, first-step u.leaf, ap (before (nodes_with_steps file)) z))

  pub lowest_step : (s : ℕ) → first_in_leaves f 0 (nodes_with_steps file) ≡ on_record s → LowestOf (StepOff file Off) s
  lowest_step s h =
      let r = first_leaf f 0 (nodes_with_steps file) s h in
      let i = (finds r.leaf r.is-leaf).first r.offset r.found in
      record {
        offends = record { leaf = r.leaf; offset = r.offset; is-leaf = r.is-leaf; inside = i.0; number = omega (arith, r.number, first-step r.leaf); off = i.1 };
        below = in_order s r;
      }

-- a step that is wrong is one of those that leaves own
pub step-inside : (file : Bytes) (Off : ActionSet → List Step → ℕ → Type 0) (s : ℕ) → StepOff file Off s → s < summed (map steps_owned (nodes file))
unfolding first_step nodes_with_steps
step-inside file Off s u =
    let steps : List Step = map step_of (step_records file) in
    omega (arith, u.number, u.inside, before-file (nodes file) steps u.leaf, steps-owned (nodes file) steps u.leaf, before-all (with_steps (nodes file) steps) u.leaf, all-owned (nodes file) steps)
