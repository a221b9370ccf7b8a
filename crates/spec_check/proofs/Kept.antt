-- A rule is kept just where nothing breaks it: rules 4 to 8 as tests over whole lists, and rules 9 and 10 at each node.
use Prim.Native.Nat.{ℕ, suc, ◌+◌, ◌<◌}
use native.Mathlib.Omega.{arith}
use mathlib.Core.Path.{◌≡◌, refl, sym, ap, ap₂, ◌∙◌}
use mathlib.Core.Bool.{Bool, true, false, ◌&&◌, ◌||◌, not}
use mathlib.Core.List.{List, [], ◌∷◌, map}
use lib.Dec.{T, eqb, leb}
use lib.ListN.{length}
use Rattle.actions.specs.Sets.{ActionSet}
use Rattle.actions.proofs.Tests.{not-not, not-false}
use Rattle.spec_policy.specs.Bytes.{Bytes}
use Rattle.spec_policy.specs.Lists.{summed, every, every_at}
use Rattle.spec_policy.specs.Spots.{Spot, somewhere, counted_from, first_off}
use Rattle.spec_policy.specs.Records.{node_count, step_count, nodes, step_records}
use Rattle.spec_policy.specs.Steps.{Step}
use Rattle.spec_policy.specs.Tree.{NodeKind, aLeaf, aTrivial, an_unsatisfiable, aPair, no_node, node_kind, steps_owned, NodeSteps, nodes_with_steps, no_node_steps, tree_at}
use Rattle.spec_policy.proofs.ListLaws.{every_at-from-0}
use Rattle.spec_policy.proofs.SpotLaws.{or-else, counted-from, off-or-every, every-unnumbered}
use Rattle.spec_policy.proofs.NodeLaws.{nodes-length}
use Rattle.spec_check.specs.Layout.{node_fits, step_fits, wrong4, broken4}
use Rattle.spec_check.specs.Children.{later, one_parent, wrong5, broken5}
use Rattle.spec_check.specs.Leaves.{every_leaf, first_in_leaves}
use Rattle.spec_check.specs.Targets.{leads_well, targets_fit, wrong6, broken6}
use Rattle.spec_check.specs.Modes.{marks, mode_fits, modes_fit, wrong7, broken7}
use Rattle.spec_check.specs.Possible.{possible, branches_taken, all_taken, wrong8, broken8}
use Rattle.spec_check.specs.Interference.{crossed, wrong9, broken9}
use Rattle.spec_check.specs.Spread.{spread, wrong10, broken10}

-- ---- rules 4 and 5

pub broken4-is : (file : Bytes) → broken4 file ≡ (not (every (λ x. node_fits (node_kind x.kind) x) (nodes file)) || not (every step_fits (step_records file)))
unfolding broken4 wrong4
broken4-is file =
    or-else (first_off (λ i x. node_fits (node_kind x.kind) x) 0 (nodes file)) (first_off (λ i r. step_fits r) (node_count file) (step_records file))
    ∙ ap₂ ◌||◌ (off-or-every (λ i x. node_fits (node_kind x.kind) x) 0 (nodes file) ∙ ap not (every-unnumbered (λ x. node_fits (node_kind x.kind) x) 0 (nodes file)))
    (off-or-every (λ i r. step_fits r) (node_count file) (step_records file) ∙ ap not (every-unnumbered step_fits (node_count file) (step_records file)))

every_at-both : {A : Type 0} (f g : ℕ → A → Bool) (i : ℕ) (xs : List A) → not (every_at (λ i x. f i x && g i x) i xs) ≡ (not (every_at f i xs) || not (every_at g i xs))
unfolding every_at
every_at-both f g i [] = refl
every_at-both f g i (x ∷ xs) =
    regroup (f i x) (g i x) (every_at (λ i x. f i x && g i x) (suc i) xs) (every_at f (suc i) xs) (every_at g (suc i) xs) (every_at-both f g (suc i) xs)
  where
    regroup : (a b e c d : Bool) → not e ≡ (not c || not d) → not (a && b && e) ≡ (not (a && c) || not (b && d))
    regroup true true e c d h = h
    regroup true false e true d h = refl
    regroup true false e false d h = refl
    regroup false b e c d h = refl

pub broken5-is : (file : Bytes) → broken5 file ≡ (not (every_at (later (node_count file)) 0 (nodes file)) || not (every_at (λ i x. one_parent (nodes file) i) 0 (nodes file)))
unfolding broken5 wrong5
broken5-is file =
    off-or-every (λ i x. later (node_count file) i x && one_parent (nodes file) i) 0 (nodes file)
    ∙ every_at-both (later (node_count file)) (λ i x. one_parent (nodes file) i) 0 (nodes file)

-- ---- rules 6 to 8

module _ (f : ActionSet → List Step → Spot) (g : ActionSet → List Step → Bool) (same : (r : ActionSet) (code : List Step) → somewhere (f r code) ≡ not (g r code)) where
  pub off-or-leaves : (b : ℕ) (ps : List NodeSteps) → somewhere (first_in_leaves f b ps) ≡ not (every_leaf g ps)
  unfolding first_in_leaves every_leaf somewhere
  off-or-leaves b [] = refl
  off-or-leaves b (p ∷ ps) = go (node_kind p.node.kind) refl (off-or-leaves (b + steps_owned p.node) ps)
    where
      joined : (a c : Bool) → (not a || not c) ≡ not (a && c)
      joined true c = refl
      joined false c = refl

      go : (k : NodeKind) → node_kind p.node.kind ≡ k → somewhere (first_in_leaves f (b + steps_owned p.node) ps) ≡ not (every_leaf g ps)
          → somewhere (first_in_leaves f b (p ∷ ps)) ≡ not (every_leaf g (p ∷ ps))
      go aLeaf e h =
          rw (e, first_in_leaves, every_leaf) (or-else (counted_from b (f p.node.set p.steps)) (first_in_leaves f (b + steps_owned p.node) ps)
          ∙ ap₂ ◌||◌ (counted-from b (f p.node.set p.steps) ∙ same p.node.set p.steps) h ∙ joined (g p.node.set p.steps) (every_leaf g ps))
      go aTrivial e h = rw (e, first_in_leaves, every_leaf) h
      go an_unsatisfiable e h = rw (e, first_in_leaves, every_leaf) h
      go (aPair w j) e h = rw (e, first_in_leaves, every_leaf) h
      go no_node e h = rw (e, first_in_leaves, every_leaf) h

pub broken6-is : (file : Bytes) → broken6 file ≡ (not (eqb (summed (map steps_owned (nodes file))) (step_count file)) || not (every_leaf targets_fit (nodes_with_steps file)))
unfolding broken6 wrong6 targets_fit somewhere
broken6-is file = go (eqb (summed (map steps_owned (nodes file))) (step_count file)) refl
  where
    go : (b : Bool) → eqb (summed (map steps_owned (nodes file))) (step_count file) ≡ b
        → somewhere (wrong6 file) ≡ (not (eqb (summed (map steps_owned (nodes file))) (step_count file)) || not (every_leaf targets_fit (nodes_with_steps file)))
    go true e =
        rw (e, wrong6) (off-or-leaves (λ r code. first_off (leads_well r code) 0 code) targets_fit (λ r code. off-or-every (leads_well r code) 0 code) 0 (nodes_with_steps file))
    go false e = rw (e, wrong6) refl

pub broken7-is : (file : Bytes) → broken7 file ≡ not (every_leaf (λ r code. modes_fit code) (nodes_with_steps file))
unfolding broken7 wrong7 modes_fit
broken7-is file =
    off-or-leaves (λ r code. first_off (mode_fits (marks code)) 0 code) (λ r code. modes_fit code) (λ r code. off-or-every (mode_fits (marks code)) 0 code) 0 (nodes_with_steps file)

pub broken8-is : (file : Bytes) → broken8 file ≡ not (every_leaf all_taken (nodes_with_steps file))
unfolding broken8 wrong8 all_taken
broken8-is file =
    off-or-leaves (λ r code. first_off (branches_taken (possible r code)) 0 code) all_taken (λ r code. off-or-every (branches_taken (possible r code)) 0 code) 0 (nodes_with_steps file)

-- ---- rules 9 and 10, at each node

module _ (file : Bytes) (i : ℕ) (h : i < node_count file) where
  below : i < length (nodes file)
  below = omega (arith, nodes-length file)

  pub nine-at : broken9 file ≡ false → crossed (tree_at file i) ≡ false
  unfolding broken9 wrong9
  nine-at nine =
      not-false (crossed (tree_at file i)) (every_at-from-0 (λ i x. not (crossed (tree_at file i))) (nodes file) no_node_steps.node
      (not-not (every_at (λ i x. not (crossed (tree_at file i))) 0 (nodes file)) (sym (off-or-every (λ i x. not (crossed (tree_at file i))) 0 (nodes file)) ∙ nine)) i below)

  pub ten-at : broken10 file ≡ false → T (leb (spread (tree_at file i)) 255)
  unfolding broken10 wrong10
  ten-at ten =
      every_at-from-0 (λ i x. leb (spread (tree_at file i)) 255) (nodes file) no_node_steps.node
      (not-not (every_at (λ i x. leb (spread (tree_at file i)) 255) 0 (nodes file)) (sym (off-or-every (λ i x. leb (spread (tree_at file i)) 255) 0 (nodes file)) ∙ ten)) i below
