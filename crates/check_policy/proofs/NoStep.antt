-- A file with no step. No node of it is a leaf, so that rules 6 to 10 ask nothing of it, and its two sets are empty.
use Prim.Native.Nat.{ℕ, zero, suc, ◌<◌}
use native.Mathlib.Omega.{arith}
use mathlib.Core.Path.{◌≡◌, refl, sym, ap, ap₂, ◌∙◌}
use mathlib.Core.Bool.{Bool, true, false, ◌||◌, not}
use mathlib.Core.List.{List, [], ◌∷◌, map}
use lib.Dec.{leb}
use Rattle.actions.specs.Sets.{ActionSet, EMPTY, union, meets}
use Rattle.actions.proofs.SetLaws.{union-none}
use Rattle.actions.proofs.Tests.{true-not-false}
use Rattle.spec_policy.specs.Bytes.{Bytes}
use Rattle.spec_policy.specs.Lists.{summed, every, listed}
use Rattle.spec_policy.specs.Records.{Node, node_at, node_place, nodes, step_record_at, step_place, step_records}
use Rattle.spec_policy.specs.Spots.{nowhere, first_off, somewhere}
use Rattle.spec_policy.specs.Steps.{Step}
use Rattle.spec_policy.specs.Tree.{Way, parallel, sequential, Join, NodeKind, aLeaf, aTrivial, an_unsatisfiable, aPair, no_node, node_kind, steps_owned, NodeSteps, nodes_with_steps}
use Rattle.spec_policy.specs.Tree.{Tree, node, tree_under, tree, tree_at, regulated}
use Rattle.spec_policy.proofs.NodeLaws.{nodes-length}
use Rattle.spec_check.specs.Leaves.{every_leaf}
use Rattle.spec_check.specs.Layout.{step_fits, broken4}
use Rattle.spec_check.specs.Children.{broken5}
use Rattle.spec_check.specs.Targets.{targets_fit}
use Rattle.spec_check.specs.Modes.{modes_fit}
use Rattle.spec_check.specs.Possible.{all_taken}
use Rattle.spec_check.specs.Interference.{effects, interfere, crossed, wrong9, broken9}
use Rattle.spec_check.specs.Spread.{spread_of, spread, wrong10, broken10}
use Rattle.spec_check.specs.Numbers.{kind_in}
use Rattle.spec_check.specs.Check.{passes, check}
use Rattle.spec_check.proofs.Kept.{broken7-is, broken8-is}
use Rattle.spec_check.proofs.Numbers.{same-node, node-in, node-inside}
use Rattle.spec_check.proofs.Passed.{passes-all}
use Rattle.check_layout.specs.Fits.{nodes_fit}
use Rattle.check_leaves.proofs.LeafLaws.{answer_of, Counted, counted, steps-in, six-leaves}
use Rattle.check_policy.specs.Kept.{FrontKept}
use Rattle.check_policy.proofs.InOrder.{by_parts}

-- ---- over plain lists

Leafless : List NodeSteps → Type 0
Leafless ps = (i : ℕ) → kind_in ps i ≡ aLeaf → ⊥

every-passes : (g : ActionSet → List Step → Bool) (ps : List NodeSteps) → Leafless ps → every_leaf g ps ≡ true
unfolding every_leaf Leafless
every-passes g [] h = refl
every-passes g (p ∷ ps) h = go (node_kind p.node.kind) refl (every-passes g ps (λ i. h (suc i)))
  where
    go : (k : NodeKind) → node_kind p.node.kind ≡ k → every_leaf g ps ≡ true → every_leaf g (p ∷ ps) ≡ true
    go aLeaf e r = absurd (h 0 e)
    go aTrivial e r = rw (e, every_leaf) r
    go an_unsatisfiable e r = rw (e, every_leaf) r
    go (aPair w j) e r = rw (e, every_leaf) r
    go no_node e r = rw (e, every_leaf) r

none-off : {A : Type 0} (f : ℕ → A → Bool) → ((i : ℕ) (x : A) → f i x ≡ true) → (i : ℕ) (xs : List A) → first_off f i xs ≡ nowhere
unfolding first_off
none-off f h i [] = refl
none-off f h i (x ∷ xs) = rw (h i x, first_off) (none-off f h (suc i) xs)

-- ---- a tree with no leaf

record Bare (t : Tree) : Type 0 where
  regulates : regulated t ≡ EMPTY
  affects : effects t ≡ EMPTY
  apart : crossed t ≡ false
  narrow : spread t ≡ 0

bare-pair : (w : Way) (j : Join) (i : ℕ) (l r : Tree) → Bare l → Bare r → Bare (node w j i l r)
unfolding regulated effects spread crossed interfere meets EMPTY spread_of
bare-pair w j i l r a b = record {
  regulates = ap₂ union a.regulates b.regulates ∙ union-none EMPTY;
  affects = ap₂ union a.affects b.affects ∙ union-none EMPTY;
  apart = sides w;
  narrow = ap₂ (spread_of w) a.narrow b.narrow ∙ none w;
}
  where
    sides : (w : Way) → crossed (node w j i l r) ≡ false
    sides parallel = λ u. meets (a.affects u) (b.regulates u) || meets (b.affects u) (a.regulates u)
    sides sequential = refl

    none : (w : Way) → spread_of w 0 0 ≡ 0
    none parallel = refl
    none sequential = refl

bare : (fuel : ℕ) (ps : List NodeSteps) → Leafless ps → (i : ℕ) → Bare (tree_under fuel ps i)
unfolding tree_under regulated effects crossed spread Leafless
bare zero ps h i = record { regulates = refl; affects = refl; apart = refl; narrow = refl }
bare (suc fuel) ps h i = go (kind_in ps i) refl (λ k. bare fuel ps h k)
  where
    go : (k : NodeKind) → kind_in ps i ≡ k → ((c : ℕ) → Bare (tree_under fuel ps c)) → Bare (tree_under (suc fuel) ps i)
    go aLeaf e under = absurd (h i e)
    go aTrivial e under = rw (e, tree_under) record { regulates = refl; affects = refl; apart = refl; narrow = refl }
    go an_unsatisfiable e under = rw (e, tree_under) record { regulates = refl; affects = refl; apart = refl; narrow = refl }
    go no_node e under = rw (e, tree_under) record { regulates = refl; affects = refl; apart = refl; narrow = refl }
    go (aPair w j) e under = rw (e, tree_under) (bare-pair w j i _ _ (under _) (under _))

-- ---- the file

module _ (file : Bytes) {n m : ℕ} (k : FrontKept file n m) (fits : nodes_fit file ≡ true) (five : broken5 file ≡ false)
    (all : summed (map steps_owned (nodes file)) ≡ m) (none : m ≡ 0) where
  -- a leaf has a step
  no-leaf : (i : ℕ) → i < n → node_kind (node_at file (node_place i)).kind ≡ aLeaf → ⊥
  no-leaf i h =
      let c : Counted file i (node_at file (node_place i)).count = counted k.frame fits i (node_place i) _ h refl refl in
      c.other (omega (arith, c.next, steps-in k.frame fits all i h))

  leafless : Leafless (nodes_with_steps file)
  unfolding Leafless answer_of
  leafless i e =
      let inside = node-inside (nodes file) i (λ z. true-not-false {b = answer_of no_node false} refl (ap (λ (q : NodeKind). answer_of q false) (sym z ∙ ap (λ (x : Node). node_kind x.kind) (sym (same-node file i)) ∙ e))) in
      no-leaf i (omega (arith, inside, nodes-length file, k.frame.nodes)) (ap (λ (x : Node). node_kind x.kind) (sym (node-in file i (omega (arith, inside, nodes-length file)))) ∙ e)

  bare-at : (i : ℕ) → Bare (tree_at file i)
  unfolding tree_at
  bare-at i = bare _ (nodes_with_steps file) leafless i

  bare-top : Bare (tree file)
  unfolding tree
  bare-top = bare _ (nodes_with_steps file) leafless 0

  four : broken4 file ≡ false
  unfolding step_records every listed
  four =
      by_parts file k fits
      ∙ ap (λ (c : ℕ). not true || not (every step_fits (listed (λ i. step_record_at file (step_place file i)) 0 c))) (sym k.frame.steps ∙ none)

  nine : broken9 file ≡ false
  unfolding broken9 wrong9 somewhere
  nine = ap somewhere (none-off (λ i x. not (crossed (tree_at file i))) (λ i x. ap not (bare-at i).apart) 0 (nodes file))

  ten : broken10 file ≡ false
  unfolding broken10 wrong10 somewhere
  ten = ap somewhere (none-off (λ i x. leb (spread (tree_at file i)) 255) (λ i x. ap (λ (s : ℕ). leb s 255) (bare-at i).narrow) 0 (nodes file))

  pub no-step : passes 0 0 ≡ check file
  unfolding EMPTY
  no-step = sym (passes-all file (record {
    kept1 = k.one;
    kept2 = k.two;
    kept3 = k.three;
    kept4 = four;
    kept5 = five;
    kept6 = six-leaves k.frame all ∙ ap not (every-passes targets_fit _ leafless);
    kept7 = broken7-is file ∙ ap not (every-passes (λ r code. modes_fit code) _ leafless);
    kept8 = broken8-is file ∙ ap not (every-passes all_taken _ leafless);
    kept9 = nine;
    kept10 = ten;
  }) ∙ ap₂ passes bare-top.regulates bare-top.affects)
