-- The first step of all leaves that breaks a rule, one node at a time.
use Prim.Native.Nat.{ℕ, zero, suc, ◌+◌, ◌*◌, ◌≤◌, ◌<◌}
use native.Mathlib.Omega.{arith}
use mathlib.Core.Path.{◌≡◌, refl, sym, ap, ◌∙◌}
use mathlib.Core.Bool.{Bool, true, false, ◌||◌, not}
use mathlib.Core.List.{List, [], ◌∷◌, map}
use lib.Dec.{eqb}
use lib.ListN.{length, get_or, drop, drop_of_length-le}
use lib.Seq.{drop-cons}
use borrow.Author.Tests.{not-false, eqb-true}
use Rattle.actions.specs.Sets.{ActionSet}
use Rattle.actions.proofs.Tests.{of-yes, and_first, and_second, or-false-left, or-false-right}
use Rattle.spec_policy.specs.Bytes.{Bytes}
use Rattle.spec_policy.specs.Lists.{summed}
use Rattle.spec_policy.specs.Records.{Node, step_count, node_at, node_place, nodes}
use Rattle.spec_policy.specs.Spots.{Spot, nowhere, on_record, or_else, counted_from}
use Rattle.spec_policy.specs.Steps.{Step, halt}
use Rattle.spec_policy.specs.Tree.{NodeKind, aLeaf, aTrivial, an_unsatisfiable, aPair, no_node, node_kind, steps_owned, first_step, NodeSteps, no_node_steps, nodes_with_steps}
use Rattle.spec_policy.proofs.SpotLaws.{lowest-off}
use Rattle.spec_policy.proofs.NodeLaws.{first-none, first_next}
use Rattle.spec_check.specs.Leaves.{every_leaf, first_in_leaves}
use Rattle.spec_check.specs.Numbers.{node_steps_in}
use Rattle.spec_check.specs.Targets.{leads_well, targets_fit, wrong6, broken6}
use Rattle.spec_check.specs.Modes.{marks, mode_fits}
use Rattle.spec_check.specs.Possible.{possible, branches_taken}
use Rattle.spec_check.proofs.Kept.{broken6-is}
use Rattle.spec_check.proofs.Numbers.{node-read, kind-read}
use Rattle.file_records.specs.Code.{code_at}
use Rattle.file_records.specs.Kinds.{kind_of}
use Rattle.file_records.specs.declared.Kind.{Kind}
use Rattle.file_records.specs.declared.Kind.TheVariants.{Leaf, Trivial, Unsatisfiable, Pair, Unknown}
use Rattle.check_layout.specs.Frame.{Framed}
use Rattle.check_layout.specs.Fits.{nodes_fit}
use Rattle.check_leaves.proofs.LeafLaws.{places-length, counted, steps-in, code_is, inside-here}
use Rattle.check_spots.specs.Leaf.{Search, LeafAt, TargetsIn, stray_in, lost_in, untaken_in, in_node}
use Rattle.check_spots.proofs.LeafLoops.{six-inside}

-- ---- one node

module _ (f : Search) (x : Node) (code : List Step) where
  pub leaf-off : aLeaf ≡ node_kind x.kind → f x.set code ≡ in_node f x code
  unfolding in_node
  leaf-off e = rw (sym e, in_node) refl

  -- a node that is no leaf
  pub other-off : (q : Kind) → kind_of q ≡ node_kind x.kind → (q ≡ Leaf → ⊥) → nowhere ≡ in_node f x code
  unfolding in_node kind_of
  other-off Leaf e o = absurd (o refl)
  other-off Trivial e o = rw (sym e, in_node) refl
  other-off Unsatisfiable e o = rw (sym e, in_node) refl
  other-off (Pair w j) e o = rw (sym e, in_node) refl
  other-off Unknown e o = rw (sym e, in_node) refl

-- an offset that is found is one of the leaf
pub stray-inside : (r : ActionSet) (code : List Step) (p : ℕ) → stray_in r code ≡ on_record p → p < length code
stray-inside r code p e = (lowest-off (leads_well r code) code halt p e).inside

pub lost-inside : (code : List Step) (p : ℕ) → lost_in code ≡ on_record p → p < length code
lost-inside code p e = (lowest-off (mode_fits (marks code)) code halt p e).inside

pub untaken-inside : (r : ActionSet) (code : List Step) (p : ℕ) → untaken_in r code ≡ on_record p → p < length code
untaken-inside r code p e = (lowest-off (branches_taken (possible r code)) code halt p e).inside

-- ---- from node i on

abbrev pub off_from : Search → Bytes → ℕ → Spot
off_from f file i = first_in_leaves f (first_step file i) (drop i (nodes_with_steps file))

head-off : (f : ActionSet → List Step → Spot) (b : ℕ) (p : NodeSteps) (ps : List NodeSteps)
    → first_in_leaves f b (p ∷ ps) ≡ or_else (counted_from b (in_node f p.node p.steps)) (first_in_leaves f (b + steps_owned p.node) ps)
unfolding first_in_leaves in_node or_else counted_from
head-off f b p ps = go (node_kind p.node.kind) refl
  where
    go : (k : NodeKind) → node_kind p.node.kind ≡ k
        → first_in_leaves f b (p ∷ ps) ≡ or_else (counted_from b (in_node f p.node p.steps)) (first_in_leaves f (b + steps_owned p.node) ps)
    go aLeaf e = rw (e, first_in_leaves, in_node) refl
    go aTrivial e = rw (e, first_in_leaves, in_node) refl
    go an_unsatisfiable e = rw (e, first_in_leaves, in_node) refl
    go (aPair w j) e = rw (e, first_in_leaves, in_node) refl
    go no_node e = rw (e, first_in_leaves, in_node) refl

abbrev pub first_of : Search → Bytes → Spot
first_of off file = first_in_leaves off 0 (nodes_with_steps file)

module _ {file : Bytes} {n m : ℕ} (f : Framed file n m) (fits : nodes_fit file ≡ true) (all : summed (map steps_owned (nodes file)) ≡ m) where
  -- before node i, whose first step has this number, nothing is found
  pub nothing-yet : (off : Search) → first_of off file ≡ off_from off file 0
  nothing-yet off = ap (λ (b : ℕ). first_in_leaves off b (nodes_with_steps file)) (sym (first-none file))

  pub nothing-found : (off : Search) (i : ℕ) → n ≤ i → first_of off file ≡ off_from off file i → nowhere ≡ first_of off file
  unfolding first_in_leaves
  nothing-found off i h rest =
      sym (rest ∙ ap (λ (ps : List NodeSteps). first_in_leaves off (first_step file i) ps) (drop_of_length-le (nodes_with_steps file) {i = i} (omega (arith, places-length file, f.nodes))))

  -- node i as the code has read it: its record begins at `place`, its steps at `at`, and it counts so many
  module _ (i first place at count : ℕ) (b : first ≡ first_step file i) (h : i < n) (p : place ≡ node_place i) (a : at ≡ 6 + 16 * n + 12 * first) (k : count ≡ (node_at file place).count) where
    abbrev x : Node
    x = node_at file place

    abbrev code : List Step
    code = code_at file at count

    begins-at : at ≡ 6 + 16 * n + 12 * first_step file i
    begins-at = omega (arith, b)

    pub begins-next : first + count ≡ first_step file (i + 1)
    begins-next = omega (arith, b, (counted f fits i place count h p k).next)

    pub numbers-in : first + count ≤ m
    numbers-in = omega (arith, steps-in f fits all i h, begins-next)

    own : code ≡ (node_steps_in (nodes_with_steps file) i).steps
    own = code_is f fits all i place at count h p begins-at k

    pub leaf-at : {r : ActionSet} → aLeaf ≡ node_kind x.kind → r ≡ x.set → LeafAt file at count r
    leaf-at e s = record {
      in_file = inside-here f fits all i place at count h p begins-at k;
      few = (counted f fits i place count h p k).few;
      node = i;
      kind = kind-read file (omega (arith, f.nodes)) p (sym e);
      set = s ∙ ap (λ (y : Node). y.set) (sym (node-read file (omega (arith, f.nodes)) p));
      steps = own;
    }

    module _ (off : Search) (rest : first_of off file ≡ off_from off file i) where
      off_rest : off_from off file i ≡ or_else (counted_from first (in_node off x code)) (off_from off file (i + 1))
      off_rest =
          let z : suc i ≡ i + 1 = omega arith in
          let here = node-read file (omega (arith, f.nodes)) p in
          let steps = sym own in
          let number = sym b in
          let owned : first_step file i + steps_owned (node_steps_in (nodes_with_steps file) i).node ≡ first_step file (i + 1) =
          ap (λ (y : Node). first_step file i + steps_owned y) (here ∙ ap (node_at file) p) ∙ sym (first_next file i (omega (arith, f.nodes))) in
          ap (λ (ps : List NodeSteps). first_in_leaves off (first_step file i) ps) (drop-cons (nodes_with_steps file) i no_node_steps (omega (arith, places-length file, f.nodes)))
          ∙ head-off off (first_step file i) (node_steps_in (nodes_with_steps file) i) (drop (suc i) (nodes_with_steps file))
          ∙ λ j. or_else (counted_from (number j) (in_node off (here j) (steps j))) (first_in_leaves off (owned j) (drop (z j) (nodes_with_steps file)))

      -- a step of the node is found
      pub found-here : (o : ℕ) → on_record o ≡ in_node off x code → on_record (first + o) ≡ first_of off file
      unfolding or_else counted_from
      found-here o e = sym (rest ∙ off_rest ∙ ap (λ (s : Spot). or_else (counted_from first s) (off_from off file (i + 1))) (sym e))

      -- none is
      pub none-here : nowhere ≡ in_node off x code → first_of off file ≡ off_from off file (i + 1)
      unfolding or_else counted_from
      none-here e = rest ∙ off_rest ∙ ap (λ (s : Spot). or_else (counted_from first s) (off_from off file (i + 1))) (sym e)

-- ---- rules 6 to 8

-- what holds of every leaf holds of this one
leaf-passes : (f : ActionSet → List Step → Bool) (ps : List NodeSteps) (i : ℕ) → every_leaf f ps ≡ true → node_kind (get_or ps i no_node_steps).node.kind ≡ aLeaf
    → f (get_or ps i no_node_steps).node.set (get_or ps i no_node_steps).steps ≡ true
unfolding every_leaf no_node_steps node_kind
leaf-passes f [] i e k = absurd cc
leaf-passes f (p ∷ ps) zero e k = and_first _ _ (rw (k, every_leaf) at e)
leaf-passes f (p ∷ ps) (suc i) e k = leaf-passes f ps i (go (node_kind p.node.kind) refl) k
  where
    go : (q : NodeKind) → node_kind p.node.kind ≡ q → every_leaf f ps ≡ true
    go aLeaf u = and_second _ _ (rw (u, every_leaf) at e)
    go aTrivial u = rw (u, every_leaf) at e
    go an_unsatisfiable u = rw (u, every_leaf) at e
    go (aPair w j) u = rw (u, every_leaf) at e
    go no_node u = rw (u, every_leaf) at e

pub leaf-targets : {file : Bytes} {at count : ℕ} {r : ActionSet} → every_leaf targets_fit (nodes_with_steps file) ≡ true → LeafAt file at count r → TargetsIn file at count
leaf-targets {file} {at} {count} {r} e l =
    six-inside r file at count (of-yes _ ((λ i. targets_fit (l.set i) (l.steps i)) ∙ leaf-passes targets_fit (nodes_with_steps file) l.node e l.kind))

module _ {file : Bytes} {n m : ℕ} (f : Framed file n m) where
  abbrev sum : ℕ
  sum = summed (map steps_owned (nodes file))

  pub sum-wrong : eqb sum m ≡ false → on_record 0 ≡ wrong6 file
  unfolding wrong6
  sum-wrong e = let u : eqb sum (step_count file) ≡ false = ap (eqb sum) (sym f.steps) ∙ e in rw (u, wrong6) refl

  pub sum-right : eqb sum m ≡ true → first_in_leaves (λ r code. stray_in r code) 0 (nodes_with_steps file) ≡ wrong6 file
  unfolding wrong6
  sum-right e = let u : eqb sum (step_count file) ≡ true = ap (eqb sum) (sym f.steps) ∙ e in rw (u, wrong6) refl

  -- rule 6 is kept
  module _ (six : broken6 file ≡ false) where
    kept-parts : (not (eqb sum (step_count file)) || not (every_leaf targets_fit (nodes_with_steps file))) ≡ false
    kept-parts = sym (broken6-is file) ∙ six

    pub all-owned : sum ≡ m
    all-owned = eqb-true sum (step_count file) (not-false _ (or-false-left _ _ kept-parts)) ∙ sym f.steps

    pub all-lead : every_leaf targets_fit (nodes_with_steps file) ≡ true
    all-lead = not-false _ (or-false-right (not (eqb sum (step_count file))) _ kept-parts)
