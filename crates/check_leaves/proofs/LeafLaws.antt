-- The leaves in node order: where a leaf's steps lie, what rule 4 says of its count, and a test of every leaf, one node at a time.
--
use Prim.Native.Nat.{ℕ, suc, ◌+◌, ◌*◌, ◌≤◌, ◌<◌}
use native.Mathlib.Omega.{arith}
use mathlib.Core.Path.{◌≡◌, refl, sym, ap, ◌∙◌, subst}
use mathlib.Core.Bool.{Bool, true, false, ◌&&◌, ◌||◌, not}
use mathlib.Core.List.{List, [], ◌∷◌, map}
use lib.Dec.{T, eqb, eqb→eq}
use lib.ListN.{length, get_or, drop, drop_of_length-le}
use borrow.Author.Tests.{eq-eqb}
use lib.Seq.{drop-cons}
use Rattle.actions.specs.Sets.{ActionSet}
use Rattle.actions.proofs.Tests.{true-not-false, of-yes, and_left, and_right}
use Rattle.spec_policy.specs.Bytes.{Bytes}
use Rattle.spec_policy.specs.Lists.{summed}
use Rattle.spec_policy.specs.Records.{Node, node_at, node_place, node_count, step_count, nodes, step_records}
use Rattle.spec_policy.specs.Steps.{Step, step_of}
use Rattle.spec_policy.specs.Tree.{NodeKind, aLeaf, aTrivial, an_unsatisfiable, aPair, no_node, node_kind, steps_owned, first_step, NodeSteps, no_node_steps, with_steps, nodes_with_steps}
use Rattle.spec_policy.proofs.ListLaws.{every-at}
use Rattle.spec_policy.proofs.NodeLaws.{no_n, nodes-length, node_of, first_next, first-in}
use Rattle.spec_check.specs.Layout.{node_fits}
use Rattle.spec_check.specs.Leaves.{every_leaf}
use Rattle.spec_check.specs.Numbers.{node_steps_in}
use Rattle.spec_check.specs.Targets.{targets_fit, broken6}
use Rattle.spec_check.proofs.Kept.{broken6-is}
use Rattle.spec_check.proofs.Numbers.{node-in}
use Rattle.spec_check.proofs.Rows.{leaf-owned, leaf-fits}
use Rattle.check_layout.specs.Frame.{Framed}
use Rattle.check_layout.specs.Fits.{nodes_fit}
use Rattle.file_records.specs.Code.{code_at}
use Rattle.check_leaves.specs.Leaves.{node_passes}
use Rattle.check_layout.proofs.Frame.{step-place}
use Rattle.file_records.proofs.CodeLaws.{node-code}

-- ---- over plain lists

placed-length : (xs : List Node) (ss : List Step) → length (with_steps xs ss) ≡ length xs
unfolding with_steps
placed-length [] ss = refl
placed-length (x ∷ xs) ss = ap suc (placed-length xs (drop (steps_owned x) ss))

-- what the code answers for a node of a kind, where b is its answer for a leaf
unfoldable pub answer_of : NodeKind → Bool → Bool
answer_of aLeaf b = b
answer_of aTrivial b = true
answer_of an_unsatisfiable b = true
answer_of (aPair w j) b = true
answer_of no_node b = true

-- ---- rule 4: a node's count is what it owns, at most 64, and a leaf's is not 0

pub record Counts (x : Node) : Type 0 where
  pub own : steps_owned x ≡ x.count
  pub few : x.count ≤ 64
  pub leaf : 1 ≤ x.count → aLeaf ≡ node_kind x.kind
  pub other : x.count ≡ 0 → node_kind x.kind ≡ aLeaf → ⊥

owns_none : (x : Node) (k : NodeKind) → node_kind x.kind ≡ k → answer_of k false ≡ true → (a b c : Bool) → steps_owned x ≡ 0 → T (a && eqb x.count 0 && b && c) → Counts x
unfolding answer_of
owns_none x k u v a b c e h =
    let z : x.count ≡ 0 =
    eqb→eq x.count 0 (and_right a (eqb x.count 0) (and_left (a && eqb x.count 0) b (and_left (a && eqb x.count 0 && b) c h))) in
    record { own = e ∙ sym z; few = omega arith; leaf = λ l. absurd (omega arith); other = λ l w. true-not-false v (ap (λ (j : NodeKind). answer_of j false) (sym u ∙ w)) }

kind-counts : (x : Node) (k : NodeKind) → node_kind x.kind ≡ k → T (node_fits k x) → Counts x
unfolding steps_owned node_fits answer_of
kind-counts x aLeaf e h = record { own = leaf-owned x e; few = (leaf-fits x h).1; leaf = λ l. sym e; other = λ l w. let g = (leaf-fits x h).0 in omega arith }
kind-counts x aTrivial e h = owns_none x aTrivial e refl (eqb x.left 0 && eqb x.right 0) (eqb x.start 0) (eqb x.set 0) (rw (e, steps_owned)) h
kind-counts x an_unsatisfiable e h = owns_none x an_unsatisfiable e refl (eqb x.left 0 && eqb x.right 0) (eqb x.start 0) (eqb x.set 0) (rw (e, steps_owned)) h
kind-counts x (aPair w j) e h = owns_none x (aPair w j) e refl true (eqb x.start 0) (eqb x.set 0) (rw (e, steps_owned)) h
kind-counts x no_node e h = absurd h

-- ---- over a file

abbrev node_no : Bytes → ℕ → Node
node_no file i = node_at file (node_place i)

node_counts : (file : Bytes) → nodes_fit file ≡ true → (i : ℕ) → i < node_count file → Counts (node_no file i)
unfolding nodes_fit
node_counts file fits i h =
    subst (λ (x : Node). Counts x) (node_of file i h)
    (kind-counts (get_or (nodes file) i no_n) (node_kind (get_or (nodes file) i no_n).kind) refl
    (every-at (λ x. node_fits (node_kind x.kind) x) (nodes file) no_n (of-yes _ fits) i (omega (arith, nodes-length file))))

pub places-length : (file : Bytes) → length (nodes_with_steps file) ≡ node_count file
unfolding nodes_with_steps
places-length file = placed-length (nodes file) (map step_of (step_records file)) ∙ nodes-length file

-- `count` as the code reads it of node i, whose record begins at `place`
pub record Counted (file : Bytes) (i count : ℕ) : Type 0 where
  pub few : count ≤ 64
  pub leaf : 1 ≤ count → aLeaf ≡ node_kind (node_no file i).kind
  pub other : count ≡ 0 → node_kind (node_no file i).kind ≡ aLeaf → ⊥
  pub own : count ≡ steps_owned (node_no file i)
  pub next : first_step file (i + 1) ≡ first_step file i + count

pub counted : {file : Bytes} {n m : ℕ} → Framed file n m → nodes_fit file ≡ true → (i place count : ℕ) → i < n → place ≡ node_place i
    → count ≡ (node_at file place).count → Counted file i count
counted {file} f fits i place count h p k =
    let l : i < node_count file = omega arith in
    let x : Counts (node_no file i) = node_counts file fits i l in
    let e : count ≡ (node_no file i).count = k ∙ ap (λ (q : ℕ). (node_at file q).count) p in
    let o : count ≡ steps_owned (node_no file i) = e ∙ sym x.own in
    record { few = omega arith; leaf = λ l. x.leaf (omega arith); other = λ l. x.other (sym e ∙ l); own = o; next = first_next file i l ∙ ap (λ (c : ℕ). first_step file i + c) (sym o) }

-- ---- a test of one node, by its kind

pub passes-by : (g : ActionSet → List Step → Bool) (x : Node) (code : List Step) (k : NodeKind) → k ≡ node_kind x.kind
    → answer_of k (g x.set code) ≡ node_passes g x code
unfolding answer_of node_passes
passes-by g x code k e = ap (λ (q : NodeKind). answer_of q (g x.set code)) e ∙ go (node_kind x.kind) refl
  where
    go : (q : NodeKind) → node_kind x.kind ≡ q → answer_of (node_kind x.kind) (g x.set code) ≡ node_passes g x code
    go aLeaf u = rw (u, node_passes)
    go aTrivial u = rw (u, node_passes)
    go an_unsatisfiable u = rw (u, node_passes)
    go (aPair w j) u = rw (u, node_passes)
    go no_node u = rw (u, node_passes)

-- ---- a test of every leaf, from node i on

unfoldable pub leaves_from : (ActionSet → List Step → Bool) → Bytes → ℕ → Bool
leaves_from g file i = every_leaf g (drop i (nodes_with_steps file))

head-leaf : (g : ActionSet → List Step → Bool) (p : NodeSteps) (ps : List NodeSteps) → every_leaf g (p ∷ ps) ≡ (node_passes g p.node p.steps && every_leaf g ps)
unfolding every_leaf node_passes
head-leaf g p ps = go (node_kind p.node.kind) refl
  where
    go : (k : NodeKind) → node_kind p.node.kind ≡ k → every_leaf g (p ∷ ps) ≡ (node_passes g p.node p.steps && every_leaf g ps)
    go aLeaf e = rw (e, every_leaf, node_passes)
    go aTrivial e = rw (e, every_leaf, node_passes)
    go an_unsatisfiable e = rw (e, every_leaf, node_passes)
    go no_node e = rw (e, every_leaf, node_passes)
    go (aPair w j) e = rw (e, every_leaf, node_passes)

pub leaves-whole : (g : ActionSet → List Step → Bool) (file : Bytes) → every_leaf g (nodes_with_steps file) ≡ leaves_from g file 0
unfolding leaves_from
leaves-whole g file = refl

pub leaves-over : (g : ActionSet → List Step → Bool) (file : Bytes) (i : ℕ) → node_count file ≤ i → leaves_from g file i ≡ true
unfolding leaves_from every_leaf
leaves-over g file i h = ap (λ (ps : List NodeSteps). every_leaf g ps) (drop_of_length-le (nodes_with_steps file) {i = i} (omega (arith, places-length file)))

module _ {file : Bytes} {n m : ℕ} (f : Framed file n m) (fits : nodes_fit file ≡ true) (all : summed (map steps_owned (nodes file)) ≡ m) where
  -- the steps of node i
  abbrev steps_of : ℕ → List Step
  steps_of i = code_at file (6 + 16 * n + 12 * first_step file i) (node_no file i).count

  own-steps : (i : ℕ) → i < n → (node_steps_in (nodes_with_steps file) i).steps ≡ steps_of i
  own-steps i h =
      node-code file (all ∙ f.steps) i (omega arith)
      ∙ λ j. code_at file (step-place f (first_step file i) j) ((node_counts file fits i (omega arith)).own j)

  leaves-rest : (g : ActionSet → List Step → Bool) (i : ℕ) → i < n → leaves_from g file i ≡ (node_passes g (node_no file i) (steps_of i) && leaves_from g file (i + 1))
  unfolding leaves_from
  leaves-rest g i h =
      let z : suc i ≡ i + 1 = omega arith in
      ap (λ (ps : List NodeSteps). every_leaf g ps) (drop-cons (nodes_with_steps file) i no_node_steps (omega (arith, places-length file)))
      ∙ head-leaf g (node_steps_in (nodes_with_steps file) i) (drop (suc i) (nodes_with_steps file))
      ∙ λ j. node_passes g (node-in file i (omega arith) j) (own-steps i h j) && every_leaf g (drop (z j) (nodes_with_steps file))

  -- no node's steps go past the last
  pub steps-in : (i : ℕ) → i < n → first_step file (i + 1) ≤ m
  steps-in i h = omega (arith, first-in file i (omega arith), first_next file i (omega arith))

  -- the same in the code's terms: node i's record begins at `place`, its steps at `at`, and `count` is its count
  module _ (i place at count : ℕ) (h : i < n) (p : place ≡ node_place i) (a : at ≡ 6 + 16 * n + 12 * first_step file i) (k : count ≡ (node_at file place).count) where
    code_here : code_at file at count ≡ steps_of i
    code_here = λ j. code_at file (a j) ((k ∙ ap (λ (q : ℕ). (node_at file q).count) p) j)

    -- these are the steps of its place
    pub code_is : code_at file at count ≡ (node_steps_in (nodes_with_steps file) i).steps
    code_is = code_here ∙ sym (own-steps i h)

    pub rest-here : (g : ActionSet → List Step → Bool) → leaves_from g file i ≡ (node_passes g (node_at file place) (code_at file at count) && leaves_from g file (i + 1))
    rest-here g = leaves-rest g i h ∙ λ j. node_passes g (node_at file (sym p j)) (sym code_here j) && leaves_from g file (i + 1)

    pub inside-here : at + 12 * count ≤ length file
    inside-here = omega (arith, steps-in i h, (counted f fits i place count h p k).next)

-- ---- rule 6

module _ {file : Bytes} {n m : ℕ} (f : Framed file n m) where
  abbrev sum : ℕ
  sum = summed (map steps_owned (nodes file))

  pub six-sum : (b : Bool) → b ≡ eqb sum m → b ≡ false → broken6 file ≡ true
  six-sum b e h =
      broken6-is file
      ∙ ap (λ (x : Bool). not x || not (every_leaf targets_fit (nodes_with_steps file))) (ap (eqb sum) (sym f.steps) ∙ sym e ∙ h)

  -- the leaves own all steps
  pub six-leaves : sum ≡ m → broken6 file ≡ not (every_leaf targets_fit (nodes_with_steps file))
  six-leaves e = broken6-is file ∙ ap (λ (x : Bool). not x || not (every_leaf targets_fit (nodes_with_steps file))) (eq-eqb sum (step_count file) (e ∙ f.steps))
