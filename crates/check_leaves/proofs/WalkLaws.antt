-- The walks through the leaves, node after node: what is found so far, and what is left.
use Prim.Native.Nat.{ℕ, ◌+◌, ◌*◌, ◌-◌, ◌≤◌, ◌<◌}
use native.Mathlib.Omega.{arith}
use mathlib.Core.Path.{◌≡◌, refl, sym, ap, ◌∙◌, subst}
use mathlib.Core.Bool.{Bool, true, false, ◌&&◌, not}
use mathlib.Core.List.{List, map}
use lib.Dec.{eqb}
use lib.ListN.{length, get_or, set, length-set}
use lib.Seq.{get_or-set_same, get_or-set_other}
use borrow.Author.Tests.{eqb-true, eqb-false}
use mathlib.Core.Logic.{⊎_elim}
use Rattle.actions.specs.Sets.{ActionSet}
use Rattle.actions.proofs.Tests.{and_assoc, and-true}
use Rattle.spec_policy.specs.Bytes.{Bytes}
use Rattle.spec_policy.specs.Lists.{summed, every}
use Rattle.spec_policy.specs.Records.{most_nodes, Node, node_at, node_place, node_count, nodes, step_records}
use Rattle.spec_policy.specs.Steps.{Step}
use Rattle.spec_policy.specs.Tree.{aLeaf, aTrivial, an_unsatisfiable, aPair, no_node, NodeKind, node_kind, steps_owned, first_step, no_node_steps, nodes_with_steps}
use Rattle.spec_policy.proofs.NodeLaws.{first-none, first-over}
use Rattle.file_records.specs.Code.{code_at}
use Rattle.check_layout.specs.Frame.{Framed}
use Rattle.check_layout.specs.Fits.{nodes_fit, steps_fit, kept_or4}
use Rattle.check_layout.proofs.Frame.{all-records}
use Rattle.check_layout.proofs.Rows.{records-none, records-split}
use Rattle.spec_check.specs.Layout.{step_fits}
use Rattle.spec_check.specs.Leaves.{every_leaf}
use Rattle.spec_check.specs.Targets.{targets_fit}
use Rattle.spec_check.specs.Modes.{broken7}
use Rattle.spec_check.specs.Possible.{all_taken, broken8}
use Rattle.spec_check.specs.Interference.{leaf_effects}
use Rattle.spec_check.proofs.Kept.{broken7-is, broken8-is}
use Rattle.spec_check.proofs.Ahead.{in-or-out}
use Rattle.spec_check.proofs.Numbers.{node-read}
use Rattle.check_leaf.specs.declared.Walked.{Walked}
use Rattle.check_leaf.specs.Leaf.{LeafKept, LeafFound}
use Rattle.faults.specs.declared.Refusal.{Refusal}
use Rattle.faults.specs.declared.Refusal.TheVariants as refusals
use Rattle.std.specs.Prelude.{Result, Ok, Err}
use Rattle.check_leaves.specs.Leaves.{node_passes, modes_of, inserts_in, NodeKept, LeafValues, lowest, LeavesFound}
use Rattle.check_leaves.proofs.LeafLaws.{counted, answer_of, passes-by, leaves_from, leaves-whole, leaves-over, steps-in, rest-here, code_is}

-- no refusal is a pass
err-not-ok : {e : Refusal} → let r : Result (Unit {0}) Refusal = Err e in r ≡ Ok tt → ⊥
err-not-ok p = cc

pub kept-passes : (b : Bool) → kept_or4 b ≡ Ok tt → b ≡ true
unfolding kept_or4
kept-passes true e = refl
kept-passes false e = absurd (err-not-ok e)

err-is : {a b : Refusal} → let r : Result (Unit {0}) Refusal = Err a in r ≡ Err b → a ≡ b
err-is p = cc

unkept : (b : Bool) (e : Refusal) → Err e ≡ kept_or4 b → (b ≡ false) × (e ≡ refusals.Fields)
unfolding kept_or4
unkept true e p = absurd (err-not-ok p)
unkept false e p = (refl, err-is p)

-- a walk that ends and does not tell rule 6 tells rule 4
pub stopped : (r : ActionSet) (steps-fit : Bool) (code : List Step) (e : Refusal) → (e ≡ refusals.Targets → ⊥) → LeafFound (Err e) r steps-fit code
    → (e ≡ refusals.Fields) × (steps-fit ≡ false)
stopped r f code refusals.Fields a h = (refl, h)
stopped r f code refusals.Targets a h = absurd (a refl)
stopped r f code _ a h = absurd h

-- ---- one node

module _ (file : Bytes) (at count : ℕ) (x : Node) (w : Walked) where
  abbrev code : List Step
  code = code_at file at count

  module _ (s : ActionSet) (k : aLeaf ≡ node_kind x.kind) (e : s ≡ x.set) where
    pub leaf-kept : LeafKept w s (steps_fit file at count) code → NodeKept w x (steps_fit file at count) code
    unfolding answer_of modes_of inserts_in
    leaf-kept found =
        let kept = subst (λ (r : ActionSet). LeafKept w r (steps_fit file at count) code) e found in
        record {
          step_records = kept.step_records;
          targets = sym (passes-by targets_fit x code aLeaf k) ∙ kept.targets;
          modes = kept.modes ∙ passes-by modes_of x code aLeaf k;
          taken = kept.taken ∙ passes-by all_taken x code aLeaf k;
          effects = λ l. kept.effects;
          inserts = λ l. kept.inserts;
        }

-- any other node passes
other-passes : (g : ActionSet → List Step → Bool) (x : Node) (ss : List Step) → (node_kind x.kind ≡ aLeaf → ⊥) → node_passes g x ss ≡ true
unfolding answer_of
other-passes g x ss apart = sym (passes-by g x ss (node_kind x.kind) refl) ∙ go (node_kind x.kind) apart
  where
    go : (k : NodeKind) → (k ≡ aLeaf → ⊥) → answer_of k (g x.set ss) ≡ true
    go aLeaf h = absurd (h refl)
    go aTrivial h = refl
    go an_unsatisfiable h = refl
    go (aPair w j) h = refl
    go no_node h = refl

-- ---- node after node

-- one leaf more
held_more : (f : ActionSet → List Step → ℕ) (file : Bytes) (i v : ℕ) (xs : List ℕ) → i < most_nodes → LeafValues f file i xs
    → (node_kind (get_or (nodes_with_steps file) i no_node_steps).node.kind ≡ aLeaf → v ≡ f (get_or (nodes_with_steps file) i no_node_steps).node.set (get_or (nodes_with_steps file) i no_node_steps).steps)
    → LeafValues f file (i + 1) (set xs i v)
held_more f file i v xs few old new = record { room = length-set xs i v ∙ old.room; at = λ k h l. go k h l (eqb k i) refl }
  where
    go : (k : ℕ) → k < i + 1 → node_kind (get_or (nodes_with_steps file) k no_node_steps).node.kind ≡ aLeaf → (b : Bool) → eqb k i ≡ b
        → get_or (set xs i v) k 0 ≡ f (get_or (nodes_with_steps file) k no_node_steps).node.set (get_or (nodes_with_steps file) k no_node_steps).steps
    go k h l true e =
        let z : k ≡ i = eqb-true k i e in
        ap (λ (j : ℕ). get_or (set xs i v) j 0) z ∙ get_or-set_same xs i v 0 (omega (arith, old.room))
        ∙ new (subst (λ (j : ℕ). node_kind (get_or (nodes_with_steps file) j no_node_steps).node.kind ≡ aLeaf) z l)
        ∙ ap (λ (j : ℕ). f (get_or (nodes_with_steps file) j no_node_steps).node.set (get_or (nodes_with_steps file) j no_node_steps).steps) (sym z)
    go k h l false e =
        let z : k ≡ i → ⊥ = eqb-false k i e in
        get_or-set_other xs i k v 0 z ∙ old.at k (omega (arith, z)) l

-- a node more that is no leaf
held-over : (f : ActionSet → List Step → ℕ) (file : Bytes) (i : ℕ) (xs : List ℕ) → LeafValues f file i xs
    → (node_kind (get_or (nodes_with_steps file) i no_node_steps).node.kind ≡ aLeaf → ⊥) → LeafValues f file (i + 1) xs
held-over f file i xs old apart = record { room = old.room; at = λ k h l. old.at k (below k h l) l }
  where
    below : (k : ℕ) → k < i + 1 → node_kind (get_or (nodes_with_steps file) k no_node_steps).node.kind ≡ aLeaf → k < i
    below k h l = ⊎_elim (λ b. b)
        (λ b. let z : k ≡ i = omega arith in absurd (apart (subst (λ (j : ℕ). node_kind (get_or (nodes_with_steps file) j no_node_steps).node.kind ≡ aLeaf) z l))) (in-or-out i k)

module _ {file : Bytes} {n m : ℕ} (f : Framed file n m) (fits : nodes_fit file ≡ true) (all : summed (map steps_owned (nodes file)) ≡ m) where
  -- what is found of the nodes before node i, whose steps begin at `at`
  pub record Walking (i at : ℕ) (effs ins : List ℕ) (modes taken : Bool) : Type 0 where
    pub below : i ≤ n
    pub begins : at ≡ 6 + 16 * n + 12 * first_step file i
    pub room : (length effs ≡ most_nodes) × (length ins ≡ most_nodes)
    pub fours : every step_fits (step_records file) ≡ steps_fit file at (m - first_step file i)
    pub sixes : every_leaf targets_fit (nodes_with_steps file) ≡ leaves_from targets_fit file i
    pub sevens : every_leaf modes_of (nodes_with_steps file) ≡ (modes && leaves_from modes_of file i)
    pub eights : every_leaf all_taken (nodes_with_steps file) ≡ (taken && leaves_from all_taken file i)
    pub effects : LeafValues leaf_effects file i effs
    pub inserts : LeafValues inserts_in file i ins

  none-held : (g : ActionSet → List Step → ℕ) (xs : List ℕ) → length xs ≡ most_nodes → LeafValues g file 0 xs
  none-held g xs l = record { room = l; at = λ k h. absurd (omega arith) }

  pub walk-starts : (at : ℕ) (effs ins : List ℕ) → at ≡ 6 + 16 * n → length effs ≡ most_nodes → length ins ≡ most_nodes
      → Walking 0 at effs ins true true
  walk-starts at effs ins e l k =
      let a : 6 + 16 * n ≡ at = sym e in
      let c : m ≡ m - first_step file 0 = omega (arith, first-none file) in
      record {
        below = omega arith;
        begins = omega (arith, first-none file);
        room = (l, k);
        fours = all-records f ∙ λ j. steps_fit file (a j) (c j);
        sixes = leaves-whole targets_fit file;
        sevens = leaves-whole modes_of file;
        eights = leaves-whole all_taken file;
        effects = none-held leaf_effects effs l;
        inserts = none-held inserts_in ins k;
      }

  -- node i, whose record begins at `place`
  module _ (i at : ℕ) (effs ins : List ℕ) (modes taken : Bool) (s : Walking i at effs ins modes taken) (place count : ℕ) (h : i < n)
      (p : place ≡ node_place i) (k : count ≡ (node_at file place).count) where
    node-is : (get_or (nodes_with_steps file) i no_node_steps).node ≡ node_at file place
    node-is = node-read file (omega (arith, f.nodes)) p

    leaf-here : node_kind (get_or (nodes_with_steps file) i no_node_steps).node.kind ≡ aLeaf → node_kind (node_at file place).kind ≡ aLeaf
    leaf-here l = ap (λ (x : Node). node_kind x.kind) (sym node-is) ∙ l

    next : first_step file (i + 1) ≡ first_step file i + count
    next = (counted f fits i place count h p k).next

    rest : (g : ActionSet → List Step → Bool)
        → leaves_from g file i ≡ (node_passes g (node_at file place) (code_at file at count) && leaves_from g file (i + 1))
    rest = rest-here f fits all i place at count h p s.begins k

    records-rest : every step_fits (step_records file) ≡ (steps_fit file at count && steps_fit file (at + 12 * count) (m - first_step file (i + 1)))
    records-rest =
        let z : m - first_step file i ≡ count + (m - first_step file (i + 1)) = omega (arith, next, steps-in f fits all i h) in
        s.fours ∙ ap (steps_fit file at) z ∙ records-split file at count (m - first_step file (i + 1))

    -- it is no leaf, and owns no step
    pub walk-passes : count ≡ 0 → Walking (i + 1) at effs ins modes taken
    walk-passes z =
        let apart : node_kind (node_at file place).kind ≡ aLeaf → ⊥ = λ l. (counted f fits i place count h p k).other z (subst (λ (q : ℕ). node_kind (node_at file q).kind ≡ aLeaf) p l) in
        let past : (g : ActionSet → List Step → Bool) → leaves_from g file i ≡ leaves_from g file (i + 1)
        = λ g. rest g ∙ ap (λ (b : Bool). b && leaves_from g file (i + 1)) (other-passes g (node_at file place) (code_at file at count) apart) in
        record {
          below = omega arith;
          begins = omega (arith, s.begins, next, z);
          room = s.room;
          fours = let e : first_step file i ≡ first_step file (i + 1) = omega (arith, next, z) in s.fours ∙ ap (λ (x : ℕ). steps_fit file at (m - x)) e;
          sixes = s.sixes ∙ past targets_fit;
          sevens = s.sevens ∙ ap (λ (b : Bool). modes && b) (past modes_of);
          eights = s.eights ∙ ap (λ (b : Bool). taken && b) (past all_taken);
          effects = held-over leaf_effects file i effs s.effects (λ l. apart (leaf-here l));
          inserts = held-over inserts_in file i ins s.inserts (λ l. apart (leaf-here l));
        }

    -- it is a leaf, and the walk through it ends at a step that breaks rule 4, or rule 6
    pub stops-at-4 : steps_fit file at count ≡ false → every step_fits (step_records file) ≡ false
    stops-at-4 bad = records-rest ∙ ap (λ (b : Bool). b && steps_fit file (at + 12 * count) (m - first_step file (i + 1))) bad

    pub stops-at-6 : (r : ActionSet) → r ≡ (node_at file place).set → aLeaf ≡ node_kind (node_at file place).kind → targets_fit r (code_at file at count) ≡ false
        → every_leaf targets_fit (nodes_with_steps file) ≡ false
    unfolding answer_of
    stops-at-6 r e l bad =
        let six : node_passes targets_fit (node_at file place) (code_at file at count) ≡ false =
        sym (passes-by targets_fit (node_at file place) (code_at file at count) aLeaf l) ∙ ap (λ (q : ActionSet). targets_fit q (code_at file at count)) (sym e) ∙ bad in
        s.sixes ∙ rest targets_fit ∙ ap (λ (b : Bool). b && leaves_from targets_fit file (i + 1)) six

    -- the walk through it has given w
    module _ (w : Walked) (kept : NodeKept w (node_at file place) (steps_fit file at count) (code_at file at count)) where
      of-place : (g : ActionSet → List Step → ℕ)
          → g (node_at file place).set (code_at file at count) ≡ g (get_or (nodes_with_steps file) i no_node_steps).node.set (get_or (nodes_with_steps file) i no_node_steps).steps
      of-place g = let e = sym node-is in let c = code_is f fits all i place at count h p s.begins k in λ j. g (e j).set (c j)

      pub walk-goes : Walking (i + 1) (at + 12 * count) (set effs i w.effects.bits) (set ins i w.inserts) (modes && w.modes) (taken && w.taken)
      walk-goes = record {
        below = omega arith;
        begins = omega (arith, s.begins, next);
        room = (length-set effs i w.effects.bits ∙ s.room.0, length-set ins i w.inserts ∙ s.room.1);
        fours = records-rest ∙ ap (λ (b : Bool). b && steps_fit file (at + 12 * count) (m - first_step file (i + 1))) kept.step_records;
        sixes = s.sixes ∙ rest targets_fit ∙ ap (λ (b : Bool). b && leaves_from targets_fit file (i + 1)) kept.targets;
        sevens = s.sevens ∙ ap (λ (b : Bool). modes && b) (rest modes_of ∙ ap (λ (b : Bool). b && leaves_from modes_of file (i + 1)) (sym kept.modes))
            ∙ and_assoc modes w.modes (leaves_from modes_of file (i + 1));
        eights = s.eights ∙ ap (λ (b : Bool). taken && b) (rest all_taken ∙ ap (λ (b : Bool). b && leaves_from all_taken file (i + 1)) (sym kept.taken))
            ∙ and_assoc taken w.taken (leaves_from all_taken file (i + 1));
        effects = held_more leaf_effects file i w.effects.bits effs (omega (arith, f.nodes)) s.effects (λ l. kept.effects (leaf-here l) ∙ of-place leaf_effects);
        inserts = held_more inserts_in file i w.inserts ins (omega (arith, f.nodes)) s.inserts (λ l. kept.inserts (leaf-here l) ∙ of-place inserts_in);
      }

  -- ---- the end

  module _ (effs ins : List ℕ) where
    pub found-four : every step_fits (step_records file) ≡ false → LeavesFound file n (Err refusals.Fields) effs ins
    unfolding lowest
    found-four bad = record {
      is = sym (ap (λ (b : Bool). lowest (not b) (not (every_leaf targets_fit (nodes_with_steps file))) (broken7 file) (broken8 file)) bad);
      effects = λ e. absurd (err-not-ok e);
      inserts = λ e. absurd (err-not-ok e);
    }

    pub found-unkept : (e : Refusal) → Err e ≡ kept_or4 (every step_fits (step_records file)) → LeavesFound file n (Err e) effs ins
    found-unkept e p =
        let u = unkept _ e p in
        subst (λ (r : Refusal). LeavesFound file n (Err r) effs ins) (sym u.1) (found-four u.0)

    -- a leaf breaks rule 6, and the step records are kept, those of the leaves after it too
    pub found-six : every step_fits (step_records file) ≡ true → every_leaf targets_fit (nodes_with_steps file) ≡ false → LeavesFound file n (Err refusals.Targets) effs ins
    unfolding lowest
    found-six good bad = record {
      is = let g = sym good in let b = sym bad in λ j. lowest (not (g j)) (not (b j)) (broken7 file) (broken8 file);
      effects = λ e. absurd (err-not-ok e);
      inserts = λ e. absurd (err-not-ok e);
    }

  module _ (i at : ℕ) (effs ins : List ℕ) (modes taken : Bool) (s : Walking i at effs ins modes taken) (h : n ≤ i) where
    over : node_count file ≤ i
    over = omega (arith, f.nodes)

    four_is : every step_fits (step_records file) ≡ true
    four_is = let z : m - first_step file i ≡ 0 = omega (arith, first-over file i over) in s.fours ∙ ap (steps_fit file at) z ∙ records-none file at

    six-is : every_leaf targets_fit (nodes_with_steps file) ≡ true
    six-is = s.sixes ∙ leaves-over targets_fit file i over

    seven_is : broken7 file ≡ not modes
    unfolding modes_of
    seven_is = broken7-is file ∙ ap not (s.sevens ∙ ap (λ (b : Bool). modes && b) (leaves-over modes_of file i over) ∙ and-true modes)

    eight_is : broken8 file ≡ not taken
    eight_is = broken8-is file ∙ ap not (s.eights ∙ ap (λ (b : Bool). taken && b) (leaves-over all_taken file i over) ∙ and-true taken)

    by : (modes' taken' : Bool) → modes ≡ modes' → taken ≡ taken'
        → lowest false false (not modes') (not taken') ≡ lowest (not (every step_fits (step_records file))) (not (every_leaf targets_fit (nodes_with_steps file))) (broken7 file) (broken8 file)
    by modes' taken' e g =
        let a = four_is in let b = six-is in let c = seven_is ∙ ap not e in let d = eight_is ∙ ap not g in
        sym (λ j. lowest (not (a j)) (not (b j)) (c j) (d j))

    pub found-seven : modes ≡ false → LeavesFound file n (Err refusals.Modes) effs ins
    unfolding lowest
    found-seven e = record { is = by false taken e refl; effects = λ z. absurd (err-not-ok z); inserts = λ z. absurd (err-not-ok z) }

    pub found-eight : modes ≡ true → taken ≡ false → LeavesFound file n (Err refusals.Branches) effs ins
    unfolding lowest
    found-eight e g = record { is = by true false e g; effects = λ z. absurd (err-not-ok z); inserts = λ z. absurd (err-not-ok z) }

    pub found_none : modes ≡ true → taken ≡ true → LeavesFound file n (Ok tt) effs ins
    unfolding lowest
    found_none e g =
        let z : i ≡ n = omega (arith, s.below) in
        record {
          is = by true true e g;
          effects = λ o. subst (λ (j : ℕ). LeafValues leaf_effects file j effs) z s.effects;
          inserts = λ o. subst (λ (j : ℕ). LeafValues inserts_in file j ins) z s.inserts;
        }
