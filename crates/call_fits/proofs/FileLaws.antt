-- The nodes of a passed policy, from what the code reads of their records.
use Prim.Native.Nat.{ℕ, ◌+◌, ◌-◌, ◌*◌, ◌≤◌, ◌<◌}
use native.Mathlib.Omega.{arith}
use mathlib.Core.Path.{◌≡◌, sym, ap, ◌∙◌}
use mathlib.Core.Bool.{true, false, ◌&&◌}
use mathlib.Core.List.{List}
use lib.Dec.{eqb, leb}
use lib.ListN.{length, get_or, get_or-eq_default}
use Rattle.actions.proofs.Tests.{yes_of}
use Rattle.spec_policy.specs.Bytes.{Bytes}
use Rattle.spec_policy.specs.Records.{node_size, step_size, Node, node_count, step_count, node_at, step_record_at, node_place, step_place}
use Rattle.spec_policy.specs.Steps.{Step, halt, is_next}
use Rattle.spec_policy.specs.Tree.{Way, Join, NodeKind, aLeaf, aTrivial, an_unsatisfiable, aPair, no_node, node_kind, first_step, nodes_with_steps, leaf, trivial, unsatisfiable, node}
use Rattle.spec_check.specs.Passed.{Passed}
use Rattle.spec_check.specs.Numbers.{node_steps_in, shaped}
use Rattle.spec_check.proofs.Numbers.{ChildrenLater, node-read, tree-read, children-read}
use Rattle.spec_check.proofs.Rows.{nodes-fit, all-owned}
use Rattle.spec_policy.specs.Tree.{tree_at}
use Rattle.check_layout.specs.Frame.{Framed}
use Rattle.check_layout.specs.Fits.{nodes_fit}
use Rattle.check_layout.proofs.Frame.{framed, node-inside}
use Rattle.file_records.specs.Code.{code_from, StepsIn}
use Rattle.file_records.proofs.CodeLaws.{code-length, code-number, next-kind}
use Rattle.check_leaves.proofs.LeafLaws.{code_is, inside-here, Counted, counted}
use Rattle.spec_turns.specs.Saved.{offset_at, counter_at, waits_at}

-- ---- a leaf that waits

module _ (file : Bytes) (first count start : ℕ) (bs : Bytes) (i o : ℕ) (e : o ≡ offset_at bs i) where
  abbrev code : List Step
  code = code_from file first count

  pub waits-past : count ≤ o → false ≡ waits_at code start bs i
  unfolding waits_at is_next
  waits-past h =
      ap (λ (k : Step). is_next k && leb (counter_at bs i) start)
      (sym (ap (λ (n : ℕ). get_or code n halt) (sym e) ∙ get_or-eq_default code halt (omega (arith, code-length file (step_place file first) count))))

  pub waits-here : (k c : ℕ) → o < count → k ≡ (step_record_at file (node_place (node_count file) + step_size * (first + o))).kind → c ≡ counter_at bs i → (eqb k 1 && leb c start) ≡ waits_at code start bs i
  unfolding waits_at step_record_at
  waits-here k c h f g =
      let n : eqb k 1 ≡ is_next (get_or code (offset_at bs i) halt) =
      ap (λ (x : ℕ). eqb x 1) f ∙ sym (next-kind file (node_place (node_count file) + step_size * (first + o))) ∙ ap is_next (sym (code-number file first count o h) ∙ ap (λ (x : ℕ). get_or code x halt) e) in
      λ j. n j && leb (g j) start

-- ---- the tree

module _ {file : Bytes} (ok : Passed file) where
  pub frame : Framed file (node_count file) (step_count file)
  frame = framed file ok.kept3

  fits : nodes_fit file ≡ true
  unfolding nodes_fit
  fits = yes_of _ (nodes-fit file ok.kept4)

  -- node i, whose record begins at `place`
  module _ (i place : ℕ) (h : i < node_count file) (p : place ≡ node_place i) where
    abbrev x : Node
    x = node_at file place

    pub inside : place + node_size ≤ length file
    inside = omega (arith, node-inside frame i h)

    -- what the view asks of the node
    pub in-view : (i ≤ 255) × (node_place i + node_size ≤ length file)
    in-view = (omega (arith, frame.few-nodes), omega (arith, node-inside frame i h))

    shape : {k : NodeKind} → k ≡ node_kind x.kind → tree_at file i ≡ shaped k i (node_steps_in (nodes_with_steps file) i) (tree_at file x.left) (tree_at file x.right)
    shape e = tree-read file h p ok.kept5 (sym e)

    pub is-trivial : aTrivial ≡ node_kind x.kind → tree_at file i ≡ trivial i
    unfolding shaped
    is-trivial e = shape e

    -- rule 4 knows no such node
    pub is_none : no_node ≡ node_kind x.kind → tree_at file i ≡ trivial i
    unfolding shaped
    is_none e = shape e

    pub is-unsatisfiable : an_unsatisfiable ≡ node_kind x.kind → tree_at file i ≡ unsatisfiable i
    unfolding shaped
    is-unsatisfiable e = shape e

    pub is-pair : (w : Way) (j : Join) (left right : ℕ) → aPair w j ≡ node_kind x.kind → left ≡ x.left → right ≡ x.right
        → tree_at file i ≡ node w j i (tree_at file left) (tree_at file right)
    unfolding shaped
    is-pair w j left right e l r = shape e ∙ λ k. node w j i (tree_at file (sym l k)) (tree_at file (sym r k))

    pub pair-later : (w : Way) (j : Join) → aPair w j ≡ node_kind x.kind → ChildrenLater (node_count file) i x
    pair-later w j e = children-read file h p ok.kept5 (sym e)

    module _ (count : ℕ) (c : count ≡ x.count) where
      pub counts : Counted file i count
      counts = counted frame fits i place count h p c

      -- with its steps from number `first` on
      module _ (first : ℕ) (f : first ≡ first_step file i) where
        at-first : step_place file first ≡ 6 + 16 * node_count file + 12 * first_step file i
        unfolding step_place node_place
        at-first = omega (arith, f)

        pub steps-inside : StepsIn file first count
        unfolding step_place
        steps-inside =
            (omega (arith, frame.few-nodes), omega (arith, inside-here frame fits (all-owned file ok.kept6) i place (step_place file first) count h p at-first c))

        pub is-leaf : (start : ℕ) → aLeaf ≡ node_kind x.kind → start ≡ x.start → tree_at file i ≡ leaf i x.set start (code_from file first count)
        unfolding shaped
        is-leaf start e s =
            let code : (node_steps_in (nodes_with_steps file) i).steps ≡ code_from file first count = sym (code_is frame fits (all-owned file ok.kept6) i place (step_place file first) count h p at-first c) in
            let same = node-read file h p in shape e ∙ λ j. leaf i (same j).set ((ap (λ (y : Node). y.start) same ∙ sym s) j) (code j)

  -- from where the steps of node i begin back to where those of the node before it do
  pub step_back : (i place count : ℕ) → 1 ≤ i → i ≤ node_count file → place ≡ node_place (i - 1) → count ≡ (node_at file place).count
      → first_step file i ≡ first_step file (i - 1) + count
  step_back i place count l h p c =
      let z : i ≡ i - 1 + 1 = omega arith in
      ap (first_step file) z ∙ (counts (i - 1) place (omega arith) p count c).next
