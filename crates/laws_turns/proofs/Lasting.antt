-- What an answered call leaves behind: a state that fits the policy again and reads back as it was saved; after closing, a decided root.
-- So the guard never refuses its own state.
use Prim.Native.Nat.{ℕ, ◌+◌, ◌^◌, ◌≤◌, ◌<◌}
use native.Mathlib.Omega.{arith}
use mathlib.Core.Path.{◌≡◌, refl, sym, ◌∙◌, ap, subst}
use mathlib.Core.Bool.{Bool, true, false, not}
use mathlib.Core.List.{List}
use lib.Dec.{T, ltb, ltb→lt, nltb→le}
use lib.ListN.{length, get_or, get_or-eq_default}
use Rattle.actions.specs.Sets.{ActionSet}
use Rattle.spec_policy.specs.Bytes.{Bytes, Small}
use Rattle.spec_policy.specs.Records.{most_nodes, node_count, node_place, node_at, nodes, step_place, Node}
use Rattle.spec_policy.specs.Steps.{Step, halt, is_next}
use Rattle.spec_policy.specs.Tree.{nodes_with_steps, no_node_steps, tree, Tree, leaf, trivial, unsatisfiable, node}
use Rattle.spec_policy.proofs.NodeLaws.{no_n, nodes-length, node_of}
use Rattle.spec_policy.proofs.ByteLaws.{number-less}
use Rattle.spec_check.proofs.Under.{EachLeaf, under-leaves}
use Rattle.spec_check.specs.Numbers.{node_steps_in}
use Rattle.spec_check.proofs.Numbers.{same-node}
use Rattle.spec_check.specs.Passed.{Passed}
use Rattle.spec_check.proofs.Rows.{counts-fit, leaf-steps}
use Rattle.laws_check.proofs.LawfulTree.{lawful, numbers-below-nodes}
use Rattle.spec_turns.specs.Status.{Status, dropped, is_decided}
use Rattle.spec_turns.specs.State.{State, status}
use Rattle.spec_turns.specs.Process.{outcome}
use Rattle.spec_turns.specs.Turn.{Request, opening, offer, close, call}
use Rattle.spec_turns.specs.Saved.{state_size, cells, load, running_leaves, saved, count_at, fits}
use Rattle.spec_turns.specs.Entries.{Reply, answers, refuses, carried_out, Result, entry}
use Rattle.spec_turns.proofs.Rest.{Over}
use Rattle.spec_turns.specs.Rest.{AtRest}
use Rattle.laws_turns.proofs.Cells.{below_more, lawful-apart}
use Rattle.laws_turns.specs.Cells.{Below, Sized}
use Rattle.laws_turns.proofs.Fits.{saved-length, saved-count, load-saved, fits-load, fits-saved}
use Rattle.spec_turns.proofs.States.{rest-decided}
use Rattle.spec_turns.proofs.Walk.{call-fine, close-over, opening-fine}
use Rattle.laws_turns.proofs.Answered.{Answered, answered, Reads, state-fits, file-passed}
use Rattle.laws_turns.proofs.Steps.{waits_in}
use Rattle.laws_turns.specs.Calls.{Leaves}

-- ---- sizes

-- what a leaf's cell can hold
abbrev LeafSized : ℕ → ActionSet → ℕ → List Step → Type 0
LeafSized i s c code = ((o : ℕ) → T (is_next (get_or code o halt)) → o < 256) × (c < 256 ^ 4)

sized-leaves : (t : Tree) → EachLeaf LeafSized t → Sized t
unfolding EachLeaf Sized
sized-leaves (leaf i s c code) h = h
sized-leaves (trivial i) h = tt
sized-leaves (unsatisfiable i) h = tt
sized-leaves (node w j i l r) h = (sized-leaves l h.0, sized-leaves r h.1)

-- every node of a passed file has a cell
pub in_cells : (file : Bytes) → Passed file → Below most_nodes (tree file)
in_cells file ok = below_more (node_count file) (counts-fit file ok.kept3).few-nodes (tree file) (numbers-below-nodes file ok)

module _ (file : Bytes) (small : Small file) (ok : Passed file) where
  start-less : (i : ℕ) (b : Bool) → ltb i (node_count file) ≡ b → (get_or (nodes file) i no_n).start < 256 ^ 4
  unfolding node_at node_place step_place
  start-less i true e =
      let h : i < node_count file = ltb→lt i (node_count file) (subst T (sym e) tt) in
      subst (λ (x : Node). x.start < 256 ^ 4) (sym (node_of file i h))
      (number-less file (node_place i + 4) 4 small (omega (arith, (counts-fit file ok.kept3).long)))
  start-less i false e =
      let h : node_count file ≤ i = nltb→le i (node_count file) (subst (λ (b : Bool). T (not b)) (sym e) tt) in
      subst (λ (x : Node). x.start < 256 ^ 4) (sym (get_or-eq_default (nodes file) no_n (omega (arith, nodes-length file)))) (unfold no_node_steps in omega arith)

  pub sized : Sized (tree file)
  unfolding tree
  sized = sized-leaves (tree file) (under-leaves (nodes_with_steps file) LeafSized (λ i e. (
    (λ o h. let l = (leaf-steps file ok.kept4 ok.kept6 i e).few in let k = waits_in (node_steps_in (nodes_with_steps file) i).steps o h in omega arith),
    subst (λ (x : Node). x.start < 256 ^ 4) (sym (same-node file i)) (start-less i (ltb i (node_count file)) refl),
  )) (node_count file) 0)

  -- a state at rest is saved so that it fits, and reads back
  pub saved-fits : (s : State) → AtRest (tree file) s → T (fits file (saved (tree file) s))
  saved-fits s h =
      fits-saved file (counts-fit file ok.kept3).few-nodes (numbers-below-nodes file ok) (lawful-apart (tree file) (lawful file ok)) sized s h

  pub reads-back : (s : State) → AtRest (tree file) s → load (tree file) (cells (saved (tree file) s)) ≡ s
  reads-back s h = load-saved (tree file) (lawful-apart (tree file) (lawful file ok)) (in_cells file ok) sized s h

  pub saved-size : (s : State) → length (saved (tree file) s) ≡ state_size
  saved-size s = saved-length (tree file) (in_cells file ok) s

-- ---- the calls

module _ (policy : Bytes) (state room : Bytes) where
  -- the state that a call ends in
  ends : Request → State
  ends q = (outcome (call (tree policy) q (load (tree policy) (cells state)))).state

  rests : (q : Request) → Answered policy q state room → AtRest (tree policy) (ends q)
  unfolding ends Reads
  rests opening h = (opening-fine (tree policy) (lawful policy (file-passed policy opening state room h)) (load (tree policy) (cells state))).outs
  rests (offer a) h =
      (call-fine (tree policy) (lawful policy (file-passed policy (offer a) state room h)) (offer a) (load (tree policy) (cells state))
      (fits-load policy state (state-fits policy (offer a) state room tt h))).outs
  rests close h =
      (call-fine (tree policy) (lawful policy (file-passed policy close state room h)) close (load (tree policy) (cells state))
      (fits-load policy state (state-fits policy close state room tt h))).outs

  carried-state : (q : Request) → Answered policy q state room → (entry policy q state room).state ≡ saved (tree policy) (ends q)
  unfolding ends carried_out
  carried-state q h = ap (λ (x : Result). x.state) h.given

  pub answered-leaves : Small policy → (q : Request) (n : ℕ) (s : Status) → (entry policy q state room).reply ≡ answers n s → Leaves policy state room q
  unfolding ends
  answered-leaves small q n s e =
      let h : Answered policy q state room = answered policy q state room n s e in
      let ok : Passed policy = file-passed policy q state room h in
      let z : saved (tree policy) (ends q) ≡ (entry policy q state room).state = sym (carried-state q h) in
      record {
        size = subst (λ (x : Bytes). length x ≡ state_size) z (saved-size policy small ok (ends q));
        fits-again = subst (λ (x : Bytes). T (fits policy x)) z (saved-fits policy small ok (ends q) (rests q h));
        counted = subst (λ (x : Bytes). count_at x ≡ running_leaves (tree policy) (ends q)) z (saved-count (tree policy) (ends q));
        read_back = subst (λ (x : Bytes). load (tree policy) (cells x) ≡ ends q) z (reads-back policy small ok (ends q) (rests q h));
      }

  -- Closing leaves the root decided.
  pub closing-decides : (n : ℕ) (s : Status) → (entry policy close state room).reply ≡ answers n s → T (is_decided s)
  unfolding carried_out Reads ends
  closing-decides n s e =
      let h : Answered policy close state room = answered policy close state room n s e in
      let o : Over (tree policy) (ends close) = close-over (tree policy) (lawful policy (file-passed policy close state room h)) (load (tree policy) (cells state))
      (fits-load policy state (state-fits policy close state room tt h)) in
      subst (λ (x : Status). T (is_decided x)) (root-of _ n (status (ends close)) s (sym (ap (λ (x : Result). x.reply) h.given) ∙ e)) (rest-decided o.rest o.decided)
    where
      root_status : Reply → Status
      root_status (answers n s) = s
      root_status (refuses n) = dropped

      root-of : (m n : ℕ) (a b : Status) → answers m a ≡ answers n b → a ≡ b
      root-of m n a b e = ap root_status e
