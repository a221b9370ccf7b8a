-- Rule 4 of the nodes, and of the step records, by the first of them that is found to break it.
use Prim.Native.Nat.{ℕ, ◌+◌, ◌*◌}
use mathlib.Core.Path.{◌≡◌, refl, sym, ap, ◌∙◌}
use mathlib.Core.Bool.{Bool, true, false, not}
use mathlib.Core.List.{List}
use borrow.Author.Tests.{not-true, not-false}
use Rattle.actions.proofs.Tests.{true-not-false}
use Rattle.spec_policy.specs.Bytes.{Bytes}
use Rattle.spec_policy.specs.Lists.{listed, every}
use Rattle.spec_policy.specs.Records.{step_record_at, node_place, step_place, step_records}
use Rattle.spec_policy.specs.Spots.{Spot, nowhere, on_record, somewhere, or_else, first_off}
use Rattle.spec_policy.specs.Tree.{node_kind}
use Rattle.spec_policy.proofs.SpotLaws.{off-or-every, every-unnumbered}
use Rattle.spec_check.specs.Layout.{node_fits, step_fits, wrong4}
use Rattle.check_layout.specs.Frame.{Framed}
use Rattle.check_layout.specs.Fits.{nodes_fit, unfit_node, unfit_step}

module _ {A : Type 0} (g : A → Bool) (i : ℕ) (xs : List A) where
  found : somewhere (first_off (λ i x. g x) i xs) ≡ not (every g xs)
  found = off-or-every (λ i x. g x) i xs ∙ ap not (every-unnumbered g i xs)

  all_fit : nowhere ≡ first_off (λ i x. g x) i xs → true ≡ every g xs
  unfolding somewhere
  all_fit e = sym (not-false (every g xs) (sym found ∙ ap somewhere (sym e)))

  not-all : {p : ℕ} → on_record p ≡ first_off (λ i x. g x) i xs → false ≡ every g xs
  unfolding somewhere
  not-all e = sym (not-true (every g xs) (sym found ∙ ap somewhere (sym e)))

module _ (file : Bytes) where
  pub nodes-all : nowhere ≡ unfit_node file → true ≡ nodes_fit file
  unfolding nodes_fit unfit_node
  nodes-all = all_fit (λ x. node_fits (node_kind x.kind) x) 0 _

  pub nodes-not : {p : ℕ} → on_record p ≡ unfit_node file → false ≡ nodes_fit file
  unfolding nodes_fit unfit_node
  nodes-not = not-all (λ x. node_fits (node_kind x.kind) x) 0 _

  -- a node comes before every step
  pub node-first : {p : ℕ} → on_record p ≡ unfit_node file → on_record p ≡ wrong4 file
  unfolding wrong4 unfit_node unfit_step or_else
  node-first e = ap (λ (q : Spot). or_else q (unfit_step file)) e

  pub steps_next : nodes_fit file ≡ true → unfit_step file ≡ wrong4 file
  unfolding wrong4 unfit_node unfit_step or_else
  steps_next fits = go (unfit_node file) refl
    where
      go : (q : Spot) → q ≡ unfit_node file → unfit_step file ≡ or_else (unfit_node file) (unfit_step file)
      go nowhere e = ap (λ (r : Spot). or_else r (unfit_step file)) e
      go (on_record p) e = true-not-false fits (sym (nodes-not e))

  pub steps_all : nowhere ≡ unfit_step file → true ≡ every step_fits (step_records file)
  unfolding unfit_step
  steps_all = all_fit step_fits _ (step_records file)

  pub steps-not : {p : ℕ} → on_record p ≡ unfit_step file → false ≡ every step_fits (step_records file)
  unfolding unfit_step
  steps-not = not-all step_fits _ (step_records file)

  -- the step records are those that a loop from the end of the nodes on runs over
  pub step-list : {n m : ℕ} → Framed file n m → (at : ℕ) → at ≡ node_place n → first_off (λ i r. step_fits r) n (listed (λ i. step_record_at file (at + 12 * i)) 0 m) ≡ unfit_step file
  unfolding unfit_step step_records step_place node_place
  step-list f at p =
      let e = f.nodes in let g = f.steps in let q = p ∙ ap node_place e in
      λ j. first_off (λ i r. step_fits r) (e j) (listed (λ i. step_record_at file (q j + 12 * i)) 0 (g j))
