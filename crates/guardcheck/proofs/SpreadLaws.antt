-- What a file that passes gives to those who ask for its spread.
use Prim.Native.Nat.{ℕ, ◌≤◌}
use native.Mathlib.Omega.{arith}
use mathlib.Core.Path.{◌≡◌, sym, ap, ◌∙◌, subst₂}
use mathlib.Core.Bool.{true, false, not}
use mathlib.Core.List.{List, map}
use lib.Dec.{eqb}
use lib.ListN.{length}
use borrow.Author.Tests.{le-leb}
use Rattle.std.specs.Prelude.{Result, Ok}
use Rattle.faults.specs.declared.Refusal.{Refusal}
use Rattle.actions.proofs.Tests.{yes_of, not-not, or-false-left, or-false-right}
use Rattle.spec_policy.specs.Bytes.{Bytes}
use Rattle.spec_policy.specs.Lists.{summed, every}
use Rattle.spec_policy.specs.Records.{node_count, step_count, nodes, step_records}
use Rattle.spec_policy.specs.Tree.{node_kind, steps_owned, nodes_with_steps, tree, tree_at}
use Rattle.spec_check.specs.Layout.{node_fits, step_fits}
use Rattle.spec_check.specs.Leaves.{every_leaf}
use Rattle.spec_check.specs.Targets.{targets_fit}
use Rattle.spec_check.specs.Spread.{spread}
use Rattle.spec_check.specs.Passed.{Passed}
use Rattle.spec_check.proofs.Kept.{broken4-is, broken6-is}
use Rattle.spec_check.proofs.Rows.{all-owned}
use Rattle.spec_check.proofs.Numbers.{tree-top}
use Rattle.laws_check.proofs.LawfulTree.{spread-255}
use Rattle.check_layout.specs.Frame.{Framed}
use Rattle.check_layout.specs.Fits.{nodes_fit}
use Rattle.check_layout.proofs.Frame.{framed}
use Rattle.check_leaves.specs.Leaves.{lowest, LeavesFound, LeafValues, inserts_in}
use Rattle.check_spread.specs.Spreads.{cap, capped}

module _ (file : Bytes) (ok : Passed file) where
  pub has-front : 6 ≤ length file
  has-front = omega (arith, (framed file ok.kept3).long)

  pub nodes-fit : nodes_fit file ≡ true
  unfolding nodes_fit
  nodes-fit = yes_of (nodes_fit file) (not-not (nodes_fit file) (or-false-left (not (nodes_fit file)) (not (every step_fits (step_records file))) (sym (broken4-is file) ∙ ok.kept4)))

  -- no leaf breaks a rule, so the walk tells none, and holds each leaf's inserts
  pub walked-well : {n : ℕ} {walked : Result (Unit {0}) Refusal} {effs ins : List ℕ} → LeavesFound file n walked effs ins → walked ≡ Ok tt
  unfolding lowest
  walked-well f = f.is ∙ λ i. lowest (four i) (six i) (ok.kept7 i) (ok.kept8 i)
    where
      four : not (every step_fits (step_records file)) ≡ false
      four = or-false-right (not (every (λ x. node_fits (node_kind x.kind) x) (nodes file))) (not (every step_fits (step_records file))) (sym (broken4-is file) ∙ ok.kept4)

      six : not (every_leaf targets_fit (nodes_with_steps file)) ≡ false
      six =
          or-false-right (not (eqb (summed (map steps_owned (nodes file))) (step_count file))) (not (every_leaf targets_fit (nodes_with_steps file)))
          (sym (broken6-is file) ∙ ok.kept6)

  pub inserts-held : {n : ℕ} {walked : Result (Unit {0}) Refusal} {effs ins : List ℕ} → LeavesFound file n walked effs ins → LeafValues inserts_in file n ins
  inserts-held f = f.inserts (walked-well f)

  module _ (n m : ℕ) (p : n ≡ node_count file) (q : m ≡ step_count file) where
    pub frame : Framed file n m
    frame = subst₂ (λ (k l : ℕ). Framed file k l) (sym p) (sym q) (framed file ok.kept3)

    pub owned : summed (map steps_owned (nodes file)) ≡ m
    owned = all-owned file ok.kept6 ∙ sym q

  pub spread-is : {s : ℕ} → s ≡ capped (tree_at file 0) → s ≡ spread (tree file)
  unfolding capped cap
  spread-is e = e ∙ ap capped (sym (tree-top file)) ∙ rw (cap, le-leb (spread (tree file)) 255 (spread-255 file ok))
