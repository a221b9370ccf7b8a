-- Opening a policy that is one node and no leaf: that node is over, and nothing is run.
use Prim.Native.Nat.{ℕ}
use native.Mathlib.Omega.{arith}
use mathlib.Core.Path.{◌≡◌, refl, sym, ap, ◌∙◌, subst}
use mathlib.Core.Bool.{Bool}
use mathlib.Core.List.{List}
use Rattle.spec_policy.specs.Bytes.{Bytes}
use Rattle.spec_policy.specs.Records.{node_at, node_place}
use Rattle.spec_policy.specs.Tree.{node_kind, Tree, trivial, unsatisfiable, tree}
use Rattle.spec_policy.proofs.ByteLaws.{put-none}
use Rattle.spec_check.specs.Numbers.{shaped}
use Rattle.spec_check.specs.Passed.{Passed}
use Rattle.spec_check.proofs.Numbers.{tree-read, tree-top}
use Rattle.spec_turns.specs.Status.{ended, halted}
use Rattle.spec_turns.specs.State as states
use Rattle.spec_turns.specs.State.{leaf_over}
use Rattle.spec_turns.specs.Process.{outcome, trace, items}
use Rattle.spec_turns.specs.Turn.{is_asked, if_asked, quiet, phase, fresh, opening, call}
use Rattle.spec_turns.specs.Events.{events, event_bytes}
use Rattle.spec_turns.specs.Saved.{cells, load, store, saved_cells, running_leaves, saved}
use Rattle.spec_turns.specs.Entries.{carried_out, carried}
use Rattle.spec_trace.specs.Tallies.{steps_if}
use Rattle.spec_trace.specs.Traces.{ran_by}
use Rattle.spec_trace.proofs.TallyLaws.{steps-none}
use Rattle.file_records.specs.Kinds.{kind_of}
use Rattle.file_records.specs.declared.Kind.{Kind}
use Rattle.file_records.specs.declared.Kind.TheVariants.{Trivial, Unsatisfiable}
use Rattle.turn_tables.proofs.FileNodes.{room}
use Rattle.call_answer.specs.Replies.{Answer, spoken, Gave}
use Rattle.call_answer.specs.Ends.{Ended}

-- ---- the tree, by the kind that was read of the root

module _ {policy : Bytes} (ok : Passed policy) {q : Kind} (read : kind_of q ≡ node_kind (node_at policy (node_place 0)).kind) where
  pub is-trivial : q ≡ Trivial → tree policy ≡ trivial 0
  unfolding kind_of shaped
  is-trivial told = tree-top policy ∙ tree-read policy (room ok).some refl ok.kept5 (sym read ∙ ap kind_of told)

  pub is-unsatisfiable : q ≡ Unsatisfiable → tree policy ≡ unsatisfiable 0
  unfolding kind_of shaped
  is-unsatisfiable told = tree-top policy ∙ tree-read policy (room ok).some refl ok.kept5 (sym read ∙ ap kind_of told)

-- ---- what opening gives

module _ (policy state space : Bytes) {r : Answer} {bytes : Bytes} where
  pub opens-trivial : tree policy ≡ trivial 0 → Ended (trivial 0) (leaf_over ended) 0 r bytes → Gave (carried_out policy opening state space) r bytes space
  unfolding carried_out carried call phase if_asked is_asked states.asked fresh quiet spoken items trace outcome events event_bytes
  opens-trivial e x =
      subst (λ (t : Tree). Gave (carried t (call t opening (load t (cells state))) space) r bytes space) (sym e)
      (record { answer = x.answer; state = x.state; events = sym (put-none space 0) })

  pub opens-unsatisfiable : tree policy ≡ unsatisfiable 0 → Ended (trivial 0) (leaf_over halted) 0 r bytes → Gave (carried_out policy opening state space) r bytes space
  unfolding carried_out carried call phase if_asked is_asked states.asked fresh quiet spoken items trace outcome events event_bytes saved saved_cells store running_leaves
  opens-unsatisfiable e x =
      subst (λ (t : Tree). Gave (carried t (call t opening (load t (cells state))) space) r bytes space) (sym e)
      (record { answer = x.answer; state = x.state; events = sym (put-none space 0) })

-- no step is run
module _ (counting : Bool) (policy state : Bytes) (cs : List ℕ) where
  pub trivial-steps : tree policy ≡ trivial 0 → cs ≡ steps_if counting policy (ran_by policy opening state) cs
  unfolding ran_by call phase if_asked is_asked states.asked fresh quiet items trace
  trivial-steps e =
      sym (ap (λ (t : Tree). steps_if counting policy (items (trace (call t opening (load t (cells state))))) cs) e ∙ steps-none counting policy cs)

  pub unsatisfiable-steps : tree policy ≡ unsatisfiable 0 → cs ≡ steps_if counting policy (ran_by policy opening state) cs
  unfolding ran_by call phase if_asked is_asked states.asked fresh quiet items trace
  unsatisfiable-steps e =
      sym (ap (λ (t : Tree). steps_if counting policy (items (trace (call t opening (load t (cells state))))) cs) e ∙ steps-none counting policy cs)
