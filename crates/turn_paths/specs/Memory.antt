-- The memory of a call, a cell for each node: the state that it holds, and a node's phase from it.
use Rattle.std.specs.Prelude.{ℕ, Bool, ◌||◌}
use Rattle.std.proofs.Math.Bool.{true, false}
use Rattle.actions.specs.Sets.{ActionSet}
use Rattle.spec_policy.specs.Tree.{Join, Tree, leaf, trivial, unsatisfiable, node}
use Rattle.spec_turns.specs.Status.{Status, is_running}
use Rattle.spec_turns.specs.State.{State, leaf_state, leaf_over, pair_with, settled}
use Rattle.spec_turns.specs.Process.{Out}
use Rattle.spec_turns.specs.Turn.{Phase, before, after, closing, judged, phase}
use Rattle.turn_paths.specs.Run.{Run, halts, and_then, flat, unless_run, feed_run}

-- A node's cell: what the state has of it, and whether it is to be asked after the verdict.
pub record Cell : Type 0 where
  pub status : Status
  pub asked : Bool
  pub offset : ℕ
  pub counter : ℕ

abbrev pub Mem : Type 0
Mem = ℕ → Cell

-- ---- the state that the memory holds

-- a leaf that does not run reads as zeros
unfoldable pub leaf_with : Status → Bool → ℕ → ℕ → State
leaf_with s m o c = elim (is_running s) [ true ↦ leaf_state s m o c | false ↦ leaf_over s ]

-- what lies under a decided node reads as dropped, whatever its cells hold
unfoldable pub held : Tree → Mem → State
held (leaf i r c code) m = leaf_with (m i).status (m i).asked (m i).offset (m i).counter
held (trivial i) m = leaf_with (m i).status (m i).asked 0 0
held (unsatisfiable i) m = leaf_with (m i).status (m i).asked 0 0
held (node w j i l r) m = pair_with (m i).status (m i).asked (held l m) (held r m)

-- ---- a node's phase from those of its sides

unfoldable pub ran_of : Tree → Phase → State → Run
ran_of t ph s = flat (phase t ph s)

-- a parallel node whose left side x is done (u: it suppressed), the right side's run being q; and before that, its left side's run being p
unfoldable pub par_right : Join → Bool → State → Bool → Run → Run
par_right j m x u q = and_then q (λ y. halts (judged (settled j m x y.state) (u || y.suppressed)))

unfoldable pub par_left : Join → Bool → Run → Run → Run
unfolding par_right
par_left j m p q = and_then p (λ x. par_right j m x.state x.suppressed q)

module _ (j : Join) (rs : ActionSet) (right : Phase → State → Run) where
  -- the right side's own part of the phase, its run being q, the left side x being done
  unfoldable pub own : Phase → State → Run → Run
  own (before a) x q = and_then q (λ y. halts (record { state = settled j true x y.state; suppressed = y.suppressed }))
  own after x q = and_then q (λ y. halts (record { state = settled j false x y.state; suppressed = false }))
  own closing x q = and_then q (λ y. halts (record { state = settled j false x y.state; suppressed = false }))

  -- what follows the left side's end
  unfoldable pub ends : Phase → Out → State → Run
  unfolding own
  ends (before a) x t =
      unless_run j true x.suppressed x.state t
      (elim x.suppressed [
        | true ↦ halts (record { state = settled j true x.state t; suppressed = true })
        | false ↦ own (before a) x.state (right (before a) t)
      ])
  ends after x t = halts (record { state = settled j false x.state t; suppressed = false })
  ends closing x t = unless_run j false false x.state t (own closing x.state (right closing t))

  -- the left side runs, its run being p
  unfoldable pub at_left : State → Phase → Run → State → Run
  unfolding ends
  at_left l ph p t = feed_run j rs right l p t (ends ph)

  -- the phase after the verdict: the right side first, its run being q; p is the left side's run to come
  unfoldable pub at_first : State → Run → Run → Run
  unfolding at_left
  at_first l q p = and_then q (λ y. unless_run j false false l y.state (at_left l after p y.state))
