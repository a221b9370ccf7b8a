-- `leaf_word` meets its contract.
use Prim.Native.Nat.{ℕ, ◌<◌}
use native.Mathlib.Omega.{arith}
use mathlib.Core.Path.{ap, ap₂, ◌∙◌, subst}
use Rattle.spec_policy.specs.Bytes.{spell}
use Rattle.turn_memory.specs.Words.{packed}
use Rattle.turn_memory.proofs.CellLaws.{offset-in, counter-in}
use Rattle.turn_rest.specs.Rest.{own_of}
use Rattle.turn_rest.proofs.RecordLaws.{word-runs, word_over}
use Rattle.turn_rest.proofs.tidy.leaf_word.Goals as goal

pub returns-then-status-ne-RUNNING : goal.returns-then-status-ne-RUNNING
unfolding own_of
returns-then-status-ne-RUNNING c = ap (spell 8) c.cell.ensures ∙ word_over _ _ c.requires.1 _ _ c.if-status-ne-RUNNING.true

pub cell-requires-2 : goal.cell-requires-2
cell-requires-2 c = c.counter_at.ensures.1

pub returns : goal.returns
unfolding own_of
returns c =
    ap (spell 8)
    (c.cell-2.ensures
    ∙ ap₂ (λ (o n : ℕ). packed c.args.status o 0 n) (c.offset_at.ensures ∙ offset-in _ _ c.requires.0) (c.counter_at.ensures.0 ∙ counter-in _ _ c.requires.0))
    ∙ word-runs _ _ c.requires.1 _ _ (subst (λ (x : ℕ). x < 256) (offset-in _ _ c.requires.0) (omega arith)) (subst (λ (x : ℕ). x < 4294967296) (counter-in _ _ c.requires.0) (omega arith)) c.if-status-ne-RUNNING.false
