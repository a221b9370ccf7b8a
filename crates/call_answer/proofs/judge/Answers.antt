-- `judge` meets its contract: no event where the root has halted, else the verdict's.
use mathlib.Core.Path.{sym, ap, ◌∙◌}
use Prim.Native.Nat.{ℕ}
use Rattle.spec_turns.specs.Status.{status_of, is_halted}
use Rattle.spec_turns.proofs.StatusLaws.{not-halted}
use Rattle.turn_memory.specs.Words.{celled, memory_of}
use Rattle.call_answer.proofs.EndLaws.{no-verdict, one-verdict}
use Rattle.call_answer.proofs.judge.Goals as goal

pub returns-then-status_at-eq-HALTED : goal.returns-then-status_at-eq-HALTED
unfolding memory_of celled status_of is_halted
returns-then-status_at-eq-HALTED c =
    no-verdict _ c.args.suppressed c.args.action _ c.args.count
    (ap (λ (n : ℕ). is_halted (status_of n)) (sym c.status_at.ensures ∙ c.if-status_at-eq-HALTED.true)) c.requires

pub returns : goal.returns
unfolding memory_of celled
returns c =
    one-verdict _ c.args.suppressed c.args.action c.args.count
    (not-halted _ (λ e. c.if-status_at-eq-HALTED.false (c.status_at.ensures ∙ e))) c.put_verdict.ensures
