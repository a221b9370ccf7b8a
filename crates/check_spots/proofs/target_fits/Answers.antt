-- `target_fits` meets its contract.
use Prim.Native.Nat.{ℕ}
use mathlib.Core.Path.{sym, ap, ◌∙◌}
use lib.Dec.{eqb}
use borrow.Author.Tests.{le-ltb, lt-ltb}
use Rattle.spec_policy.specs.Steps.{is_next}
use Rattle.file_records.specs.Code.{code_at}
use Rattle.file_records.proofs.CodeLaws.{code-length, code-at, next-kind}
use Rattle.check_targets.proofs.TargetLaws.{target-outside, target-later, target-earlier}
use Rattle.check_spots.proofs.target_fits.Goals as goal

pub returns-else-t-count : goal.returns-else-t-count
returns-else-t-count c = le-ltb _ _ c.if-t-count.false ∙ target-outside (code_at _ _ _) _ _ _ (code-length _ _ _) c.if-t-count.false

pub returns-then-o-t : goal.returns-then-o-t
returns-then-o-t c = lt-ltb _ _ c.if-o-t.true ∙ target-later (code_at _ _ _) _ _ _ (code-length _ _ _) c.if-t-count.true c.if-o-t.true

pub returns-else-o-t : goal.returns-else-o-t
returns-else-o-t c =
    ap (λ (x : ℕ). eqb x 1) c.byte.ensures ∙ sym (next-kind _ _) ∙ ap is_next (sym (code-at c.args.policy.now c.args.at c.args.count c.args.t c.if-t-count.true))
    ∙ target-earlier (code_at _ _ _) _ _ _ (code-length _ _ _) c.if-t-count.true c.if-o-t.false
