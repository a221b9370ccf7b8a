-- `row_at` meets its contract: a known kind, or else the row of a halt.
use native.Mathlib.Omega.{arith}
use mathlib.Core.Path.{◌∙◌}
use Rattle.check_spots.proofs.ByKind.{row-known, row-unknown}
use Rattle.check_spots.proofs.row_at.Goals.{in-1-to-8, in_default, in_default-2}
use Rattle.check_spots.proofs.row_at.Goals as goal

pub returns-clause-row : goal.returns-clause-row
returns-clause-row c m =
    let first = c.from.ensures ∙ c.byte-2.ensures in
    let second = c.from-2.ensures ∙ c.byte-3.ensures in
    elim c.if-byte-lt1.branch [
      | in-1-to-8 w ↦ row-known _ _ (w.kind-is ∙ c.byte.ensures) first second (omega arith) (omega arith) m
      | in_default w ↦ row-unknown _ _ c.byte.ensures first second w.kind-is (λ g h. omega arith) m
      | in_default-2 w ↦ row-unknown _ _ c.byte.ensures first second w.kind-is (λ g h. omega arith) m
    ]
