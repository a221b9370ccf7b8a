use Prim.Native.Nat.{◌-◌, ◌≤◌}
use mathlib.Core.Path.{◌≡◌}
use lib.ListN.{length, drop}
use Rattle.spec_text.specs.Reading.{read_lines}
use Rattle.text_read.specs.Written.{written, Roomy}
use Rattle.text_read.proofs.copy.Given as goal

abbrev pub invariant-loop-at : goal.invariant-loop-at
invariant-loop-at l =
    (l.at ≤ length l.text) × (length l.nodes ≡ length l.initial.nodes) × (length l.steps ≡ length l.initial.steps)
    × (written (read_lines l.text) 0 0 l.initial.nodes l.initial.steps ≡ written (read_lines (drop l.at l.text)) l.p.nodes l.p.steps l.nodes l.steps)
    × Roomy (read_lines (drop l.at l.text)) l.p.nodes l.p.steps l.nodes l.steps

abbrev pub decreases-loop-at : goal.decreases-loop-at
decreases-loop-at l = length l.text - l.at
