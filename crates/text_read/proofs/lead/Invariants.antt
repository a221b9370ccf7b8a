use Prim.Native.Nat.{◌+◌, ◌-◌, ◌≤◌}
use mathlib.Core.Path.{◌≡◌}
use lib.ListN.{length, drop}
use Rattle.spec_text.specs.Reading.{read_lines}
use Rattle.text_read.specs.Written.{lead_in}
use Rattle.text_read.proofs.lead.Given as goal

abbrev pub invariant-loop-i : goal.invariant-loop-i
invariant-loop-i l = (l.i ≤ length l.text) × (l.count ≤ l.i) × (lead_in (read_lines (drop l.at l.text)) ≡ l.count + lead_in (read_lines (drop l.i l.text)))

abbrev pub decreases-loop-i : goal.decreases-loop-i
decreases-loop-i l = length l.text - l.i
