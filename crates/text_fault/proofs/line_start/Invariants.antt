use Rattle.std.proofs.Common.{◌≡◌, ◌-◌, ◌≤◌, [], length, get_or, drop}
use Rattle.spec_text.specs.Words.{lines}
use Rattle.text_fault.specs.Expected.{line_number}
use Rattle.text_fault.proofs.line_start.Given as goal

-- so many lines are left up to the one
abbrev pub invariant-loop-line : goal.invariant-loop-line
invariant-loop-line l = (l.at ≤ length l.text) × (line_number l.text l.n ≡ get_or (lines (drop l.at l.text)) (l.n - l._line) [])
