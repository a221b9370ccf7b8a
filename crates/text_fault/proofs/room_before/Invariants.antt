use Rattle.std.proofs.Common.{◌≡◌, ◌-◌, ◌≤◌, length, take, drop}
use Rattle.spec_text.specs.Reading.{read_lines}
use Rattle.text_fault.specs.Expected.{room_after, room_before}
use Rattle.text_fault.proofs.room_before.Given as goal

-- so many lines are left up to the one
abbrev pub invariant-loop-line : goal.invariant-loop-line
invariant-loop-line l = (l.at ≤ length l.text) × (room_before l.text l.n ≡ room_after l.room (take (l.n - l._line) (read_lines (drop l.at l.text))))
