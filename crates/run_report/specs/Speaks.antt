-- What is said of a call, in a lent buffer.
use Rattle.std.specs.Prelude.{ℕ, ◌≤◌, ◌≡◌, length}
use Rattle.spec_policy.specs.Bytes.{Bytes}
use Rattle.text_append.specs.Added.{Added}
use Rattle.run_report.specs.Said.{Said}
use Rattle.run_report.specs.declared.Told.{Told}

-- room for any text: an open line, 256 events of three digits and a close line
abbrev pub text_room : ℕ
text_room = 2075

-- What is said stands at the buffer's beginning, if there is room for it, and all else is as it was.
pub record Speaks (s : Said) (before after : Bytes) (t : Told) : Type 0 where
  pub added : Added before 0 s.text after t.end
  pub short : length s.text ≤ text_room
  pub over : t.over ≡ s.over
