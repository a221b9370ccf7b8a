use Rattle.std.proofs.Common.{ℕ, ◌-◌}
use Rattle.spec_policy.specs.Bytes.{Bytes}
use Rattle.text_append.specs.Added.{Added}
use Rattle.text_tally.specs.Lines.{action_lines}
use Rattle.text_tally.proofs.action_lines.Given as goal

-- the actions that are left make the rest of the text
abbrev pub invariant-loop-a : goal.invariant-loop-a
invariant-loop-a l = (x : Bytes) (r : ℕ) → Added l.out l.end (action_lines (64 - l.a) l.a l.counts) x r → Added l.initial.out l.at (action_lines 64 0 l.counts) x r
