use Rattle.std.proofs.Common.{ℕ, ◌-◌}
use Rattle.spec_policy.specs.Bytes.{Bytes}
use Rattle.spec_text.specs.Printing.{listing, spaced}
use Rattle.text_append.specs.Added.{Added, led}
use Rattle.text_append.proofs.append_members.Given as goal

-- what is left of the set makes the rest of its text
abbrev pub invariant-loop-a : goal.invariant-loop-a
invariant-loop-a l =
    (x : Bytes) (e : ℕ) → Added l.out l.end (led l.first (listing l.set.bits l.a (64 - l.a))) x e → Added l.initial.out l.at (spaced (listing l.set.bits 0 64)) x e
