use Prim.Native.Nat.{◌≤◌, ◌-◌}
use mathlib.Core.Path.{◌≡◌}
use lib.ListN.{length, drop}
use Rattle.actions.specs.Sets.{EMPTY}
use Rattle.spec_text.specs.Words.{words}
use Rattle.spec_text.specs.Reading.{members}
use Rattle.text_words.proofs.members.Given as goal

abbrev pub invariant-loop-word : goal.invariant-loop-word
invariant-loop-word l = (l.i ≤ length l.line) × (members EMPTY (words (drop l.at l.line)) ≡ members l.set.bits (words (drop l.i l.line)))

abbrev pub decreases-loop-word : goal.decreases-loop-word
decreases-loop-word l = length l.line - l.i
