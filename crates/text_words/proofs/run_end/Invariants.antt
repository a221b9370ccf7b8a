use Prim.Native.Nat.{ℕ, ◌≤◌, ◌<◌}
use mathlib.Core.Path.{◌≡◌}
use lib.ListN.{get_or}
use Rattle.spec_text.specs.Words.{mark}
use Rattle.text_words.specs.Scanned.{mark_of}
use Rattle.text_words.proofs.run_end.Given as goal

abbrev pub invariant-loop-i : goal.invariant-loop-i
invariant-loop-i l = (k : ℕ) → k < l.i → l.at ≤ k → mark (get_or l.line k 0) ≡ mark_of l.kind
