use Prim.Native.Nat.{◌≤◌}
use mathlib.Core.Path.{◌≡◌}
use lib.ListN.{drop}
use Rattle.spec_text.specs.Numerals.{number_from, numeral}
use Rattle.text_words.proofs.numeral.Given as goal

abbrev pub invariant-loop-b : goal.invariant-loop-b
invariant-loop-b l = (l.n ≤ l.most) × (numeral l.most l.word ≡ number_from l.most l.n (drop l.b-index l.word))
