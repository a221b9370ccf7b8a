-- What was measured is known by its meaning.
use mathlib.Core.Path.{◌≡◌, refl, sym, ap, ◌∙◌}
use Rattle.std.specs.Prelude.{Result, Ok, Err}
use Rattle.text_measure.specs.declared.Records.{Records}
use Rattle.text_measure.specs.declared.BadLine.{BadLine}
use Rattle.text_measure.specs.Measures.{Sizes, sized, wrong_at, measured}

outcome : Sizes → Result Records BadLine
outcome (sized n m) = Ok (record { nodes = n; steps = m })
outcome (wrong_at l) = Err (record { 0 = l })

outcome-back : (x : Result Records BadLine) → outcome (measured x) ≡ x
unfolding measured outcome
outcome-back (Ok r) = refl
outcome-back (Err e) = refl

pub one-outcome : (a b : Result Records BadLine) → measured a ≡ measured b → a ≡ b
one-outcome a b e = sym (outcome-back a) ∙ ap outcome e ∙ outcome-back b
