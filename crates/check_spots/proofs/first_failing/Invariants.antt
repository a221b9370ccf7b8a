-- What is left to look at, by whatever the closure tests.
use Prim.Native.Nat.{ℕ, ◌<◌}
use mathlib.Core.Path.{◌≡◌}
use mathlib.Core.Bool.{Bool}
use Rattle.spec_policy.specs.Steps.{Step}
use Rattle.check_children.proofs.Search.{Looking}
use Rattle.check_spots.proofs.first_failing.Given as goal

abbrev pub invariant-loop-o : goal.invariant-loop-o
invariant-loop-o g l =
    (f : ℕ → Step → Bool) (s : ℕ → Step) → ((o : ℕ) (b : Bool) → o < l.count → goal.F-post g l.passes o b → b ≡ f o (s o)) → Looking f s l.count l.o
