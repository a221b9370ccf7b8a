-- `each_once` meets its contract: all offsets are in one of the words, and none is in two.
use mathlib.Core.Path.{sym, ap, ◌∙◌}
use mathlib.Core.Bool.{◌&&◌, not}
use Prim.Native.Nat.{ℕ}
use lib.Dec.{ltb}
use Rattle.actions.specs.Sets.{union, common}
use Rattle.check_modes.proofs.Final.{once-by-words}
use Rattle.check_modes.proofs.each_once.Goals as goal

pub returns : goal.returns
unfolding union common
returns c code size are = (λ j. c.within.ensures j && not (c.meets.ensures j)) ∙ once-by-words _ _ c.offsets_below.type_inv _ code (λ q. c.offsets_below.ensures q ∙ ap (λ (n : ℕ). ltb q n) (sym size)) are
