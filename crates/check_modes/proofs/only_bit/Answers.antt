-- `only_bit` meets its contract: the shift loses no bit.
use Prim.Native.Nat.{ℕ}
use mathlib.Core.Path.{ap, ◌∙◌}
use Rattle.actions.specs.Sets.{has}
use Rattle.check_modes.proofs.Words.{has_one, shifted}
use Rattle.check_modes.proofs.only_bit.Goals as goal

pub returns : goal.returns
returns c p = ap (λ (w : ℕ). has w p) (shifted c.args.o c.requires) ∙ has_one c.args.o p c.requires
