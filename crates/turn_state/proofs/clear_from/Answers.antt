-- `clear_from` meets its contract.
use native.Mathlib.Omega.{arith}
use Rattle.turn_state.proofs.ZeroLaws.{rest-cleared}
use Rattle.turn_state.proofs.clear_from.Goals as goal

pub returns : goal.returns
returns c = rest-cleared _ _ _ (grind arith) _ _ c.requires.0 c.requires.1 (grind arith) (c.fill.ensures.after (λ y e. e))
