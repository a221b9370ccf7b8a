-- `is_empty_from` meets its contract: the fold joins the bytes from the node's record on.
use native.Mathlib.Omega.{arith}
use borrow.Author.Rules.{rules}
use lib.Bits.{bit_or}
use Rattle.std.proofs.lemmas.Iterator.{YieldsList-from_slice}
use Rattle.std.proofs.lemmas.Iterator.Consumers.{fold_from_yields_List}
use Rattle.turn_state.proofs.ZeroLaws.{rest-joined}
use Rattle.turn_state.proofs.is_empty_from.Goals as goal

pub returns : goal.returns
returns c =
    rest-joined _ _ _ (grind arith) _ _ (grind arith)
    (fold_from_yields_List _ bit_or _ _ c.fold.ensures.ran (YieldsList-from_slice _ c.iter.ensures.rest) (λ a x b q. search rules))
