-- `is_ahead` meets its contract.
use Prim.Native.Nat.{ℕ}
use mathlib.Core.Path.{ap, ◌∙◌}
use lib.Dec.{eqb}
use Rattle.turn_state.proofs.PlaceLaws.{ahead-number}
use Rattle.turn_state.proofs.is_ahead.Goals as goal

pub returns : goal.returns
returns c = ap (λ (m : ℕ). eqb m c.args.count) c.word64.ensures ∙ ahead-number _ (λ i. (c.shared_slice_known-1.given i).fits) c.requires.0 _ c.requires.1
