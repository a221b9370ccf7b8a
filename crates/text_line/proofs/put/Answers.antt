-- `put` meets its contract.
use mathlib.Core.Path.{ap}
use Prim.Native.Nat.{ℕ}
use lib.ListN.{set}
use Rattle.text_line.specs.Lines.{put_into}
use Rattle.text_line.proofs.put.Goals as goal

pub returns : goal.returns
unfolding put_into
returns c = ap (λ (i : ℕ). record { fields = set c.args.begun.fields i c.args.taken.value; at = c.args.taken.end }) c.from.ensures
