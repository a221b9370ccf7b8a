-- `copy_at` meets its contract.
use Prim.Native.Nat.{ℕ, ◌+◌, ◌-◌}
use mathlib.Core.Path.{ap, ◌∙◌}
use mathlib.Core.List.{List}
use lib.ListN.{length}
use borrow.Rule.Slice.PartMut.{put_mid}
use Rattle.file_writer.proofs.Lays.{copied}
use Rattle.file_writer.proofs.copy_at.Goals as goal

pub returns : goal.returns
returns c =
    ap (λ (zs : List ℕ). put_mid c.args.at (c.args.at + length c.args.from.now - c.args.at) c.args.to.now zs) c.copy_from_slice.ensures.after
    ∙ copied c.args.to.now c.args.from.now c.args.at
