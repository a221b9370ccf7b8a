-- `store` meets its contract.
use Prim.Native.Nat.{ℕ, ◌+◌, ◌-◌}
use mathlib.Core.Path.{ap, ◌∙◌}
use mathlib.Core.List.{List}
use lib.ListN.{length}
use borrow.Rule.Slice.PartMut.{put_mid}
use Rattle.text_read.proofs.StoreLaws.{stored}
use Rattle.text_read.proofs.store.Goals as goal

pub returns : goal.returns
returns c =
    ap (λ (zs : List ℕ). put_mid c.args.at (c.args.at + length c.args.bytes.now - c.args.at) c.args.buffer.now zs) c.copy_from_slice.ensures.after
    ∙ stored c.args.buffer.now c.args.bytes.now c.args.at
