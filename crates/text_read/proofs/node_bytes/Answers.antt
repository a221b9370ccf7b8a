-- `node_bytes` meets its contract: each byte is the definition's.
use mathlib.Core.Path.{◌≡◌, ap, ◌∙◌}
use mathlib.Core.List.{List}
use Prim.Native.Nat.{ℕ}
use lib.ListN.{get_or, take, drop}
use Rattle.spec_policy.specs.Bytes.{spell}
use Rattle.spec_policy.specs.Parts
use Rattle.spec_text.specs.Forms.{record_of}
use Rattle.text_read.proofs.SpellLaws.{eight, four}
use Rattle.text_read.proofs.node_bytes.Goals as goal

pub returns : goal.returns
unfolding record_of Parts.node spell
returns c =
    let e : c.copy_from_slice.new.self ≡ spell 4 (get_or c.args.f 4 0) = c.copy_from_slice.ensures.after ∙ ap (λ (bs : List ℕ). take 4 (drop 4 bs)) c.to_be_bytes.ensures ∙ four _ in
    let d : c.copy_from_slice-2.new.self ≡ spell 8 (get_or c.args.f 5 0) = c.copy_from_slice-2.ensures.after ∙ c.to_be_bytes-2.ensures ∙ eight _ in
    rw (e, d)
