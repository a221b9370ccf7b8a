-- `step_bytes` meets its contract: each byte is the definition's.
use mathlib.Core.Path.{◌≡◌, ◌∙◌}
use lib.ListN.{get_or}
use Rattle.spec_policy.specs.Bytes.{spell}
use Rattle.spec_policy.specs.Parts
use Rattle.spec_text.specs.Forms.{record_of}
use Rattle.text_read.proofs.SpellLaws.{eight}
use Rattle.text_read.proofs.step_bytes.Goals as goal

pub returns : goal.returns
unfolding record_of Parts.step spell
returns c =
    let e : c.copy_from_slice.new.self ≡ spell 8 (get_or c.args.f 4 0) = c.copy_from_slice.ensures.after ∙ c.to_be_bytes.ensures ∙ eight _ in
    rw e
