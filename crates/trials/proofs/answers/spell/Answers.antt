-- `spell` meets its contract: each byte is the definition's.
use mathlib.Core.Path.{◌≡◌, ap, ◌∙◌}
use mathlib.Core.List.{◌∷◌, ◌++◌}
use lib.ListN.{get_or}
use Rattle.spec_policy.specs.Bytes.{Bytes, spell}
use Rattle.trials.specs.Calls.{refusal_bytes}
use Rattle.trials.proofs.SpellLaws.{eight}
use Rattle.trials.proofs.answers.spell.Goals as goal

pub returns : goal.returns
unfolding refusal_bytes spell
returns c =
    let x : c.copy_from_slice.new.self ≡ spell 8 c.args.x = c.copy_from_slice.ensures.after ∙ c.to_be_bytes.ensures ∙ eight _ in
    let y : c.copy_from_slice-2.new.self ≡ spell 8 c.args.y = c.copy_from_slice-2.ensures.after ∙ c.to_be_bytes-2.ensures ∙ eight _ in
    rw (x, y) (ap (λ (rs : Bytes). get_or rs 0 0 ∷ get_or rs 1 0 ∷ get_or rs 2 0 ∷ (spell 8 c.args.x ++ spell 8 c.args.y)) c.refusal_bytes.ensures)
