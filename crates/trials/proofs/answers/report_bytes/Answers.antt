-- `report_bytes` meets its contract: each byte is the definition's.
use mathlib.Core.Path.{◌≡◌, ap, ◌∙◌}
use mathlib.Core.List.{[], ◌∷◌, ◌++◌}
use lib.ListN.{get_or, take, drop}
use Rattle.spec_policy.specs.Bytes.{Bytes, spell}
use Rattle.trials.specs.Calls.{refusal_bytes}
use Rattle.trials.proofs.SpellLaws.{low-four}
use Rattle.trials.proofs.answers.report_bytes.Goals as goal

pub returns : goal.returns
unfolding refusal_bytes spell
returns c =
    let x : c.copy_from_slice.new.self ≡ spell 4 c.args.judged = c.copy_from_slice.ensures.after ∙ ap (λ (bs : Bytes). take 4 (drop 4 bs)) c.to_be_bytes.ensures ∙ low-four _ in
    let y : c.copy_from_slice-2.new.self ≡ spell 4 c.args.count = c.copy_from_slice-2.ensures.after ∙ ap (λ (bs : Bytes). take 4 (drop 4 bs)) c.to_be_bytes-2.ensures ∙ low-four _ in
    rw (x, y) (ap (λ (rs : Bytes). get_or rs 0 0 ∷ get_or rs 1 0 ∷ get_or rs 2 0 ∷ (spell 4 c.args.judged ++ (spell 4 c.args.count ++ (c.args.status ∷ [])))) c.refusal_bytes.ensures)
