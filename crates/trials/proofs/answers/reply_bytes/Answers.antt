-- `reply_bytes` meets its contract.
use mathlib.Core.Path.{◌≡◌, ap, sym, ◌∙◌}
use Rattle.spec_policy.specs.Bytes.{spell}
use Rattle.faults.specs.Meaning.{spot_code}
use Rattle.trials.specs.Calls.{refusal_bytes, reply_bytes}
use Rattle.trials.proofs.CallLaws.{refused-reply}
use Rattle.trials.proofs.SpellLaws.{eight}
use Rattle.trials.proofs.answers.reply_bytes.Goals as goal

pub returns-in-Ok : goal.returns-in-Ok
unfolding reply_bytes refusal_bytes spot_code spell
returns-in-Ok c =
    let e : c.to_be_bytes.result ≡ spell 8 c.in-Ok.answered.events = c.to_be_bytes.ensures ∙ eight _ in
    rw e (ap reply_bytes (sym c.in-Ok.is))

pub returns-in-Err : goal.returns-in-Err
returns-in-Err c = refused-reply _ _ _ c.in-Err.is c.refusal_bytes.ensures
