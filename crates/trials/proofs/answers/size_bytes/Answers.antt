-- `size_bytes` meets its contract.
use mathlib.Core.Path.{◌≡◌, ap, sym, ◌∙◌}
use Rattle.spec_policy.specs.Bytes.{spell}
use Rattle.faults.specs.Meaning.{spot_code}
use Rattle.trials.specs.Calls.{refusal_bytes, size_bytes}
use Rattle.trials.proofs.CallLaws.{refused-size}
use Rattle.trials.proofs.SpellLaws.{two}
use Rattle.trials.proofs.answers.size_bytes.Goals as goal

pub returns-in-Ok : goal.returns-in-Ok
unfolding size_bytes refusal_bytes spot_code spell
returns-in-Ok c =
    let e : c.to_be_bytes.result ≡ spell 2 c.in-Ok.length = c.to_be_bytes.ensures ∙ two _ in
    rw e (ap size_bytes (sym c.in-Ok.is))

pub returns-in-Err : goal.returns-in-Err
returns-in-Err c = refused-size _ _ _ c.in-Err.is c.refusal_bytes.ensures
