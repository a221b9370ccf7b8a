-- `refusal_bytes` meets its contract: the record is counted from 1.
use Prim.Native.Nat.{ℕ}
use mathlib.Core.Path.{◌≡◌, ap, ◌∙◌}
use mathlib.Core.List.{◌∷◌}
use Rattle.spec_policy.specs.Bytes.{spell}
use Rattle.faults.specs.Meaning.{fault_of}
use Rattle.trials.specs.Calls.{refusal_bytes}
use Rattle.trials.proofs.SpellLaws.{four}
use Rattle.trials.proofs.answers.refusal_bytes.Goals as goal

pub returns : goal.returns
unfolding refusal_bytes fault_of spell
returns c =
    let e : c.to_be_bytes.result ≡ spell 4 c.spot_code.result = c.to_be_bytes.ensures ∙ four _ in
    rw e (ap (λ (k : ℕ). c.args.fault.number ∷ spell 2 k) c.spot_code.ensures.0)
