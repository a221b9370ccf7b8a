-- `refusal` meets its contract: what a refusal says, and number 0 of a pass.
use mathlib.Core.Path.{sym, ap, ◌∙◌}
use Rattle.std.specs.Prelude.{Result}
use Rattle.spec_policy.specs.Spots.{Fault}
use Rattle.faults.specs.declared.Fault as code
use Rattle.check_policy.specs.declared.Sets.{Sets}
use Rattle.check_policy.specs.Answers.{answered, refusal_of}
use Rattle.check_policy.proofs.refusal.Goals as goal

abbrev told : Result Sets code.Fault → Fault
told x = refusal_of (answered x)

pub returns-in-Ok : goal.returns-in-Ok
unfolding answered refusal_of
returns-in-Ok c = c.bare_fault.ensures ∙ sym (ap told c.in-Ok.is)

pub returns-in-Err : goal.returns-in-Err
unfolding answered refusal_of
returns-in-Err c = sym (ap told c.in-Err.is)
