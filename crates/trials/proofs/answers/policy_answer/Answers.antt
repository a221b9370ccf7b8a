-- `policy_answer` meets its contract: a policy that is placed lies inside the bytes.
use Rattle.trials.proofs.CallLaws.{policy-part}
use Rattle.trials.specs.Calls.{part, answer_bytes}
use Rattle.spec_check.specs.Check.{check}
use Rattle.spec_policy.specs.Bytes.{Bytes}
use mathlib.Core.Path.{ap, ◌∙◌}
use Rattle.trials.proofs.answers.policy_answer.Goals as goal

pub returns : goal.returns
unfolding part
returns c = c.check_bytes.ensures ∙ ap (λ (p : Bytes). answer_bytes (check p)) (policy-part _ _ c.requires)
