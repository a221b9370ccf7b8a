-- `stray_step` meets its contract: the steps are asked in order.
use borrow.Author.Rules.{rules}
use Rattle.file_records.specs.Code.{code_at}
use Rattle.spec_check.specs.Targets.{leads_well}
use Rattle.check_spots.proofs.LeafLoops.{step_in}
use Rattle.check_spots.proofs.stray_step.Goals as goal

pub returns : goal.returns
unfolding code_at
returns c = c.first_failing.ensures (leads_well c.args.set.bits (code_at c.args.policy.now c.args.at c.args.count)) (step_in c.args.policy.now c.args.at c.args.count) (λ o b h p. search rules)
