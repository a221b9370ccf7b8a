-- `lost_step` meets its contract: all marks are made, and the steps are asked in order.
use borrow.Author.Rules.{rules}
use Rattle.file_records.specs.Code.{code_at}
use Rattle.spec_check.specs.Modes.{marks, mode_fits}
use Rattle.check_spots.proofs.LeafLoops.{step_in}
use Rattle.check_spots.proofs.lost_step.Goals as goal

pub returns : goal.returns
unfolding code_at
returns c = c.first_failing.ensures (mode_fits (marks (code_at c.args.policy.now c.args.at c.args.count))) (step_in c.args.policy.now c.args.at c.args.count) (λ o b h p. search rules)
