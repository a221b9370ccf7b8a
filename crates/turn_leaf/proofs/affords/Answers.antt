-- `affords` meets its contract.
use borrow.Author.Rules.{rules}
use Rattle.spec_turns.specs.Turn.{affords}
use Rattle.turn_leaf.proofs.affords.Goals as goal

pub returns : goal.returns
unfolding affords
returns c = search rules
