-- `running_leaf` meets its contract.
use Rattle.std.proofs.lemmas.Grind.{common_steps}
use native.Mathlib.Omega.{arith}
use Rattle.spec_policy.specs.Lists.{one}
use Rattle.spec_turns.proofs.StatusLaws.{running-one}
use Rattle.laws_turns.specs.Leaves.{is_leaf}
use Rattle.file_records.specs.Kinds.{kind_of}
use Rattle.turn_state.proofs.running_leaf.Goals as goal

pub returns-in-Leaf : goal.returns-in-Leaf
unfolding is_leaf one kind_of
returns-in-Leaf c = grind (arith, common_steps, running-one)

pub returns-in_default : goal.returns-in_default
unfolding is_leaf one kind_of
returns-in_default c = grind (arith, common_steps, running-one)
