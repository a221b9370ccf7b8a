-- `tidy` meets its contract.
use native.Mathlib.Omega.{arith}
use Rattle.turn_tables.proofs.FileNodes.{room}
use Rattle.turn_rest.proofs.TidyLaws.{tidied, few-leaves}
use Rattle.turn_rest.proofs.tidy.tidy.Goals as goal

pub clear_from-requires : goal.clear_from-requires
clear_from-requires c =
    let r = room c.requires.passed.0 in
    (c.sweep-leaves.ensures.state_len, omega (arith, c.requires.passed.1))

pub save_count-requires : goal.save_count-requires
save_count-requires c = (c.clear_from.ensures.0, few-leaves c.requires.passed.0 c.requires.passed.1 c.sweep-leaves.ensures.swept)

pub returns : goal.returns
returns c = record { state_after = tidied c.requires.passed.0 c.requires.passed.1 c.sweep-leaves.ensures.swept c.clear_from.ensures.1 c.save_count.ensures; mem_len_2 = c.sweep-leaves.ensures.swept.words }
