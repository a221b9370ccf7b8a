-- `wrong7` meets its contract: the leaves are asked, which keep rule 6.
use native.Mathlib.Omega.{arith}
use mathlib.Core.Path.{◌≡◌, sym}
use borrow.Author.Rules.{rules}
use Rattle.std.specs.Prelude.{Some}
use Rattle.spec_check.specs.Modes.{wrong7}
use Rattle.file_records.specs.Code.{code_at}
use Rattle.file_records.proofs.CodeLaws.{code-length}
use Rattle.faults.specs.Meaning.{spot_of}
use Rattle.check_spots.specs.Leaf.{lost_in}
use Rattle.check_spots.proofs.AllLeaves.{all-owned, all-lead, leaf-targets, lost-inside}
use Rattle.check_spots.proofs.wrong7.Goals as goal

pub first_in_leaves-requires-clause-policy_value_2 : goal.first_in_leaves-requires-clause-policy_value_2
first_in_leaves-requires-clause-policy_value_2 c = all-owned c.args.file.framed c.requires.policy_value_2

pub first_in_leaves-requires-clause-may : goal.first_in_leaves-requires-clause-may
first_in_leaves-requires-clause-may c at count set l =
    let inside = leaf-targets (all-lead c.args.file.framed c.requires.policy_value_2) l in
    search rules

pub first_in_leaves-requires-clause-inside : goal.first_in_leaves-requires-clause-inside
unfolding spot_of
first_in_leaves-requires-clause-inside c at count o set p =
    let found : spot_of (Some o) ≡ lost_in (code_at c.args.file.policy.now at count) = search rules in
    omega (arith, lost-inside _ o (sym found), code-length c.args.file.policy.now at count)

pub returns : goal.returns
unfolding wrong7
returns c = c.first_in_leaves.ensures (λ r code. lost_in code) (λ at count set r p. search rules)
