-- `wrong6` meets its contract: a wrong sum is 0, and else the leaves are asked.
use native.Mathlib.Omega.{arith}
use mathlib.Core.Path.{◌≡◌, sym, ◌∙◌}
use borrow.Author.Rules.{rules}
use Rattle.std.specs.Prelude.{Some}
use Rattle.file_records.specs.Code.{code_at}
use Rattle.file_records.proofs.CodeLaws.{code-length}
use Rattle.faults.specs.Meaning.{spot_of}
use Rattle.check_spots.specs.Leaf.{stray_in}
use Rattle.check_spots.proofs.AllLeaves.{sum-wrong, sum-right, stray-inside}
use Rattle.check_spots.proofs.wrong6.Goals as goal

pub returns-then-not-all_owned : goal.returns-then-not-all_owned
unfolding spot_of
returns-then-not-all_owned c = sum-wrong c.args.file.framed (sym c.all_owned.ensures ∙ c.if-not-all_owned.true)

pub first_in_leaves-requires-clause-inside : goal.first_in_leaves-requires-clause-inside
unfolding spot_of
first_in_leaves-requires-clause-inside c at count o set p =
    let found : spot_of (Some o) ≡ stray_in set.bits (code_at c.args.file.policy.now at count) = search rules in
    omega (arith, stray-inside _ _ o (sym found), code-length c.args.file.policy.now at count)

pub returns : goal.returns
returns c =
    c.first_in_leaves.ensures (λ r code. stray_in r code) (λ at count set r p. search rules)
    ∙ sum-right c.args.file.framed (sym c.all_owned.ensures ∙ c.if-not-all_owned.false)
