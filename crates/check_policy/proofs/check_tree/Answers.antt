-- `check_tree` meets its contract: rules 9 and 10, and the two sets of the root.
use Prim.Native.Nat.{ℕ}
use mathlib.Core.Path.{◌≡◌, sym, ap, ◌∙◌}
use mathlib.Core.Bool.{true, false}
use Rattle.std.specs.Prelude.{Option, Some, None}
use Rattle.spec_policy.specs.Spots as spots
use Rattle.spec_check.specs.Check.{refused}
use Rattle.spec_check.specs.Passed.{spot_by}
use Rattle.spec_check.specs.Interference.{broken9}
use Rattle.spec_check.specs.Spread.{broken10}
use Rattle.faults.specs.Meaning.{spot_of}
use Rattle.check_policy.specs.Answers.{answered}
use Rattle.check_policy.proofs.InOrder.{treed, refused-9, refused-10, all-kept}
use Rattle.check_policy.proofs.check_tree.Goals as goal

-- a spot that was looked for: whether there is one says whether the rule is broken
module _ {x : Option ℕ} {p : spots.Spot} (e : spot_of x ≡ p) where
  none : x ≡ None → spots.somewhere p ≡ false
  unfolding spot_of spots.somewhere
  none h = sym (ap spots.somewhere e) ∙ ap (λ (y : Option ℕ). spots.somewhere (spot_of y)) h

  some : {q : ℕ} → x ≡ Some q → spots.somewhere p ≡ true
  unfolding spot_of spots.somewhere
  some h = sym (ap spots.somewhere e) ∙ ap (λ (y : Option ℕ). spots.somewhere (spot_of y)) h

pub wrong9-requires-clause-treed : goal.wrong9-requires-clause-treed
wrong9-requires-clause-treed c = treed _ c.requires.leaves_kept

pub returns-in-Some : goal.returns-in-Some
unfolding answered spot_by broken9
returns-in-Some c =
    ap refused (c.at.ensures ∙ ap (λ (p : spots.Spot). record { number = 9; spot = p }) c.in-Some.ensures.result_value)
    ∙ refused-9 _ c.requires.leaves_kept (some c.wrong9.ensures.result_value c.in-Some.is)

pub returns-in-Some-wrong10 : goal.returns-in-Some-wrong10
unfolding answered spot_by broken9 broken10
returns-in-Some-wrong10 c =
    let nine-kept : broken9 c.args.file.policy.now ≡ false = none c.wrong9.ensures.result_value c.in_default.is in
    ap refused (c.at-in-Some-wrong10.ensures ∙ ap (λ (p : spots.Spot). record { number = 10; spot = p }) c.in-Some-wrong10.ensures.result_value)
    ∙ refused-10 _ c.requires.leaves_kept nine-kept (some c.wrong10.ensures.result_value c.in-Some-wrong10.is)

pub returns : goal.returns
unfolding answered broken9 broken10
returns c =
    let nine-kept : broken9 c.args.file.policy.now ≡ false = none c.wrong9.ensures.result_value c.in_default.is in
    all-kept _ c.requires.leaves_kept nine-kept (none c.wrong10.ensures.result_value c.in_default-wrong10.is) _ _ c.wrong9.ensures.regulated_from c.wrong9.ensures.effects_from
