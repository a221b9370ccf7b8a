-- The check: "Each rule is tried over the whole file."
use Rattle.std.specs.Prelude.{ℕ, Bool, true, false, List, [], ◌∷◌}
use Rattle.actions.specs.Sets.{ActionSet}
use Rattle.spec_policy.specs.Bytes.{Bytes}
use Rattle.spec_policy.specs.Spots.{Spot, nowhere, Fault}
use Rattle.spec_policy.specs.Tree.{regulated, tree}
use Rattle.spec_check.specs.Layout.{broken1, broken2, broken3, wrong4, broken4}
use Rattle.spec_check.specs.Children.{wrong5, broken5}
use Rattle.spec_check.specs.Targets.{wrong6, broken6}
use Rattle.spec_check.specs.Modes.{wrong7, broken7}
use Rattle.spec_check.specs.Possible.{wrong8, broken8}
use Rattle.spec_check.specs.Interference.{effects, wrong9, broken9}
use Rattle.spec_check.specs.Spread.{wrong10, broken10}

-- A rule's number, whether the file breaks it, and where: "Refusals 4 to 10 shall also carry a place".
pub record Rule : Type 0 where
  pub number : ℕ
  pub broken : Bytes → Bool
  pub spot : Bytes → Spot

-- what is told of a rule that the file breaks
abbrev pub told_of : Bytes → Rule → Fault
told_of file r = record { number = r.number; spot = r.spot file }

-- the order in which the rules are tried
unfoldable pub rules : List Rule
rules =
    record { number = 1; broken = broken1; spot = λ file. nowhere }
    ∷ record { number = 2; broken = broken2; spot = λ file. nowhere }
    ∷ record { number = 3; broken = broken3; spot = λ file. nowhere }
    ∷ record { number = 4; broken = broken4; spot = wrong4 }
    ∷ record { number = 5; broken = broken5; spot = wrong5 }
    ∷ record { number = 6; broken = broken6; spot = wrong6 }
    ∷ record { number = 7; broken = broken7; spot = wrong7 }
    ∷ record { number = 8; broken = broken8; spot = wrong8 }
    ∷ record { number = 9; broken = broken9; spot = wrong9 }
    ∷ record { number = 10; broken = broken10; spot = wrong10 }
    ∷ []

-- "The check's answer carries either the root's two sets or a refusal number", the number with its spot.
pub data Answer : Type 0 where
  passes : (regulated effect : ActionSet) → Answer
  refused : Fault → Answer

-- "The lowest number that applies is given." A rule is tried only on a file that breaks none before it.
unfoldable pub tried : List Rule → Bytes → Answer
tried [] file = passes (regulated (tree file)) (effects (tree file))
tried (r ∷ rs) file = elim (r.broken file) [ true ↦ refused (told_of file r) | false ↦ tried rs file ]

unfoldable pub check : Bytes → Answer
check file = tried rules file
