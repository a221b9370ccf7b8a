-- What is known of the file once so many rules are found kept.
use Rattle.std.specs.Prelude.{ℕ, ◌≤◌, ◌≡◌, true, false, map, Result, Ok, Err}
use Rattle.spec_policy.specs.Bytes.{Bytes}
use Rattle.spec_policy.specs.Lists.{summed}
use Rattle.spec_policy.specs.Records.{nodes}
use Rattle.spec_policy.specs.Tree.{steps_owned}
use Rattle.spec_check.specs.Layout.{broken1, broken2, broken3, broken4}
use Rattle.spec_check.specs.Children.{broken5}
use Rattle.spec_check.specs.Targets.{broken6}
use Rattle.spec_check.specs.Modes.{broken7}
use Rattle.spec_check.specs.Possible.{broken8}
use Rattle.spec_check.specs.Check.{refused, check}
use Rattle.spec_check.specs.Passed.{fault_by}
use Rattle.check_layout.specs.Fits.{nodes_fit}
use Rattle.check_layout.specs.Frame.{Framed}
use Rattle.faults.specs.declared.Refusal.{Refusal}
use Rattle.faults.specs.Meaning.{number_of}

-- rules 1 to 3, with the file's counts
pub record FrontKept (file : Bytes) (n m : ℕ) : Type 0 where
  pub frame : Framed file n m
  pub one : broken1 file ≡ false
  pub two : broken2 file ≡ false
  pub three : broken3 file ≡ false

-- rules 1 to 8
pub record LeavesKept (file : Bytes) (n m : ℕ) : Type 0 where
  pub front : FrontKept file n m
  pub four : broken4 file ≡ false
  pub five : broken5 file ≡ false
  pub six : broken6 file ≡ false
  pub seven : broken7 file ≡ false
  pub eight : broken8 file ≡ false

-- What is known where the record is looked for that breaks a rule from 4 to 8: the file's counts; that the nodes keep rule 4; and from rule 7 on rule 6.
pub record Sought (file : Bytes) (n m rule : ℕ) : Type 0 where
  pub frame : Framed file n m
  pub low : 4 ≤ rule
  pub high : rule ≤ 8
  pub nodes-fit : nodes_fit file ≡ true
  pub six-kept : 7 ≤ rule → broken6 file ≡ false

-- a rule from 4 to 8 that the check tells of
pub record Told (file : Bytes) (n m rule : ℕ) : Type 0 where
  pub sought : Sought file n m rule
  pub answer : refused (fault_by file rule) ≡ check file

-- what is found before the leaves are walked through: rule 5 is kept, and the leaves own all steps; or the rule that the check tells of
abbrev pub TreeFound : Bytes → ℕ → ℕ → Result (Unit {0}) Refusal → Type 0
TreeFound file n m (Ok u) = (broken5 file ≡ false) × (summed (map steps_owned (nodes file)) ≡ m)
TreeFound file n m (Err rule) = Told file n m (number_of rule)
