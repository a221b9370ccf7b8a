-- What the check's two answers say of the rules: by the paper's numbers, whatever the order in which they are tried, and by that order.
use Rattle.std.specs.Prelude.{ℕ, ◌≤◌, ◌<◌, ◌≡◌, Bool, true, false, List, [], ◌∷◌, get_or}
use Rattle.spec_policy.specs.Bytes.{Bytes}
use Rattle.spec_policy.specs.Spots.{Spot, nowhere, on_record, Fault}
use Rattle.spec_check.specs.Layout.{broken1, broken2, broken3, wrong4, broken4}
use Rattle.spec_check.specs.Children.{wrong5, broken5}
use Rattle.spec_check.specs.Targets.{wrong6, broken6}
use Rattle.spec_check.specs.Modes.{wrong7, broken7}
use Rattle.spec_check.specs.Possible.{wrong8, broken8}
use Rattle.spec_check.specs.Interference.{wrong9, broken9}
use Rattle.spec_check.specs.Spread.{wrong10, broken10}
use Rattle.spec_check.specs.Check.{Rule, told_of}

-- A pass, as the code after the check asks for it: no rule is broken. `passed` and `passes-all` of proofs/Passed.
pub record Passed (file : Bytes) : Type 0 where
  pub kept1 : broken1 file ≡ false
  pub kept2 : broken2 file ≡ false
  pub kept3 : broken3 file ≡ false
  pub kept4 : broken4 file ≡ false
  pub kept5 : broken5 file ≡ false
  pub kept6 : broken6 file ≡ false
  pub kept7 : broken7 file ≡ false
  pub kept8 : broken8 file ≡ false
  pub kept9 : broken9 file ≡ false
  pub kept10 : broken10 file ≡ false

-- whether the file breaks the rule of this number; 0 and 11 on are no rules
unfoldable pub breaks : Bytes → ℕ → Bool
breaks file n =
    get_or (false
    ∷ broken1 file
    ∷ broken2 file
    ∷ broken3 file
    ∷ broken4 file
    ∷ broken5 file
    ∷ broken6 file
    ∷ broken7 file
    ∷ broken8 file
    ∷ broken9 file
    ∷ broken10 file
    ∷ []) n false

-- where the file breaks it: rules 1 to 3 have no spot
unfoldable pub spot_by : Bytes → ℕ → Spot
spot_by file n =
    get_or (nowhere
    ∷ nowhere
    ∷ nowhere
    ∷ nowhere
    ∷ wrong4 file
    ∷ wrong5 file
    ∷ wrong6 file
    ∷ wrong7 file
    ∷ wrong8 file
    ∷ wrong9 file
    ∷ wrong10 file
    ∷ []) n nowhere

-- what is told of it
abbrev pub fault_by : Bytes → ℕ → Fault
fault_by file n = record { number = n; spot = spot_by file n }

-- A refusal: "The lowest number that applies is given", with the spot of that rule. `refused-number` and `number-refused` of proofs/Passed: the check
-- refuses with f just where this holds.
pub record LowestBroken (file : Bytes) (f : Fault) : Type 0 where
  pub applies : breaks file f.number ≡ true
  pub lower-kept : (k : ℕ) → k < f.number → breaks file k ≡ false
  pub there : f.spot ≡ spot_by file f.number

-- The same by the order in which the rules are tried: f is told of a rule that is broken, and none that stands before it in the list is. `refused-lowest`
-- and `lowest-refused` of proofs/Passed.
pub data Lowest (file : Bytes) (f : Fault) : List Rule → Type 0 where
  here : {r : Rule} {rs : List Rule} → r.broken file ≡ true → told_of file r ≡ f → Lowest file f (r ∷ rs)
  after : {r : Rule} {rs : List Rule} → r.broken file ≡ false → Lowest file f rs → Lowest file f (r ∷ rs)

-- "Refusals 4 to 10 shall also carry a place". `refused-carries` of proofs/Passed: each of these has a spot, and no other refusal of the check has.
pub data Carries (f : Fault) : Type 0 where
  carries-none : f.number ≤ 3 → f.spot ≡ nowhere → Carries f
  carries-one : (p : ℕ) → 4 ≤ f.number → f.number ≤ 10 → f.spot ≡ on_record p → Carries f
