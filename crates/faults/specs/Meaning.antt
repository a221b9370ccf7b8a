-- What the code's option, struct and enum stand for.
use Rattle.std.specs.Prelude.{ℕ, ◌+◌, ◌*◌, Option, Some, None}
use Rattle.spec_policy.specs.Spots as spots
use Rattle.faults.specs.declared.Fault.{Fault}
use Rattle.faults.specs.declared.Refusal.{Refusal}
use Rattle.faults.specs.declared.Refusal.TheVariants as refusals

unfoldable pub spot_of : Option ℕ → spots.Spot
spot_of None = spots.nowhere
spot_of (Some p) = spots.on_record p

unfoldable pub fault_of : Fault → spots.Fault
unfolding spot_of
fault_of f = record { number = f.number; spot = spot_of f.spot }

-- And which value a meaning has: an answer is said to be this value, not only to mean it.
unfoldable pub spot_value : spots.Spot → Option ℕ
spot_value spots.nowhere = None
spot_value (spots.on_record p) = Some p

unfoldable pub fault_value : spots.Fault → Fault
unfolding spot_value
fault_value f = record { number = f.number; spot = spot_value f.spot }

-- A spot as one number, for who has no enum: 0 where there is none, else the record's number and one.
unfoldable pub spot_code : spots.Spot → ℕ
spot_code spots.nowhere = 0
spot_code (spots.on_record p) = p + 1

-- A refusal as one word, which the libraries for C return: its number in the highest byte, and in the rest the record that breaks the rule, counted from 1;
-- 0 where there is none.
abbrev pub fault_word : spots.Fault → ℕ
fault_word f = 16777216 * f.number + spot_code f.spot

-- "Refusals": the numbers of document 01, and 15 of document 02.
abbrev pub number_of : Refusal → ℕ
number_of refusals.Length = 1
number_of refusals.Version = 2
number_of refusals.Counts = 3
number_of refusals.Fields = 4
number_of refusals.Children = 5
number_of refusals.Targets = 6
number_of refusals.Modes = 7
number_of refusals.Branches = 8
number_of refusals.Interference = 9
number_of refusals.Spread = 10
number_of refusals.Buffers = 11
number_of refusals.State = 12
number_of refusals.Action = 13
number_of refusals.Halted = 14
number_of refusals.Room = 15
