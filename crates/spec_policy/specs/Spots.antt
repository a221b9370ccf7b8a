-- What a refusal tells: its number, and with it, where it has one, "a place: the lowest-numbered node or step that breaks that rule". (02, request 03)
use Rattle.std.specs.Prelude.{ℕ, suc, ◌+◌, Bool, true, false, List, [], ◌∷◌}

-- What 02 calls the place of a refusal is called its spot here, since a place is a position in bytes everywhere else in this project. A spot is the
-- number of a record, that is, of a node or of a step; or there is none, which is not the same as record 0.
pub data Spot : Type 0 where
  nowhere : Spot
  on_record : (number : ℕ) → Spot

unfoldable pub somewhere : Spot → Bool
somewhere nowhere = false
somewhere (on_record p) = true

-- the first spot, or the second where the first is none
unfoldable pub or_else : Spot → Spot → Spot
or_else nowhere q = q
or_else (on_record p) q = on_record p

-- the spot counted from b on
unfoldable pub counted_from : ℕ → Spot → Spot
counted_from b nowhere = nowhere
counted_from b (on_record o) = on_record (b + o)

-- the lowest-numbered element that fails the test; the first of the list is number i
unfoldable pub first_off : {A : Type 0} → (ℕ → A → Bool) → ℕ → List A → Spot
first_off f i [] = nowhere
first_off f i (x ∷ xs) = elim (f i x) [ true ↦ first_off f (suc i) xs | false ↦ on_record i ]

-- A refusal's number with its spot. "Refusals 4 to 10 shall also carry a place"; the others carry none.
pub record Fault : Type 0 where
  pub number : ℕ
  pub spot : Spot

-- `refused N`
abbrev pub bare_fault : ℕ → Fault
bare_fault n = record { number = n; spot = nowhere }

-- `refused N at P`
abbrev pub fault_on : ℕ → ℕ → Fault
fault_on n p = record { number = n; spot = on_record p }
