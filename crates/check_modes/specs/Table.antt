-- The mode rule as a table, a row for each kind of step and a column for each mode, and what an entry says.
use Rattle.std.specs.Prelude.{ℕ, ◌+◌, ◌-◌, ◌*◌, ◌/◌, ◌%◌, ◌≡◌, Bool, List, [], ◌∷◌, ◌++◌, eqb, get_or}
use Rattle.spec_policy.specs.Lists.{one}
use Rattle.spec_policy.specs.Steps.{Step, is_next}
use Rattle.spec_check.specs.Modes.{Mode, idle, pending, closing, Mark, stands, leads}

unfoldable pub mode_number : Mode → ℕ
mode_number idle = 0
mode_number pending = 1
mode_number closing = 2

-- An entry is a number of three digits: 1 where the step may stand, the mode in which it reaches its first target and that of its
-- second. The mode of a target that the kind does not have, or does not reach from there, is 3.
abbrev entry : ℕ → ℕ → ℕ → ℕ
entry may first second = 16 * may + 4 * first + second

-- A row for each kind of step, from 1 on. `table-ruled` holds every entry to the rule.
unfoldable pub table : List (List ℕ)
table =
    (entry 1 1 2 ∷ entry 0 3 3 ∷ entry 0 3 3 ∷ [])  -- next
    ∷ (entry 0 3 3 ∷ entry 1 0 3 ∷ entry 0 3 3 ∷ [])  -- ok
    ∷ (entry 0 3 3 ∷ entry 1 0 3 ∷ entry 0 3 3 ∷ [])  -- sup
    ∷ (entry 1 0 3 ∷ entry 1 1 3 ∷ entry 1 2 3 ∷ [])  -- ins
    ∷ (entry 0 3 3 ∷ entry 1 1 1 ∷ entry 0 3 3 ∷ [])  -- acase
    ∷ (entry 1 0 0 ∷ entry 1 1 1 ∷ entry 1 2 2 ∷ [])  -- spend
    ∷ (entry 1 3 3 ∷ entry 1 3 3 ∷ entry 1 3 3 ∷ [])  -- end
    ∷ (entry 1 3 3 ∷ entry 1 3 3 ∷ entry 1 3 3 ∷ [])  -- halt
    ∷ []

unfoldable pub entry_at : ℕ → ℕ → ℕ
unfolding table
entry_at kind mode = get_or (get_or table (kind - 1) []) mode 0

-- the mode of the first target that is reached, and of the second; 3 where there is none
unfoldable pub first_mode : List Mark → ℕ
first_mode [] = 3
first_mode (k ∷ ks) = mode_number k.mode

unfoldable pub second_mode : List Mark → ℕ
second_mode [] = 3
second_mode (k ∷ ks) = first_mode ks

-- The rule's own entry, of a step in a mode.
unfoldable pub ruled : Step → Mode → ℕ
unfolding first_mode second_mode
ruled s m = entry (one (stands s m)) (first_mode (leads s m)) (second_mode (leads s m))

-- the mark of an offset in a mode by number: none in mode 3
unfoldable pub reaching : ℕ → ℕ → List Mark
reaching mode o =
    get_or ((record { mode = idle; offset = o } ∷ []) ∷ (record { mode = pending; offset = o } ∷ []) ∷ (record { mode = closing; offset = o } ∷ []) ∷ []) mode []

unfoldable pub may_stand : ℕ → Bool
may_stand e = eqb (e / 16) 1

-- the marks that an entry makes at a first and a second target
unfoldable pub led_by : ℕ → ℕ → ℕ → List Mark
unfolding reaching
led_by e first second = reaching (e / 4 % 4) first ++ reaching (e % 4) second

-- of a step in a mode, with its kind's row and its targets: its entry says what the rule says, and a next has row 1
pub record Tells (row first second : ℕ) (s : Step) (m : Mode) : Type 0 where
  pub may : stands s m ≡ may_stand (entry_at row (mode_number m))
  pub led : leads s m ≡ led_by (entry_at row (mode_number m)) first second
  pub next : is_next s ≡ eqb row 1
