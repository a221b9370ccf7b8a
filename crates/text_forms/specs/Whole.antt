-- Does a line say the whole record? As the code tests it, field by field.
use Rattle.std.specs.Prelude.{ℕ, Bool, false, ◌&&◌, ◌||◌, List, [], ◌∷◌, eqb, leb, get_or}
use Rattle.spec_policy.specs.Lists.{every}
use Rattle.spec_text.specs.Forms.{Sort, node, step, Fields, Slot, place, bound}

-- the line names the field at a place
unfoldable pub names : List Slot → ℕ → Bool
names [] i = false
names (p ∷ ps) i = eqb (place p) i || names ps i

-- "Fields not used are zero."
unfoldable pub named : List Slot → Fields → ℕ → Bool
named ps xs i = names ps i || eqb (get_or xs i 0) 0

-- of each field but the kind and the count
unfoldable pub whole : Sort → List Slot → Fields → Bool
unfolding named
whole node ps xs = named ps xs 1 && named ps xs 2 && named ps xs 4 && named ps xs 5
whole step ps xs = named ps xs 1 && named ps xs 2 && named ps xs 3 && named ps xs 4

unfoldable pub fit : List Slot → Fields → Bool
fit ps xs = every (λ p. leb (get_or xs (place p) 0) (bound p)) ps
