-- One of several statuses, as the code writes it.
use mathlib.Core.Path.{◌≡◌, refl}
use mathlib.Core.Bool.{Bool, true, false, ◌||◌}

or-one : (a : Bool) → a ≡ (a || false)
or-one true = refl
or-one false = refl

or-two : (a b : Bool) → (a || b) ≡ (a || (b || false))
or-two true b = refl
or-two false b = or-one b

pub or-three : (a b c : Bool) → (a || b || c) ≡ (a || (b || (c || false)))
or-three true b c = refl
or-three false b c = or-two b c
