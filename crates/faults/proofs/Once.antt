-- A value is the one that its meaning has, and a meaning that of its value.
use mathlib.Core.Path.{◌≡◌, refl, sym, ap, ◌∙◌}
use Rattle.std.specs.Prelude.{ℕ, Option, Some, None}
use Rattle.spec_policy.specs.Spots as spots
use Rattle.faults.specs.declared.Fault.{Fault}
use Rattle.faults.specs.Meaning.{spot_of, fault_of, spot_value, fault_value}

same_spot : (s : Option ℕ) → spot_value (spot_of s) ≡ s
unfolding spot_of spot_value
same_spot None = refl
same_spot (Some p) = refl

pub same-fault : (f : Fault) → fault_value (fault_of f) ≡ f
unfolding fault_of fault_value
same-fault f = ap (λ (s : Option ℕ). record { number = f.number; spot = s }) (same_spot f.spot)

same-meant : (s : spots.Spot) → spot_of (spot_value s) ≡ s
unfolding spot_of spot_value
same-meant spots.nowhere = refl
same-meant (spots.on_record p) = refl

pub same-meaning : (f : spots.Fault) → fault_of (fault_value f) ≡ f
unfolding fault_of fault_value
same-meaning f = ap (λ (s : spots.Spot). record { number = f.number; spot = s }) (same-meant f.spot)

pub value-means : (f : Fault) (g : spots.Fault) → fault_value g ≡ f → fault_of f ≡ g
value-means f g e = ap fault_of (sym e) ∙ same-meaning g
