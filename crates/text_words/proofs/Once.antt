-- What was read is known by its meaning.
use mathlib.Core.Path.{◌≡◌, refl, sym, ap, ◌∙◌}
use Rattle.std.specs.Prelude.{Option, Some, None}
use Rattle.std.proofs.Math.Option as math
use Rattle.text_words.specs.Scanned.{value_of}

value : {A : Type 0} → math.Option A → Option A
value (math.some n) = Some n
value math.none = None

value-back : {A : Type 0} (v : Option A) → value (value_of v) ≡ v
unfolding value_of value
value-back (Some n) = refl
value-back None = refl

pub one_value : {A : Type 0} (a b : Option A) → value_of a ≡ value_of b → a ≡ b
one_value a b e = sym (value-back a) ∙ ap value e ∙ value-back b
