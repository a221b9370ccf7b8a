-- Tests in a row as the code runs them: a test that fails ends them.
use mathlib.Core.Path.{◌≡◌, sym, ap, ◌∙◌}
use mathlib.Core.Bool.{Bool, true, false, ◌&&◌}
use Rattle.actions.proofs.Tests.{true-not-false}

-- ---- `a && b` as the code runs it, where a stands for p and b for q

pub and-go : (p q a b : Bool) → a ≡ p → a ≡ true → b ≡ q → b ≡ (p && q)
and-go true q a b e t f = f
and-go false q a b e t f = true-not-false t e

pub and-stop : (p q a : Bool) → a ≡ p → a ≡ false → a ≡ (p && q)
and-stop true q a e t = true-not-false e t
and-stop false q a e t = t

-- ---- a loop: w is the whole, r what is left of it, b the test that was made of p, the first of it, and s what is left then

pub rest-on : (w r p s b : Bool) → w ≡ r → r ≡ (p && s) → b ≡ p → b ≡ true → w ≡ s
rest-on w r p s b e f g t = e ∙ f ∙ ap (λ (q : Bool). q && s) (sym g ∙ t)

pub rest-off : (w r p s b : Bool) → w ≡ r → r ≡ (p && s) → b ≡ p → b ≡ false → false ≡ w
rest-off w r p s b e f g t = sym (e ∙ f ∙ ap (λ (q : Bool). q && s) (sym g ∙ t))
