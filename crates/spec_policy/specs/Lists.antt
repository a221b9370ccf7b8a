-- Lists: numbered, summed, tested whole.
use Rattle.std.specs.Prelude.{ℕ, zero, suc, ◌+◌, Bool, true, false, ◌&&◌, ◌||◌, List, [], ◌∷◌, eqb}

-- f i, f (i + 1), .. : n of them
unfoldable pub listed : {A : Type 0} → (ℕ → A) → ℕ → ℕ → List A
listed f i zero = []
listed f i (suc n) = f i ∷ listed f (suc i) n

unfoldable pub summed : List ℕ → ℕ
summed [] = 0
summed (x ∷ xs) = x + summed xs

unfoldable pub one : Bool → ℕ
one true = 1
one false = 0

-- how often n stands in the list
unfoldable pub occurs : ℕ → List ℕ → ℕ
unfolding one
occurs n [] = 0
occurs n (x ∷ xs) = one (eqb x n) + occurs n xs

unfoldable pub among : ℕ → List ℕ → Bool
among b [] = false
among b (x ∷ xs) = eqb b x || among b xs

-- every element passes the test
unfoldable pub every : {A : Type 0} → (A → Bool) → List A → Bool
every f [] = true
every f (x ∷ xs) = f x && every f xs

-- every element passes the test, with its number: the first is number i
unfoldable pub every_at : {A : Type 0} → (ℕ → A → Bool) → ℕ → List A → Bool
every_at f i [] = true
every_at f i (x ∷ xs) = f i x && every_at f (suc i) xs
