-- Laws of tables: what stands at a place of one, by one computation over the whole.
use Prim.Native.Nat.{ℕ, zero, suc, ◌+◌, ◌<◌}
use native.Mathlib.Omega.{arith}
use mathlib.Core.Path.{◌≡◌, refl, sym, ap, ◌∙◌}
use mathlib.Core.Bool.{Bool}
use mathlib.Core.List.{List, [], ◌∷◌, map}
use lib.Dec.{T}
use lib.ListN.{length, get_or}
use Rattle.spec_policy.specs.Lists.{every, listed}
use Rattle.spec_text.proofs.WordLaws.{every-listed}
use Rattle.spec_policy.proofs.ListLaws.{listed_at}

pub table_at : {A : Type 0} (f : ℕ → A) (n : ℕ) (xs : List A) → xs ≡ listed f 0 n → (d : A) (i : ℕ) → i < n → get_or xs i d ≡ f i
table_at {A} f n xs e d i h =
    let z : 0 + i ≡ i = omega arith in
    ap (λ (l : List A). get_or l i d) e ∙ listed_at f 0 n d i h ∙ ap f z

-- two tables that are the same, at one place
pub same_at : {A : Type 0} (f g : ℕ → A) (n : ℕ) → listed f 0 n ≡ listed g 0 n → (i : ℕ) → i < n → f i ≡ g i
same_at f g n e i h = sym (table_at f n (listed f 0 n) refl (f 0) i h) ∙ table_at g n (listed f 0 n) e (f 0) i h

-- a test of f 0, f 1, .., at one place
pub tested_at : (f : ℕ → Bool) (n : ℕ) → T (every f (listed (λ i. i) 0 n)) → (i : ℕ) → i < n → T (f i)
tested_at f n t i h = every-listed f (λ j. j) n t i h

-- two tables with a part that is the same, at one place
pub same_parts : {A B C : Type 0} (f : A → C) (g : B → C) (xs : List A) (ys : List B) → map f xs ≡ map g ys → (a : A) (b : B) (i : ℕ) → i < length ys
    → f (get_or xs i a) ≡ g (get_or ys i b)
same_parts f g xs [] e a b i h = absurd (omega arith)
same_parts f g [] (y ∷ ys) e a b i h = absurd (cc)
same_parts f g (x ∷ xs) (y ∷ ys) e a b zero h = cc
same_parts f g (x ∷ xs) (y ∷ ys) e a b (suc i) h = same_parts f g xs ys (cc) a b i (omega arith)
