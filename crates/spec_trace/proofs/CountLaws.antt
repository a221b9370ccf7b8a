-- Laws of counts.
use mathlib.Core.Path.{◌≡◌, refl, sym, ◌∙◌, ap}
use Prim.Native.Nat.{ℕ, ◌+◌, ◌<◌, ◌≤◌}
use mathlib.Core.Bool.{Bool, true, false}
use mathlib.Core.List.{List}
use lib.Dec.{ltb}
use lib.ListN.{length, get_or, set, length-set}
use borrow.Author.Tests.{eq-eqb, ne_eqb, lt-ltb, le-ltb}
use Rattle.spec_trace.specs.Counts.{most_count, more, counted}
use Rattle.spec_trace.specs.Tallies.{step_counts, step_counted, step_if}

pub counted-length : (xs : List ℕ) (i : ℕ) → length (counted xs i) ≡ length xs
unfolding counted
counted-length xs i = length-set xs i (more (get_or xs i 0))

length-by : (t : Bool) (xs ys : List ℕ) → length ys ≡ length xs → length {A = ℕ} (elim t [ true ↦ ys | false ↦ xs ]) ≡ length xs
length-by true xs ys e = e
length-by false xs ys e = refl

pub step-length : (xs : List ℕ) (i : ℕ) → length (step_counted xs i) ≡ length xs
unfolding step_counted
step-length xs i = length-by (ltb i step_counts) xs (counted xs i) (counted-length xs i)

pub more-at : (n : ℕ) → n ≡ most_count → n ≡ more n
unfolding more
more-at n e = ap (λ (t : Bool). elim t [ true ↦ n | false ↦ n + 1 ]) (sym (eq-eqb n most_count e))

pub more-below : (n : ℕ) → (n ≡ most_count → ⊥) → n + 1 ≡ more n
unfolding more
more-below n e = ap (λ (t : Bool). elim t [ true ↦ n | false ↦ n + 1 ]) (sym (ne_eqb n most_count e))

-- where steps are counted, below the last count and past it; and where they are not
pub step-in : (on : Bool) (xs : List ℕ) (i x : ℕ) → on ≡ true → i < step_counts → x ≡ more (get_or xs i 0) → set xs i x ≡ step_if on xs i
unfolding step_if step_counted counted
step-in on xs i x e h f =
    ap (set xs i) f ∙ ap (λ (t : Bool). elim t [ true ↦ counted xs i | false ↦ xs ]) (sym (lt-ltb i step_counts h)) ∙ ap (λ (t : Bool). step_if t xs i) (sym e)

pub step_past : (on : Bool) (xs : List ℕ) (i : ℕ) → on ≡ true → step_counts ≤ i → xs ≡ step_if on xs i
unfolding step_if step_counted
step_past on xs i e h = ap (λ (t : Bool). elim t [ true ↦ counted xs i | false ↦ xs ]) (sym (le-ltb i step_counts h)) ∙ ap (λ (t : Bool). step_if t xs i) (sym e)

pub step-not : (on : Bool) (xs : List ℕ) (i : ℕ) → on ≡ false → xs ≡ step_if on xs i
unfolding step_if
step-not on xs i e = ap (λ (t : Bool). step_if t xs i) (sym e)
