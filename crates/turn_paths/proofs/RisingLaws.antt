-- An insert's whole way, up and down again, from what each node on it does.
use Prim.Native.Nat.{ℕ}
use mathlib.Core.Path.{◌≡◌, sym, subst}
use mathlib.Core.Bool.{Bool, true, false}
use mathlib.Core.List.{List, [], ◌∷◌, ◌++◌, append_assoc}
use Rattle.actions.specs.Sets.{Action}
use Rattle.spec_policy.specs.Tree.{number_of}
use Rattle.spec_turns.specs.Status.{running, is_running, joined}
use Rattle.spec_turns.specs.Process.{Item, lets}
use Rattle.spec_turns.specs.Turn.{before, after}
use Rattle.turn_paths.specs.Memory.{Mem}
use Rattle.turn_paths.specs.Choices.{KeptBut, emits}
use Rattle.turn_paths.specs.Paths.{Feeder, done, stopped, Beside, Clear, Turned, Rose}
use Rattle.turn_paths.specs.Rising.{takes, Half, Skips, here, past, Rising, starts, passes, lets_on, Owes, nothing, first}
use Rattle.turn_paths.proofs.RiseLaws.{rose-out, rose-past}
use Rattle.turn_paths.proofs.FeedLaws.{half_in, half_out, rose-stop-out, fed, rose-stop-after, rose-on, rose-stop, rose-stop-before}

module _ {b : Action} {fs : List Feeder} {m₀ : Mem} (cl : Clear fs) where
  clear-on : {gs : List Feeder} {m : Mem} {xs : List Item} {ns : List ℕ} → Rising b fs m₀ gs m xs ns → Clear gs
  unfolding Clear
  clear-on starts = cl
  clear-on (passes p a) = (clear-on p).1
  clear-on (lets_on p a t e) = (clear-on p).1

  beside-on : {f : Feeder} {gs : List Feeder} {m : Mem} {xs : List Item} {ns : List ℕ} → Rising b fs m₀ (f ∷ gs) m xs ns → Beside f gs
  unfolding Clear
  beside-on p = (clear-on p).0

  -- once it is through above, the last node that let it on owes its phase after the verdict
  pub unwind : {gs : List Feeder} {m m' : Mem} {xs ys : List Item} {ns : List ℕ} {u : Bool} → Rising b fs m₀ gs m xs ns → Rose gs b m m' ys (done u)
      → Owes b fs m₀ m' (xs ++ ys) ns
  unwind starts h = nothing h
  unwind (passes {f} {gs} p a) h = unwind p (rose-past f gs (beside-on p) a h)
  unwind {m' = m'} {ys = ys} (lets_on {f = f} {gs = gs} {xs = xs} {ys = zs} {ns = ns} p a t e) h =
      subst (λ (l : List Item). Owes b fs m₀ m' l (f.number ∷ ns)) (sym (append_assoc xs zs ys)) (first p (half_out f gs (beside-on p) a t e h))

  -- a node further up was decided: nothing beneath it goes on
  pub unwind-stop : {gs : List Feeder} {m m' : Mem} {xs ys : List Item} {ns : List ℕ} {q : ℕ} → Rising b fs m₀ gs m xs ns → Rose gs b m m' ys (stopped q)
      → Rose fs b m₀ m' (xs ++ ys) (stopped q)
  unwind-stop starts h = h
  unwind-stop (passes {f} {gs} p a) h = unwind-stop p (rose-past f gs (beside-on p) a h)
  unwind-stop {m' = m'} {ys = ys} {q = q} (lets_on {f = f} {gs = gs} {xs = xs} {ys = zs} {ns = ns} p a t e) h =
      subst (λ (l : List Item). Rose fs b m₀ m' l (stopped q)) (sym (append_assoc xs zs ys)) (unwind-stop p (rose-stop-out f gs (beside-on p) a t e h))

  pub skip : {m : Mem} {hs gs : List Feeder} {xs : List Item} {ns : List ℕ} → Rising b fs m₀ hs m xs ns → Skips b m hs gs → Rising b fs m₀ gs m xs ns
  skip {m = m} p here = p
  skip {m = m} p (past a s) = skip {m = m} (passes p a) s

  -- past the last of them it is let out at the root
  pub lets-out : {gs : List Feeder} {m : Mem} {xs : List Item} {ns : List ℕ} → Rising b fs m₀ gs m xs ns → Skips b m gs []
      → Owes b fs m₀ m (xs ++ (lets b ∷ [])) ns
  lets-out {m = m} p s = unwind (skip p s) (rose-out b m)

  module _ {f : Feeder} {gs : List Feeder} {m m₁ : Mem} {xs ys : List Item} {ns : List ℕ} (p : Rising b fs m₀ (f ∷ gs) m xs ns) (a : takes f b m ≡ true) where
    pub given-stopped : {q : ℕ} → Turned gs f.right (before b) m m₁ ys (stopped q) → Rose fs b m₀ m₁ (xs ++ ys) (stopped q)
    given-stopped t = unwind-stop p (rose-stop-before f gs (beside-on p) a t)

    pub stays-in : {u : Bool} → Turned gs f.right (before b) m m₁ ys (done u) → emits f.join (m₁ (number_of f.right)).status u ≡ false
        → Owes b fs m₀ m₁ (xs ++ ys) (f.number ∷ ns)
    stays-in t e = first p (half_in f gs (beside-on p) a t e)

  -- ---- the first of those that owe

  module _ {f : Feeder} {gs : List Feeder} {m m₁ m₂ : Mem} {xs ys zs : List Item} {ns : List ℕ} (p : Rising b fs m₀ (f ∷ gs) m xs ns) (h : Half f gs b m m₁ ys) where
    pub after-stopped : {q : ℕ} → Turned gs f.right after m₁ m₂ zs (stopped q) → Rose fs b m₀ m₂ ((xs ++ ys) ++ zs) (stopped q)
    after-stopped {q} t =
        subst (λ (l : List Item). Rose fs b m₀ m₂ l (stopped q)) (sym (append_assoc xs ys zs)) (unwind-stop p (rose-stop-after f gs (beside-on p) h t))

    module _ {v : Bool} (t : Turned gs f.right after m₁ m₂ zs (done v)) where
      pub settled_on : is_running (joined f.join running (m₂ (number_of f.right)).status) ≡ true → Owes b fs m₀ m₂ ((xs ++ ys) ++ zs) ns
      settled_on e =
          subst (λ (l : List Item). Owes b fs m₀ m₂ l ns) (sym (append_assoc xs ys zs)) (unwind p (rose-on f gs (beside-on p) (fed f gs (beside-on p) h t) e))

      pub settled-stops : {m₃ : Mem} → KeptBut f.number m₂ m₃ → is_running (joined f.join running (m₂ (number_of f.right)).status) ≡ false
          → (m₃ f.number).status ≡ joined f.join running (m₂ (number_of f.right)).status → Rose fs b m₀ m₃ ((xs ++ ys) ++ zs) (stopped f.number)
      settled-stops {m₃} w e s =
          subst (λ (l : List Item). Rose fs b m₀ m₃ l (stopped f.number)) (sym (append_assoc xs ys zs))
          (unwind-stop p (rose-stop f gs (beside-on p) (fed f gs (beside-on p) h t) w e s))
