-- What a move does to a process: the outcome stays, the moves left fall by one, what is seen is formed from the trace, and a
-- process whose sides leave each other alone stays so.
use Prim.Native.Nat.{ℕ, suc, ◌+◌}
use native.Mathlib.Omega.{arith}
use mathlib.Core.Path.{◌≡◌, refl, sym, ◌∙◌, ap, subst}
use mathlib.Core.Logic.{◌⊎◌, inl, inr}
use mathlib.Core.Bool.{Bool, true, false, not}
use mathlib.Core.List.{List, [], ◌∷◌, ◌++◌, append_assoc}
use lib.Dec.{T, T_not}
use Rattle.actions.specs.Sets.{ActionSet}
use Rattle.actions.proofs.Tests.{and_intro}
use Rattle.spec_turns.specs.Process.{Item, Out, Process, stop, does, both, touches, Trace, two, outcome, trace}
use Rattle.spec_turns.proofs.Safe.{All, spares, elsewhere, no_verdict, Spare, Safe}
use Rattle.spec_orders.specs.Orders.{clear, Move, acts, on_left, on_right, meet, Order, start, then, Stuck, left_blocked, right_blocked, in_left, in_right}
use Rattle.spec_orders.specs.Orders.{Stopped, stopped, Mixed, nil, Formed, formed-none, formed-one, formed-two}
use Rattle.spec_orders.proofs.Seen.{mixed-left, mixed-right}

-- ---- the outcome, and how many moves are left

pub keeps : {p p' : Process} {xs : List Item} → Move p xs p' → outcome p ≡ outcome p'
unfolding outcome
keeps acts = refl
keeps (on_left {q = q} {g = g} m c) = ap (λ (o : Out). outcome (g o (outcome q))) (keeps m)
keeps (on_right {p = p} {g = g} m c) = ap (λ (o : Out). outcome (g (outcome p) o)) (keeps m)
keeps meet = refl

unfoldable pub cost : Process → ℕ
unfolding outcome
cost (stop x) = 0
cost (does i p) = suc (cost p)
cost (both l r p q g) = suc (cost p + cost q + cost (g (outcome p) (outcome q)))

falls : {p p' : Process} {xs : List Item} → Move p xs p' → cost p ≡ suc (cost p')
unfolding cost outcome
falls acts = refl
falls (on_left {p = p} {p' = p'} {q = q} {g = g} m c) =
    let e : cost (g (outcome p) (outcome q)) ≡ cost (g (outcome p') (outcome q)) = ap (λ (o : Out). cost (g o (outcome q))) (keeps m) in
    omega (arith, falls m)
falls (on_right {p = p} {q = q} {q' = q'} {g = g} m c) =
    let e : cost (g (outcome p) (outcome q)) ≡ cost (g (outcome p) (outcome q')) = ap (λ (o : Out). cost (g (outcome p) o)) (keeps m) in
    omega (arith, falls m)
falls meet = omega arith

pub all_keep : {p p' : Process} {xs : List Item} {n : ℕ} → Order p xs n p' → outcome p ≡ outcome p'
all_keep start = refl
all_keep (then m o) = keeps m ∙ all_keep o

pub all-fall : {p p' : Process} {xs : List Item} {n : ℕ} → Order p xs n p' → cost p ≡ n + cost p'
all-fall start = omega arith
all-fall (then m o) = omega (arith, falls m, all-fall o)

-- ---- what is seen is formed from the trace

-- a trace of two sides, taken apart
record Parts (s t u : Trace) (ys : List Item) : Type 0 where
  us : List Item
  vs : List Item
  zs : List Item
  ws : List Item
  left : Formed s us
  right : Formed t vs
  mixed : Mixed us vs zs
  rest : Formed u ws
  whole : ys ≡ zs ++ ws

parts : {s t u : Trace} {ys : List Item} → Formed (two s t u) ys → Parts s t u ys
parts (formed-two {xs = us} {ys = vs} {zs = zs} {ws = ws} a b m c) =
    record { us = us; vs = vs; zs = zs; ws = ws; left = a; right = b; mixed = m; rest = c; whole = refl }

before-move : {p p' : Process} {xs : List Item} (ys : List Item) → Move p xs p' → Formed (trace p') ys → Formed (trace p) (xs ++ ys)
unfolding trace outcome
before-move ys acts f = formed-one f
before-move ys (on_left {p = p} {p' = p'} {q = q} {g = g} {xs = xs} m c) f =
    let h = parts f in
    subst (λ (l : List Item). Formed (two (trace p) (trace q) (trace (g (outcome p) (outcome q)))) l)
    (append_assoc xs h.zs h.ws ∙ ap (λ (l : List Item). xs ++ l) (sym h.whole))
    (formed-two (before-move h.us m h.left) h.right (mixed-left xs h.mixed)
    (subst (λ (o : Out). Formed (trace (g o (outcome q))) h.ws) (sym (keeps m)) h.rest))
before-move ys (on_right {p = p} {q = q} {q' = q'} {g = g} {xs = xs} m c) f =
    let h = parts f in
    subst (λ (l : List Item). Formed (two (trace p) (trace q) (trace (g (outcome p) (outcome q)))) l)
    (append_assoc xs h.zs h.ws ∙ ap (λ (l : List Item). xs ++ l) (sym h.whole))
    (formed-two h.left (before-move h.vs m h.right) (mixed-right xs h.mixed)
    (subst (λ (o : Out). Formed (trace (g (outcome p) o)) h.ws) (sym (keeps m)) h.rest))
before-move ys meet f = formed-two formed-none formed-none nil f

before-order : {p p' : Process} {xs : List Item} {n : ℕ} → Order p xs n p' → Formed (trace p') [] → Formed (trace p) xs
before-order start f = f
before-order (then {ys = ys} m o) f = before-move ys m (before-order o f)

pub all-formed : {p : Process} {x : Out} {xs : List Item} {n : ℕ} → Order p xs n (stop x) → Formed (trace p) xs
unfolding trace
all-formed o = before-order o formed-none

-- ---- a process has stopped, can go on, or is stuck

data Next (p : Process) : Type 0 where
  has-stopped : Stopped p → Next p
  can-go : (ys : List Item) (p' : Process) → Move p ys p' → Next p
  is_stuck : Stuck p → Next p

module _ (l r : ActionSet) (g : Out → Out → Process) where
  if-left : {p p' : Process} (q : Process) (xs : List Item) → Move p xs p' → (b : Bool) → clear r xs ≡ b → Next (both l r p q g)
  if-left {p' = p'} q xs m true e = can-go xs (both l r p' q g) (on_left m (subst T (sym e) tt))
  if-left q xs m false e = is_stuck (left_blocked m (subst (λ (b : Bool). T (not b)) (sym e) tt))

  if-right : {q q' : Process} (p : Process) (xs : List Item) → Move q xs q' → (b : Bool) → clear l xs ≡ b → Next (both l r p q g)
  if-right {q' = q'} p xs m true e = can-go xs (both l r p q' g) (on_right m (subst T (sym e) tt))
  if-right p xs m false e = is_stuck (right_blocked m (subst (λ (b : Bool). T (not b)) (sym e) tt))

  next_both : {p q : Process} → Next p → Next q → Next (both l r p q g)
  next_both {q = q} (can-go xs p' m) n = if-left q xs m (clear r xs) refl
  next_both (is_stuck a) n = is_stuck (in_left a)
  next_both {p = p} (has-stopped a) (can-go xs q' m) = if-right p xs m (clear l xs) refl
  next_both (has-stopped a) (is_stuck b) = is_stuck (in_right b)
  next_both (has-stopped (stopped {x = x})) (has-stopped (stopped {x = y})) = can-go [] (g x y) meet

progress : (p : Process) → Next p
progress (stop x) = has-stopped stopped
progress (does i p) = can-go (i ∷ []) p acts
progress (both l r p q g) = next_both l r g (progress p) (progress q)

go_on : {p : Process} → Next p → ¬ Stuck p → Stopped p ⊎ ((ys : List Item) × (p'' : Process) × Move p ys p'')
go_on (has-stopped a) h = inl a
go_on (can-go ys p' m) h = inr (ys, p', m)
go_on (is_stuck a) h = absurd (h a)

pub goes-on : (p : Process) → ¬ Stuck p → Stopped p ⊎ ((ys : List Item) × (p'' : Process) × Move p ys p'')
goes-on p h = go_on (progress p) h

-- ---- the sides of every parallel node leave each other alone, after a move as before it

module _ (f : Item → Bool) where
  unfoldable every : List Item → Type 0
  every [] = Unit {0}
  every (i ∷ xs) = T (f i) × every xs

  pub all-move : {p p' : Process} {xs : List Item} → Move p xs p' → All f p → All f p'
  unfolding All outcome
  all-move acts a = a.1
  all-move (on_left {q = q} {g = g} m c) a = (all-move m a.0, a.1, subst (λ (o : Out). All f (g o (outcome q))) (keeps m) a.2)
  all-move (on_right {p = p} {g = g} m c) a = (a.0, all-move m a.1, subst (λ (o : Out). All f (g (outcome p) o)) (keeps m) a.2)
  all-move meet a = a.2

  seen-move : {p p' : Process} {xs : List Item} → Move p xs p' → All f p → every xs
  unfolding All every
  seen-move acts a = (a.0, tt)
  seen-move (on_left m c) a = seen-move m a.0
  seen-move (on_right m c) a = seen-move m a.1
  seen-move meet a = tt

every-clear : (r : ActionSet) (xs : List Item) → every (spares r) xs → T (clear r xs)
unfolding every clear spares
every-clear r [] a = tt
every-clear r (i ∷ xs) a = and_intro (not (touches r i)) (clear r xs) a.0 (every-clear r xs a.1)

pub move-clear : (r : ActionSet) {p p' : Process} {xs : List Item} → Move p xs p' → All (spares r) p → T (clear r xs)
move-clear r {xs = xs} m a = every-clear r xs (seen-move (spares r) m a)

spare-left : {l r : ActionSet} {p p' q : Process} {xs : List Item} → Move p xs p' → Spare l r p q → Spare l r p' q
spare-left {r = r} m a = record {
  left = all-move (spares r) m a.left;
  right = a.right;
  leaves = λ n. elim (a.leaves n) [ inl u ↦ inl (all-move (elsewhere n) m u) | inr u ↦ inr u ];
  no-verdict = all-move no_verdict m a.no-verdict;
}

spare-right : {l r : ActionSet} {p q q' : Process} {xs : List Item} → Move q xs q' → Spare l r p q → Spare l r p q'
spare-right {l = l} m a = record {
  left = a.left;
  right = all-move (spares l) m a.right;
  leaves = λ n. elim (a.leaves n) [ inl u ↦ inl u | inr u ↦ inr (all-move (elsewhere n) m u) ];
  no-verdict = a.no-verdict;
}

safe-move : {p p' : Process} {xs : List Item} → Move p xs p' → Safe p → Safe p'
unfolding Safe outcome
safe-move acts a = a
safe-move (on_left {q = q} {g = g} m c) a = (spare-left m a.0, safe-move m a.1, a.2, subst (λ (o : Out). Safe (g o (outcome q))) (keeps m) a.3)
safe-move (on_right {p = p} {g = g} m c) a = (spare-right m a.0, a.1, safe-move m a.2, subst (λ (o : Out). Safe (g (outcome p) o)) (keeps m) a.3)
safe-move meet a = a.3

pub safe-free : {p : Process} → Safe p → ¬ Stuck p
unfolding Safe
safe-free a (left_blocked {r = r} {xs = xs} m b) = T_not (clear r xs) b (move-clear r m a.0.left)
safe-free a (right_blocked {l = l} {xs = xs} m b) = T_not (clear l xs) b (move-clear l m a.0.right)
safe-free a (in_left b) = safe-free a.1 b
safe-free a (in_right b) = safe-free a.2 b

pub safe-order : {p p' : Process} {xs : List Item} {n : ℕ} → Order p xs n p' → Safe p → Safe p'
safe-order start a = a
safe-order (then m o) a = safe-order o (safe-move m a)
