-- The order of the turn rules, left side first, is one of the orders.
use Prim.Native.Nat.{ℕ, suc, ◌+◌}
use native.Mathlib.Omega.{arith}
use mathlib.Core.Path.{◌≡◌, sym, subst}
use mathlib.Core.List.{List, ◌++◌, append_assoc}
use Rattle.actions.specs.Sets.{ActionSet}
use Rattle.spec_turns.specs.Process.{Item, Out, Process, stop, does, both, items, outcome, trace}
use Rattle.spec_turns.proofs.Safe.{All, spares, Safe}
use Rattle.spec_orders.specs.Orders.{acts, on_left, on_right, meet, Order, start, then}
use Rattle.spec_orders.proofs.Moves.{all-move, move-clear}

-- one order after another
after : {p q r : Process} {xs ys : List Item} {n m : ℕ} → Order p xs n q → Order q ys m r → Order p (xs ++ ys) (n + m) r
after {q = q} {r = r} {ys = ys} {m = m} start b = let e : m ≡ 0 + m = omega arith in subst (λ (k : ℕ). Order q ys k r) e b
after {p = p} {r = r} {ys = ys} {m = m} (then {xs = xs} {ys = zs} {n = n} u o) b =
    let e : suc (n + m) ≡ suc n + m = omega arith in
    subst (λ (k : ℕ). Order p ((xs ++ zs) ++ ys) k r) e (subst (λ (l : List Item). Order p l (suc (n + m)) r) (sym (append_assoc xs zs ys)) (then u (after o b)))

module _ (l r : ActionSet) (g : Out → Out → Process) where
  in-left : {p p' : Process} {xs : List Item} {n : ℕ} (q : Process) → Order p xs n p' → All (spares r) p → Order (both l r p q g) xs n (both l r p' q g)
  in-left q start a = start
  in-left q (then m o) a = then (on_left m (move-clear r m a)) (in-left q o (all-move (spares r) m a))

  in-right : {q q' : Process} {xs : List Item} {n : ℕ} (p : Process) → Order q xs n q' → All (spares l) q → Order (both l r p q g) xs n (both l r p q' g)
  in-right p start a = start
  in-right p (then m o) a = then (on_right m (move-clear l m a)) (in-right p o (all-move (spares l) m a))

pub record Finishes (p : Process) : Type 0 where
  pub moves : ℕ
  pub order : Order p (items (trace p)) moves (stop (outcome p))

pub left-first : (p : Process) → Safe p → Finishes p
unfolding Safe items trace outcome
left-first (stop x) s = record { moves = 0; order = start }
left-first (does i p) s = let h = left-first p s in record { moves = suc h.moves; order = then acts h.order }
left-first (both l r p q g) s =
    let a = left-first p s.1 in
    let b = left-first q s.2 in
    let c = left-first (g (outcome p) (outcome q)) s.3 in
    record {
      moves = a.moves + b.moves + suc c.moves;
      order = after (after (in-left l r g q a.order s.0.left) (in-right l r g (stop (outcome p)) b.order s.0.right)) (then meet c.order);
    }
