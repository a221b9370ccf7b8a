-- Every order that was begun can be taken to its end.
use Prim.Native.Nat.{ℕ, zero, suc, ◌+◌, ◌≤◌}
use native.Mathlib.Omega.{arith}
use mathlib.Core.Logic.{◌⊎◌, inl, inr}
use mathlib.Core.List.{List, [], ◌∷◌, ◌++◌}
use Rattle.spec_policy.specs.Tree.{Tree}
use Rattle.spec_turns.specs.Process.{Item, Out, Process, stop}
use Rattle.spec_orders.specs.Orders.{Move, Order, start, then, Stuck, Stopped, stopped, OrderFree}
use Rattle.spec_orders.specs.Runs.{Ends}

-- an order with a move more
record More (p : Process) (n : ℕ) (p'' : Process) : Type 0 where
  seen : List Item
  order : Order p seen (suc n) p''

move-more : {p p' p'' : Process} {xs ys : List Item} {n : ℕ} → Order p xs n p' → Move p' ys p'' → More p n p''
move-more start m = record { seen = _; order = then m start }
move-more (then k o) m = let r = move-more o m in record { seen = _; order = then k r.order }

module _ {t : Tree} {p : Process} (free : OrderFree t p) where
  there : {q : Process} → ¬ Stuck q → Stopped q → Ends q
  there f stopped = record { free = f; rest = []; moves = 0; out = _; order = start }

  -- it has stopped, or a move leads on
  either : {q : Process} → ¬ Stuck q → Stopped q ⊎ ((ys : List Item) × (q' : Process) × Move q ys q')
      → ((ys : List Item) (q' : Process) → Move q ys q' → Ends q') → Ends q
  either f (inl h) k = there f h
  either f (inr m) k = let r = k m.0 m.1 m.2 in record { free = f; rest = _; moves = _; out = r.out; order = then m.2 r.order }

  -- No order has more than `most` moves, so that what is left of it falls with each.
  to_end : (fuel : ℕ) {xs : List Item} {n : ℕ} {p' : Process} → Order p xs n p' → free.most ≤ n + fuel → Ends p'
  to_end zero o h = either (free.free o) (free.goes-on o) (λ ys q' m. absurd (omega (arith, h, free.ends (move-more o m).order)))
  to_end (suc fuel) o h = either (free.free o) (free.goes-on o) (λ ys q' m. to_end fuel (move-more o m).order (omega (arith, h)))

  pub completes : {xs : List Item} {n : ℕ} {p' : Process} → Order p xs n p' → Ends p'
  completes o = to_end free.most o (omega arith)
