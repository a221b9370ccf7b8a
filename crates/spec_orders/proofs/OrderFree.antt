-- Where the sides of every parallel node leave each other alone, all orders agree.
use Prim.Native.Nat.{ℕ}
use native.Mathlib.Omega.{arith}
use mathlib.Core.Path.{◌≡◌, refl, sym, ◌∙◌, ap, ap₂}
use mathlib.Core.Logic.{◌⊎◌, inl, inr}
use mathlib.Core.Bool.{Bool, false}
use mathlib.Core.List.{List, [], ◌++◌}
use lib.Dec.{T, eqb}
use Rattle.actions.specs.Sets.{ActionSet}
use Rattle.actions.proofs.Tests.{not-false}
use Rattle.spec_policy.specs.Tree.{Tree}
use Rattle.spec_turns.specs.Process.{Item, ran, lets, sups, accepts, suppresses, Out, Process, stop, does, both, items, outcome, trace}
use Rattle.spec_turns.proofs.Safe.{All, elsewhere, no_verdict, Spare, Safe}
use Rattle.spec_orders.specs.Orders.{Order, only, of_leaf, is_verdict, code_of, inserted, inserts_of, OrderFree}
use Rattle.spec_orders.proofs.Seen.{same-steps, tell, only-append, Lone, same-only}
use Rattle.spec_orders.proofs.Moves.{cost, all_keep, all-fall, all-formed, goes-on, safe-free, safe-order}
use Rattle.spec_orders.proofs.LeftFirst.{left-first}

-- ---- a test that keeps nothing of one side, wherever two sides are free

module _ (f : Item → Bool) where
  -- of a process whose items all pass g, and so fail f, f keeps nothing
  none_of : (g : Item → Bool) → ((i : Item) → T (g i) → f i ≡ false) → (p : Process) → All g p → only f (items (trace p)) ≡ []
  unfolding All outcome trace items only
  none_of g h (stop x) a = refl
  none_of g h (does i p) a = rw (h i a.0) (none_of g h p a.1)
  none_of g h (both l r p q k) a =
      only-append f (items (trace p) ++ items (trace q)) (items (trace (k (outcome p) (outcome q))))
      ∙ ap₂ (λ (x y : List Item). x ++ y)
      (only-append f (items (trace p)) (items (trace q)) ∙ ap₂ (λ (x y : List Item). x ++ y) (none_of g h p a.0) (none_of g h q a.1))
      (none_of g h (k (outcome p) (outcome q)) a.2)

  safe-lone : ((l r : ActionSet) (p q : Process) → Spare l r p q → (only f (items (trace p)) ≡ []) ⊎ (only f (items (trace q)) ≡ []))
      → (p : Process) → Safe p → Lone f (trace p)
  unfolding Safe Lone trace outcome
  safe-lone h (stop x) a = tt
  safe-lone h (does i p) a = safe-lone h p a
  safe-lone h (both l r p q g) a = (h l r p q a.0, safe-lone h p a.1, safe-lone h q a.2, safe-lone h (g (outcome p) (outcome q)) a.3)

-- no leaf is on both sides
elsewhere-not : (n : ℕ) (i : Item) → T (elsewhere n i) → of_leaf n i ≡ false
unfolding elsewhere of_leaf
elsewhere-not n (ran i o) h = not-false (eqb i n) h
elsewhere-not n (lets b) h = refl
elsewhere-not n (sups a) h = refl
elsewhere-not n (accepts a) h = refl
elsewhere-not n (suppresses a) h = refl

lone-leaf : (n : ℕ) (p : Process) → Safe p → Lone (of_leaf n) (trace p)
lone-leaf n p s = safe-lone (of_leaf n) (λ l r u v a. elim (a.leaves n) [
  | inl h ↦ inl (none_of (of_leaf n) (elsewhere n) (elsewhere-not n) u h)
  | inr h ↦ inr (none_of (of_leaf n) (elsewhere n) (elsewhere-not n) v h)
]) p s

-- the verdict is on neither side
verdict-not : (i : Item) → T (no_verdict i) → is_verdict i ≡ false
unfolding no_verdict is_verdict
verdict-not (ran i o) h = refl
verdict-not (lets b) h = refl
verdict-not (sups a) h = refl
verdict-not (accepts a) h = absurd h
verdict-not (suppresses a) h = absurd h

lone-verdict : (p : Process) → Safe p → Lone is_verdict (trace p)
lone-verdict p s = safe-lone is_verdict (λ l r u v a. inl (none_of is_verdict no_verdict verdict-not u a.no-verdict)) p s

-- ---- all together

module _ {p : Process} (safe : Safe p) {xs : List Item} {n : ℕ} {x : Out} (o : Order p xs n (stop x)) where
  same-leaf : (i : ℕ) → only (of_leaf i) xs ≡ only (of_leaf i) (items (trace p))
  same-leaf i = same-only (of_leaf i) (all-formed o) (lone-leaf i p safe)

pub order-free : (t : Tree) (p : Process) → Safe p → OrderFree t p
unfolding inserts_of outcome
order-free t p safe = record {
  most = cost p;
  ends = λ o. omega (arith, all-fall o);
  free = λ o. safe-free (safe-order o safe);
  goes-on = λ {p' = p'} o. goes-on p' (safe-free (safe-order o safe));
  same = λ o. sym (all_keep o);
  verdict = λ o. same-only is_verdict (all-formed o) (lone-verdict p safe);
  leaves = λ o i. same-leaf safe o i;
  inserts = λ o i. ap (λ (l : List Item). inserted (code_of t i) l) (same-leaf safe o i);
  formed = λ o. all-formed o;
  told = λ o. tell (all-formed o);
  steps = λ o. same-steps (all-formed o);
  moves = (left-first p safe).moves;
  left-first = (left-first p safe).order;
}
