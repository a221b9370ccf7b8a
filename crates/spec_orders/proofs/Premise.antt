-- The worked example for the third demand's premise, by computation.
use mathlib.Core.Path.{◌≡◌, refl, sym, ◌∙◌, ap, fun_ext}
use mathlib.Core.List.{List, [], ◌∷◌, ◌++◌}
use Rattle.actions.specs.Sets.{ActionSet}
use Rattle.spec_policy.specs.Tree.{Join}
use Rattle.spec_turns.specs.State.{State, left_of, right_of}
use Rattle.spec_turns.specs.Process.{Item, ran, lets, sups, accepts, suppresses, Out, Process, stop, does, both, outcome, trace, items}
use Rattle.spec_turns.specs.Turn.{Behaviour, closing, given, feed, sequential_work}
use Rattle.spec_orders.specs.Orders.{clear, acts, on_left, on_right, meet, Order, start, then}
use Prim.Native.Nat.{ℕ}
use native.Mathlib.Omega.{arith}
use Rattle.spec_orders.specs.Demand.{no_parallel, premise, OneOrder}
use Rattle.spec_orders.specs.Premise.{given_on, closed_with, inserting, only_first, left, right, policy, after_opening}
use Rattle.spec_orders.specs.Premise.{closing_items, left_side_first, right_side_first, left_part, closing_events, PremiseNeeded}

-- ---- the turn rules give on left side first

module _ (j : Join) (r : ActionSet) (side : Behaviour) (l : State) where
  given-append : (xs ys : List Item) (s : State) (k : State → Process)
      → given_on j r side l (xs ++ ys) s k ≡ given_on j r side l xs s (λ t. given_on j r side l ys t k)
  unfolding given_on
  given-append [] ys s k = refl
  given-append (ran i o ∷ xs) ys s k = ap (λ (p : Process). does (ran i o) p) (given-append xs ys s k)
  given-append (lets b ∷ xs) ys s k = ap (λ (f : State → Process). given j r side l b s f) (fun_ext (λ t. given-append xs ys t k))
  given-append (sups a ∷ xs) ys s k = ap (λ (p : Process). does (sups a) p) (given-append xs ys s k)
  given-append (accepts a ∷ xs) ys s k = ap (λ (p : Process). does (accepts a) p) (given-append xs ys s k)
  given-append (suppresses a ∷ xs) ys s k = ap (λ (p : Process). does (suppresses a) p) (given-append xs ys s k)

  pub whole-first : (p : Process) (s : State) (k : Out → State → Process)
      → feed j r side l p s k ≡ given_on j r side l (items (trace p)) s (k (outcome p))
  unfolding feed given_on items trace outcome
  whole-first (stop x) s k = refl
  whole-first (does (ran i o) p) s k = ap (λ (q : Process). does (ran i o) q) (whole-first p s k)
  whole-first (does (lets b) p) s k = ap (λ (f : State → Process). given j r side l b s f) (fun_ext (λ t. whole-first p t k))
  whole-first (does (sups a) p) s k = ap (λ (q : Process). does (sups a) q) (whole-first p s k)
  whole-first (does (accepts a) p) s k = ap (λ (q : Process). does (accepts a) q) (whole-first p s k)
  whole-first (does (suppresses a) p) s k = ap (λ (q : Process). does (suppresses a) q) (whole-first p s k)
  whole-first (both u v p q g) s k =
      let xs = items (trace p) in
      let ys = items (trace q) in
      let zs = items (trace (g (outcome p) (outcome q))) in
      let o = outcome (g (outcome p) (outcome q)) in
      whole-first p s (λ x t. feed j r side l q t (λ y t'. feed j r side l (g x y) t' k))
      ∙ ap (λ (f : State → Process). given_on j r side l xs s f) (fun_ext (λ t. whole-first q t (λ y t'. feed j r side l (g (outcome p) y) t' k)
      ∙ ap (λ (f : State → Process). given_on j r side l ys t f) (fun_ext (λ t'. whole-first (g (outcome p) (outcome q)) t' k))))
      ∙ sym (given-append (xs ++ ys) zs s (k o) ∙ given-append xs ys s (λ t. given_on j r side l zs t (k o)))

closes-so : (j : Join) (r : ActionSet) (first side : Behaviour) (s : State)
    → sequential_work j r first side closing s ≡ closed_with j r side s (items (trace (first closing (left_of s)))) (outcome (first closing (left_of s)))
unfolding sequential_work closed_with
closes-so j r first side s = whole-first j r side (left_of s) (first closing (left_of s)) (right_of s) _

-- ---- the policy

-- every definition that the example computes with
unfoldable opened : Unit {0}
unfolding Rattle.spec_turns.specs.Opened.opened Rattle.spec_check.specs.Opened.opened Rattle.spec_policy.specs.Opened.opened Rattle.actions.specs.Opened.opened
opened = tt

unfoldable example : Unit {0}
unfolding inserting only_first left right policy after_opening closing_items left_side_first right_side_first left_part
example = tt

unfoldable worked : Unit {0}
unfolding opened example clear no_parallel premise given_on closed_with closing_events
worked = tt

left-first : Order left_part left_side_first 9 (stop (outcome left_part))
unfolding worked
left-first =
    then (on_left acts tt) (then (on_left acts tt) (then (on_left acts tt) (then (on_left acts tt)
    (then (on_right acts tt) (then (on_right acts tt) (then (on_right acts tt) (then (on_right acts tt) (then meet start))))))))

right-first : Order left_part right_side_first 9 (stop (outcome left_part))
unfolding worked
right-first =
    then (on_right acts tt) (then (on_right acts tt) (then (on_right acts tt) (then (on_right acts tt)
    (then (on_left acts tt) (then (on_left acts tt) (then (on_left acts tt) (then (on_left acts tt) (then meet start))))))))

leaf-of : Item → ℕ
leaf-of (ran i o) = i
leaf-of (lets b) = 0
leaf-of (sups a) = 0
leaf-of (accepts a) = 0
leaf-of (suppresses a) = 0

first_leaf : List Item → ℕ
first_leaf [] = 0
first_leaf (i ∷ xs) = leaf-of i

more-orders : ¬ OneOrder left_part
unfolding worked OneOrder first_leaf leaf-of
more-orders h =
    let a : left_side_first ≡ items (trace left_part) = h left_side_first 9 (outcome left_part) left-first in
    let b : right_side_first ≡ items (trace left_part) = h right_side_first 9 (outcome left_part) right-first in
    let c : first_leaf left_side_first ≡ first_leaf right_side_first = ap first_leaf (a ∙ sym b) in
    omega (arith, c)

pub premise-needed : PremiseNeeded
unfolding worked
premise-needed = record {
  whole-first = whole-first;
  closes-so = closes-so;
  holds = refl;
  passed = refl;
  unmet = refl;
  left-first = left-first;
  right-first = right-first;
  more-orders = more-orders;
  rules-give = refl;
  lets-3 = refl;
  lets-6 = refl;
}
