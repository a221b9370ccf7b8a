-- `count_node` meets its contract: two numbers are counted once more, or one twice.
use Prim.Native.Nat.{ℕ, ◌+◌, ◌<◌}
use mathlib.Core.Path.{sym, ap, ◌∙◌}
use mathlib.Core.List.{List}
use native.Mathlib.Omega.{arith}
use lib.ListN.{length, get_or, length-set}
use Rattle.spec_policy.specs.Lists.{occurs}
use Rattle.spec_policy.specs.Records.{node_at}
use Rattle.check_children.specs.Pair.{pair_of}
use Rattle.check_children.proofs.Counted.{both-below, two-more}
use Rattle.check_children.proofs.count_node.Goals as goal

pub bounds-count-left : goal.bounds-count-left
unfolding pair_of
bounds-count-left c =
    let b = both-below c.args.n c.args.i (node_at c.args.policy.now c.args.at) c.in-Some.ensures (sym c.if-not-children_later.false ∙ c.children_later.ensures) in
    omega (arith, b.0, c.requires.n_in_bounds)

pub bounds-count-left-in-Some : goal.bounds-count-left-in-Some
unfolding pair_of
bounds-count-left-in-Some c =
    let b = both-below c.args.n c.args.i (node_at c.args.policy.now c.args.at) c.in-Some.ensures (sym c.if-not-children_later.false ∙ c.children_later.ensures) in
    omega (arith, b.0, c.requires.n_in_bounds)

pub bounds-count-right : goal.bounds-count-right
unfolding pair_of
bounds-count-right c =
    let b = both-below c.args.n c.args.i (node_at c.args.policy.now c.args.at) c.in-Some.ensures (sym c.if-not-children_later.false ∙ c.children_later.ensures) in
    omega (arith, length-set c.args.count.now c.in-Some.left (get_or c.args.count.now c.in-Some.left 0 + 1), b.1, c.requires.n_in_bounds)

pub bounds-count-right-in-Some : goal.bounds-count-right-in-Some
unfolding pair_of
bounds-count-right-in-Some c =
    let b = both-below c.args.n c.args.i (node_at c.args.policy.now c.args.at) c.in-Some.ensures (sym c.if-not-children_later.false ∙ c.children_later.ensures) in
    omega (arith, length-set c.args.count.now c.in-Some.left (get_or c.args.count.now c.in-Some.left 0 + 1), b.1, c.requires.n_in_bounds)

-- both children are counted
pub returns-in-Some-clause-k_after : goal.returns-in-Some-clause-k_after
unfolding pair_of occurs
returns-in-Some-clause-k_after c =
    let b = both-below c.args.n c.args.i (node_at c.args.policy.now c.args.at) c.in-Some.ensures (sym c.if-not-children_later.false ∙ c.children_later.ensures) in
    let l = c.in-Some.left in
    let r = c.in-Some.right in
    let left-inside : l < length c.args.count.now = omega (arith, b.0, c.requires.n_in_bounds) in
    let right-inside : r < length c.args.count.now = omega (arith, b.1, c.requires.n_in_bounds) in
    λ t k. omega (arith, two-more c.args.count.now l r k left-inside right-inside, ap (λ (xs : List ℕ). occurs k xs) c.in-Some.ensures)

pub returns-in_default-clause-k_after : goal.returns-in_default-clause-k_after
unfolding pair_of occurs
returns-in_default-clause-k_after c =
    λ t k. omega (arith, ap (λ (xs : List ℕ). occurs k xs) c.in_default.ensures)
