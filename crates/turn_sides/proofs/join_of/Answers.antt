-- `join_of` meets its contract.
use mathlib.Core.Path.{sym, ap, ◌∙◌}
use Rattle.turn_sides.specs.Sides.{kind_at, join_at, join_of_kind}
use Rattle.file_records.specs.Kinds as kinds
use Rattle.file_records.specs.declared.Kind.{Kind}
use Rattle.turn_sides.proofs.join_of.Goals as goal

pub returns-in-Leaf : goal.returns-in-Leaf
unfolding join_at kind_at join_of_kind kinds.kind_of kinds.join_of
returns-in-Leaf c = ap (λ (x : Kind). join_of_kind (kinds.kind_of x)) (sym c.in-Leaf.is) ∙ ap join_of_kind c.view_kind-kind.ensures

pub returns-in-Trivial : goal.returns-in-Trivial
unfolding join_at kind_at join_of_kind kinds.kind_of kinds.join_of
returns-in-Trivial c = ap (λ (x : Kind). join_of_kind (kinds.kind_of x)) (sym c.in-Trivial.is) ∙ ap join_of_kind c.view_kind-kind.ensures

pub returns-in-Unsatisfiable : goal.returns-in-Unsatisfiable
unfolding join_at kind_at join_of_kind kinds.kind_of kinds.join_of
returns-in-Unsatisfiable c = ap (λ (x : Kind). join_of_kind (kinds.kind_of x)) (sym c.in-Unsatisfiable.is) ∙ ap join_of_kind c.view_kind-kind.ensures

pub returns-in-Pair : goal.returns-in-Pair
unfolding join_at kind_at join_of_kind kinds.kind_of kinds.join_of
returns-in-Pair c = ap (λ (x : Kind). join_of_kind (kinds.kind_of x)) (sym c.in-Pair.is) ∙ ap join_of_kind c.view_kind-kind.ensures

pub returns-in-Unknown : goal.returns-in-Unknown
unfolding join_at kind_at join_of_kind kinds.kind_of kinds.join_of
returns-in-Unknown c = ap (λ (x : Kind). join_of_kind (kinds.kind_of x)) (sym c.in-Unknown.is) ∙ ap join_of_kind c.view_kind-kind.ensures
