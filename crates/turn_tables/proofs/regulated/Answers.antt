-- `regulated` meets its contract: one step down the tree, by the kind.
use native.Mathlib.Omega.{arith}
use mathlib.Core.Path.{refl, ap, ◌∙◌}
use Rattle.turn_tables.specs.Tables.{set_at}
use Rattle.turn_tables.proofs.FileNodes.{room, node-in, kids, set-leaf, set-none, set_pair}
use Rattle.turn_tables.proofs.regulated.Goals as goal

pub view_kind-requires : goal.view_kind-requires
view_kind-requires c = node-in c.requires.passed.0 _ c.requires.passed.1

pub view_set-requires : goal.view_set-requires
view_set-requires c = node-in c.requires.passed.0 _ c.requires.passed.1

pub view_left-requires : goal.view_left-requires
view_left-requires c = node-in c.requires.passed.0 _ c.requires.passed.1

pub set_of-left-requires : goal.set_of-left-requires
set_of-left-requires c =
    let k = kids c.requires.passed.0 _ c.requires.passed.1 refl _ c.view_kind.ensures c.in-Pair.is in
    omega (arith, c.view_left.ensures, (room c.requires.passed.0).few)

pub view_right-requires : goal.view_right-requires
view_right-requires c = node-in c.requires.passed.0 _ c.requires.passed.1

pub set_of-right-requires : goal.set_of-right-requires
set_of-right-requires c =
    let k = kids c.requires.passed.0 _ c.requires.passed.1 refl _ c.view_kind.ensures c.in-Pair.is in
    omega (arith, c.view_right.ensures, (room c.requires.passed.0).few)

pub returns-in-Leaf : goal.returns-in-Leaf
returns-in-Leaf c = set-leaf c.requires.passed.0 _ c.requires.passed.1 refl _ c.view_kind.ensures c.in-Leaf.is c.view_set.ensures

pub returns-in-Pair : goal.returns-in-Pair
returns-in-Pair c =
    let k = kids c.requires.passed.0 _ c.requires.passed.1 refl _ c.view_kind.ensures c.in-Pair.is in
    set_pair c.requires.passed.0 _ c.requires.passed.1 refl _ c.view_kind.ensures c.in-Pair.is
    (c.set_of-left.ensures ∙ ap (set_at c.args.mem.now) (c.from.ensures ∙ c.view_left.ensures) ∙ c.requires.by_index _ k.left-later k.left_below)
    (c.set_of-right.ensures ∙ ap (set_at c.args.mem.now) (c.from-in-Pair.ensures ∙ c.view_right.ensures) ∙ c.requires.by_index _ k.right-later k.right-below)
    c.union.ensures

pub returns-in_default : goal.returns-in_default
returns-in_default c = set-none c.requires.passed.0 _ c.requires.passed.1 refl _ c.view_kind.ensures c.in_default.not-Leaf c.in_default.not-Pair
