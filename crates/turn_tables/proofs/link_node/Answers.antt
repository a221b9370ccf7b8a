-- `link_node` meets its contract.
use native.Mathlib.Omega.{arith}
use mathlib.Core.Path.{refl}
use Rattle.turn_sides.proofs.Nodes.{placed}
use Rattle.turn_tables.proofs.FileNodes.{room, node-in}
use Rattle.turn_tables.proofs.LinkLaws.{sides-later, none-entered, pair-at, pair-entered}
use Rattle.turn_tables.proofs.link_node.Goals as goal

pub view_kind-requires : goal.view_kind-requires
view_kind-requires c = node-in c.requires.0 _ c.requires.1

pub left_of-requires : goal.left_of-requires
left_of-requires c = placed _ c.requires.0 _ c.requires.1

pub right_of-requires : goal.right_of-requires
right_of-requires c = placed _ c.requires.0 _ c.requires.1

pub link_sides-requires : goal.link_sides-requires
link_sides-requires c =
    let q = sides-later c.requires.0 c.requires.1 (pair-at c.args.policy.now c.args.node refl _ c.view_kind.ensures c.in-Pair.is) in
    let few = (room c.requires.0).few in
    (omega (arith, c.requires.1), (omega (arith, c.left_of.ensures), omega (arith, c.right_of.ensures)))

pub returns-in-Pair : goal.returns-in-Pair
returns-in-Pair c =
    pair-entered c.args.policy.now c.args.node refl _ c.view_kind.ensures c.args.mem.now c.in-Pair.is c.left_of.ensures c.right_of.ensures c.link_sides.ensures

pub returns-in_default : goal.returns-in_default
returns-in_default c = none-entered c.args.policy.now c.args.node refl _ c.view_kind.ensures c.in_default.not-Pair
