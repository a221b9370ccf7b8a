-- `rest` meets its contract.
use native.Mathlib.Omega.{arith}
use mathlib.Core.Path.{refl, ap, ◌∙◌}
use Rattle.spec_turns.specs.Status.{status_number}
use Rattle.turn_tables.proofs.FileNodes.{room, node-in, kids}
use Rattle.turn_memory.proofs.CellLaws.{status-read}
use Rattle.turn_rest.proofs.RestLaws.{rests-leaf, rests-pair, rests-other}
use Rattle.turn_rest.proofs.tidy.rest.Goals as goal

pub status_at-requires : goal.status_at-requires
status_at-requires c = let r = room c.requires.0.0 in omega (arith, c.requires.0.1)

pub view_kind-requires : goal.view_kind-requires
view_kind-requires c = node-in c.requires.0.0 _ c.requires.0.1

pub leaf_word-requires : goal.leaf_word-requires
leaf_word-requires c =
    let r = room c.requires.0.0 in (
      omega (arith, c.requires.0.1),
      c.standing-status.ensures ∙ ap status_number (status-read _ _ (omega (arith, c.requires.0.1)) c.status_at.ensures),
    )

pub drop_sides-requires : goal.drop_sides-requires
drop_sides-requires c =
    let r = room c.requires.0.0 in
    let k = kids c.requires.0.0 _ c.requires.0.1 refl _ c.view_kind.ensures c.in-Pair.is in
    record { node_bound = node-in c.requires.0.0 _ c.requires.0.1; fact = (omega (arith, k.left_below), omega (arith, k.right-below)) }

pub returns-in-Leaf : goal.returns-in-Leaf
returns-in-Leaf c = rests-leaf _ _ refl _ c.view_kind.ensures _ c.in-Leaf.is c.leaf_word.ensures

pub returns-in-Pair : goal.returns-in-Pair
returns-in-Pair c =
    let r = room c.requires.0.0 in
    rests-pair _ _ refl _ c.view_kind.ensures _
    (c.standing-status.ensures ∙ ap status_number (status-read _ _ (omega (arith, c.requires.0.1)) c.status_at.ensures))
    c.cell.ensures c.in-Pair.is c.drop_sides.ensures

pub returns-in_default : goal.returns-in_default
returns-in_default c =
    let r = room c.requires.0.0 in
    rests-other _ _ refl _ c.view_kind.ensures _
    (c.standing-status.ensures ∙ ap status_number (status-read _ _ (omega (arith, c.requires.0.1)) c.status_at.ensures))
    c.cell-in_default.ensures c.in_default.not-Leaf c.in_default.not-Pair
