-- `node_sets` meets its contract, kind by kind.
use Prim.Native.Nat.{ℕ, ◌+◌, ◌≤◌, ◌<◌}
use native.Mathlib.Omega.{arith}
use mathlib.Core.Path.{◌≡◌, ap₂, ◌∙◌}
use lib.ListN.{length}
use Rattle.actions.specs.Sets.{EMPTY, union}
use Rattle.spec_policy.specs.Records.{node_size, node_at, node_place}
use Rattle.spec_policy.specs.Tree.{node_kind}
use Rattle.spec_policy.specs.Bytes.{Bytes}
use Rattle.check_layout.proofs.Frame.{node-inside}
use Rattle.file_records.specs.declared.Kind.{Kind}
use Rattle.file_records.specs.Kinds.{kind_of}
use Rattle.check_interference.specs.Sets.{Treed}
use Rattle.check_interference.proofs.TreeSets.{Read, leaf-regulated, leaf-affects, leaf_apart, sides, pair-regulated, pair-affects, pair-crossed, no-sets}
use Rattle.check_interference.proofs.node_sets.Goals as goal

inside : {file : Bytes} {n m i place : ℕ} → Treed file n m → i < n → place ≡ node_place i → place + node_size ≤ length file
inside {i = i} t h p = omega (arith, p, node-inside t.frame i h)

read : {file : Bytes} {n m i place : ℕ} {q : Kind} → Treed file n m → i < n → place ≡ node_place i → kind_of q ≡ node_kind (node_at file place).kind
    → Read file n m i place q
read t h p e = record { treed = t; below = h; begins = p; kind = e }

pub node_kind-requires : goal.node_kind-requires
node_kind-requires c = inside c.requires.treed c.requires.i_lt_n c.node_place-place.ensures

pub node_set-requires : goal.node_set-requires
node_set-requires c = inside c.requires.treed c.requires.i_lt_n c.node_place-place.ensures

pub node_left-requires : goal.node_left-requires
node_left-requires c = inside c.requires.treed c.requires.i_lt_n c.node_place-place.ensures

pub node_right-requires : goal.node_right-requires
node_right-requires c = inside c.requires.treed c.requires.i_lt_n c.node_place-place.ensures

pub set_at-requires-in-Pair : goal.set_at-requires-in-Pair
set_at-requires-in-Pair c =
    let f = c.requires.treed.frame in
    let k = sides (read c.requires.treed c.requires.i_lt_n c.node_place-place.ensures c.node_kind.ensures) c.in-Pair.is (c.from-left.ensures ∙ c.node_left.ensures) (c.from-right.ensures ∙ c.node_right.ensures) in
    omega (arith, c.requires.regulated_from.room)

pub set_at-requires-in-Pair-2 : goal.set_at-requires-in-Pair-2
set_at-requires-in-Pair-2 c =
    let f = c.requires.treed.frame in
    let k = sides (read c.requires.treed c.requires.i_lt_n c.node_place-place.ensures c.node_kind.ensures) c.in-Pair.is (c.from-left.ensures ∙ c.node_left.ensures) (c.from-right.ensures ∙ c.node_right.ensures) in
    omega (arith, c.requires.regulated_from.room)

pub set_at-requires-in-Pair-3 : goal.set_at-requires-in-Pair-3
set_at-requires-in-Pair-3 c =
    let f = c.requires.treed.frame in
    let k = sides (read c.requires.treed c.requires.i_lt_n c.node_place-place.ensures c.node_kind.ensures) c.in-Pair.is (c.from-left.ensures ∙ c.node_left.ensures) (c.from-right.ensures ∙ c.node_right.ensures) in
    omega (arith, c.requires.effects_from.room)

pub set_at-requires-in-Pair-4 : goal.set_at-requires-in-Pair-4
set_at-requires-in-Pair-4 c =
    let f = c.requires.treed.frame in
    let k = sides (read c.requires.treed c.requires.i_lt_n c.node_place-place.ensures c.node_kind.ensures) c.in-Pair.is (c.from-left.ensures ∙ c.node_left.ensures) (c.from-right.ensures ∙ c.node_right.ensures) in
    omega (arith, c.requires.effects_from.room)

pub interfere-requires : goal.interfere-requires
interfere-requires c =
    let f = c.requires.treed.frame in
    let k = sides (read c.requires.treed c.requires.i_lt_n c.node_place-place.ensures c.node_kind.ensures) c.in-Pair.is (c.from-left.ensures ∙ c.node_left.ensures) (c.from-right.ensures ∙ c.node_right.ensures) in
    omega (arith, c.requires.regulated_from.room, c.requires.effects_from.room)

pub returns-in-Leaf-clause-bits_value : goal.returns-in-Leaf-clause-bits_value
returns-in-Leaf-clause-bits_value c = leaf-regulated (read c.requires.treed c.requires.i_lt_n c.node_place-place.ensures c.node_kind.ensures) c.in-Leaf.is c.node_set.ensures

pub returns-in-Leaf-clause-bits_value_2 : goal.returns-in-Leaf-clause-bits_value_2
returns-in-Leaf-clause-bits_value_2 c = c.set_at.ensures ∙ leaf-affects (read c.requires.treed c.requires.i_lt_n c.node_place-place.ensures c.node_kind.ensures) c.in-Leaf.is c.requires.leaf_values

pub returns-in-Leaf-clause-crossed_value : goal.returns-in-Leaf-clause-crossed_value
returns-in-Leaf-clause-crossed_value c = leaf_apart (read c.requires.treed c.requires.i_lt_n c.node_place-place.ensures c.node_kind.ensures) c.in-Leaf.is

pub returns-in-Pair-clause-bits_value : goal.returns-in-Pair-clause-bits_value
returns-in-Pair-clause-bits_value c =
    c.union.ensures ∙ ap₂ union c.set_at-in-Pair.ensures c.set_at-in-Pair-2.ensures ∙ pair-regulated (read c.requires.treed c.requires.i_lt_n c.node_place-place.ensures c.node_kind.ensures) c.in-Pair.is (c.from-left.ensures ∙ c.node_left.ensures) (c.from-right.ensures ∙ c.node_right.ensures) c.requires.regulated_from

pub returns-in-Pair-clause-bits_value_2 : goal.returns-in-Pair-clause-bits_value_2
returns-in-Pair-clause-bits_value_2 c =
    c.union-in-Pair.ensures ∙ ap₂ union c.set_at-in-Pair-3.ensures c.set_at-in-Pair-4.ensures ∙ pair-affects (read c.requires.treed c.requires.i_lt_n c.node_place-place.ensures c.node_kind.ensures) c.in-Pair.is (c.from-left.ensures ∙ c.node_left.ensures) (c.from-right.ensures ∙ c.node_right.ensures) c.requires.effects_from

pub returns-in-Pair-clause-crossed_value : goal.returns-in-Pair-clause-crossed_value
returns-in-Pair-clause-crossed_value c =
    pair-crossed (read c.requires.treed c.requires.i_lt_n c.node_place-place.ensures c.node_kind.ensures) c.in-Pair.is (c.from-left.ensures ∙ c.node_left.ensures) (c.from-right.ensures ∙ c.node_right.ensures) c.requires.regulated_from c.requires.effects_from _ c.interfere.ensures

pub returns-in_default : goal.returns-in_default
unfolding EMPTY
returns-in_default c =
    let e = no-sets (read c.requires.treed c.requires.i_lt_n c.node_place-place.ensures c.node_kind.ensures) c.in_default.not-Leaf c.in_default.not-Pair in
    record { bits_value = e.0; bits_value_2 = e.1; crossed_value = e.2 }
