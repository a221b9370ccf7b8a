-- `taker` meets its contract. Where the loop comes to, the nodes passed were not asked; the numbers fall.
use Prim.Native.Nat.{ℕ, ◌+◌, ◌≤◌}
use native.Mathlib.Omega.{arith}
use mathlib.Core.Path.{◌≡◌, sym, ap, ◌∙◌, subst}
use mathlib.Core.Bool.{Bool, true}
use borrow.Author.Tests.{not-true, not-false}
use lib.ListN.{get_or}
use Rattle.actions.specs.Sets.{Action, has}
use Rattle.spec_policy.specs.Bytes.{Bytes}
use Rattle.turn_paths.specs.Rising.{takes, Skips, here}
use Rattle.turn_paths.specs.Choices.{asked_in}
use Rattle.turn_memory.specs.Words.{Words, set_place, memory_of}
use Rattle.turn_memory.specs.Phases.{phase_of}
use Rattle.turn_sides.specs.Sides.{right_at, Sided}
use Rattle.turn_sides.proofs.Nodes.{sides, placed-here}
use Rattle.turn_tables.specs.Tables.{above_at, feeder_at, as_feeder, path_at}
use Rattle.turn_place.specs.Places.{Stands}
use Rattle.turn_place.proofs.LeafPlaces.{low}
use Rattle.actions.proofs.SetLaws.{has-low}
use Rattle.turn_place.proofs.Ways.{Up, sided-of, asked-takes, none_found, next_up, found, not-here}
use Rattle.turn_place.proofs.taker.Goals as goal

-- the node that was read: on the way up, with two sides
module _ {policy : Bytes} {ws : Words} {i p : ℕ} {b : Action} (inv : Stands policy ws p × ((p ≤ i) × Skips b (memory_of ws) (path_at policy ws i) (path_at policy ws p)))
    (e : has (above_at ws p) b ≡ true) {r : ℕ} (q : r ≡ feeder_at ws p) where
  up : Up policy ws p
  up = next_up inv.0 inv.1.0 inv.1.1 e

  sided : Sided policy r
  sided = subst (Sided policy) (sym q) (sided-of up.stands up.pair)

  takes-it : {x : ℕ} {v : Bool} → x ≡ right_at policy r → v ≡ asked_in (get_or ws (set_place + x) 0) (phase_of b) (memory_of ws x) → takes (as_feeder policy r) b (memory_of ws) ≡ v
  takes-it {x} {v} f g = asked-takes r b x inv.0.tabled (sides sided).right-below (has-low (above_at ws p) b e) f g

pub loop-node-init : goal.loop-node-init
loop-node-init c = (c.requires, (omega arith, here))

pub above_of-above-requires : goal.above_of-above-requires
above_of-above-requires c = omega (arith, low c.loop-node.invariant.0, low c.requires)

pub returns-then-not-has : goal.returns-then-not-has
returns-then-not-has c =
    none_found c.loop-node.invariant.0 c.loop-node.invariant.1.0 c.loop-node.invariant.1.1
    (ap (λ (s : ℕ). has s c.args.b) (sym c.above_of-above.ensures) ∙ sym c.has.ensures ∙ not-true _ c.if-not-has.true-raw)

pub feeder_of-at-requires : goal.feeder_of-at-requires
feeder_of-at-requires c = low c.loop-node.invariant.0

pub right_of-requires : goal.right_of-requires
right_of-requires c =
    placed-here (sided c.loop-node.invariant (ap (λ (s : ℕ). has s c.args.b) (sym c.above_of-above.ensures) ∙ sym c.has.ensures ∙ not-false _ c.if-not-has.false-raw)
    c.feeder_of-at.ensures)

pub is_asked-requires : goal.is_asked-requires
is_asked-requires c =
    let s = sides (sided c.loop-node.invariant (ap (λ (s : ℕ). has s c.args.b) (sym c.above_of-above.ensures) ∙ sym c.has.ensures ∙ not-false _ c.if-not-has.false-raw)
    c.feeder_of-at.ensures) in
    omega (arith, c.right_of.ensures, s.right-below, s.few)

pub returns-then-is_asked : goal.returns-then-is_asked
returns-then-is_asked c =
    let e = ap (λ (s : ℕ). has s c.args.b) (sym c.above_of-above.ensures) ∙ sym c.has.ensures ∙ not-false _ c.if-not-has.false-raw in
    found c.loop-node.invariant.0 c.loop-node.invariant.1.0 c.loop-node.invariant.1.1 e _ c.feeder_of-at.ensures
    (takes-it c.loop-node.invariant e c.feeder_of-at.ensures c.right_of.ensures c.is_asked.ensures ∙ c.if-is_asked.true)

pub loop-node-smaller : goal.loop-node-smaller
loop-node-smaller c =
    let u = up c.loop-node.invariant (ap (λ (s : ℕ). has s c.args.b) (sym c.above_of-above.ensures) ∙ sym c.has.ensures ∙ not-false _ c.if-not-has.false-raw)
    c.feeder_of-at.ensures in
    omega (arith, c.feeder_of-at.ensures, u.below)

pub loop-node-preserved : goal.loop-node-preserved
loop-node-preserved c =
    let e = ap (λ (s : ℕ). has s c.args.b) (sym c.above_of-above.ensures) ∙ sym c.has.ensures ∙ not-false _ c.if-not-has.false-raw in
    not-here c.loop-node.invariant.0 c.loop-node.invariant.1.0 c.loop-node.invariant.1.1 e _ c.feeder_of-at.ensures
    (takes-it c.loop-node.invariant e c.feeder_of-at.ensures c.right_of.ensures c.is_asked.ensures ∙ c.if-is_asked.false)
