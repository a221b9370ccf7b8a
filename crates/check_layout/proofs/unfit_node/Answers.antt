-- `unfit_node` meets its contract: the loop carries along what is left of the search.

use native.Mathlib.Omega.{arith}
use Prim.Native.Nat.{ℕ}
use mathlib.Core.Path.{◌≡◌, sym, ap, ◌∙◌}
use mathlib.Core.Bool.{Bool}
use Rattle.spec_policy.specs.Bytes.{Bytes}
use Rattle.spec_policy.specs.Lists.{listed}
use Rattle.spec_policy.specs.Records.{node_at, node_place, node_count, nodes}
use Rattle.spec_policy.specs.Spots.{first_off}
use Rattle.spec_policy.proofs.FirstLoop.{all_left, one_less, one_found, none_left}
use Rattle.faults.specs.Meaning.{spot_of}
use Rattle.check_layout.specs.Fits.{unfit_node}
use Rattle.check_layout.proofs.unfit_node.Invariants.{test, numbered, node_of}
use Rattle.check_layout.proofs.unfit_node.Goals as goal

-- the test at i is the call's answer
tested : (file : Bytes) (i at : ℕ) (b : Bool) → at ≡ node_place i → b ≡ test (node_at file at) → test (node_of file i) ≡ b
tested file i at b p q = ap (λ (a : ℕ). test (node_at file a)) (sym p) ∙ sym q

-- the file's nodes are the n that the loop runs over
all-nodes : (file : Bytes) (n : ℕ) → n ≡ node_count file → first_off numbered 0 (listed (node_of file) 0 n) ≡ unfit_node file
unfolding unfit_node nodes
all-nodes file n e = ap (λ (k : ℕ). first_off numbered 0 (listed (node_of file) 0 k)) e

pub loop-i-init : goal.loop-i-init
loop-i-init c = all_left numbered (node_of _) 0 _

pub node_fits-requires : goal.node_fits-requires
unfolding node_place
node_fits-requires c = omega (arith, c.node_place.ensures)

pub returns-then-not-node_fits : goal.returns-then-not-node_fits
returns-then-not-node_fits c =
    c.on_record.ensures
    ∙ one_found numbered (node_of _) 0 _ c.loop-i.i c.loop-i.i (omega arith) (omega arith) c.loop-i.invariant (tested _ _ _ _ c.node_place.ensures c.node_fits.ensures ∙ c.if-not-node_fits.true)
    ∙ all-nodes _ _ c.requires.0

pub loop-i-preserved : goal.loop-i-preserved
loop-i-preserved c =
    one_less numbered (node_of _) 0 _ c.loop-i.i (omega arith) c.loop-i.invariant (tested _ _ _ _ c.node_place.ensures c.node_fits.ensures ∙ c.if-not-node_fits.false)

pub returns : goal.returns
unfolding spot_of
returns c = none_left numbered (node_of _) 0 _ c.loop-i.i (omega arith) c.loop-i.invariant ∙ all-nodes _ _ c.requires.0
