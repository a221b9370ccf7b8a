-- What a framed file gives: its counts, where its records lie, its list of nodes and the test of its steps by the two counts.
use Prim.Native.Nat.{ℕ, ◌+◌, ◌*◌, ◌≤◌, ◌<◌}
use native.Mathlib.Omega.{arith}
use mathlib.Core.Path.{◌≡◌, refl, sym, ap}
use mathlib.Core.Bool.{false}
use lib.ListN.{length}
use Rattle.spec_policy.specs.Bytes.{Bytes}
use Rattle.spec_policy.specs.Lists.{listed, every}
use Rattle.spec_policy.specs.Records.{node_size, node_count, step_count, node_at, node_place, step_place, nodes, step_records}
use Rattle.spec_check.specs.Layout.{step_fits, broken3, CountsFit}
use Rattle.spec_check.proofs.Rows.{counts-fit}
use Rattle.check_layout.specs.Frame.{Framed}
use Rattle.check_layout.specs.Fits.{steps_fit}

-- Rule 3 is enough: rules 1 and 2 say nothing of the counts.
pub framed : (file : Bytes) → broken3 file ≡ false → Framed file (node_count file) (step_count file)
unfolding step_place node_place
framed file three =
    let f : CountsFit file = counts-fit file three in
    record { nodes = refl; steps = refl; some-node = f.some-node; few-nodes = f.few-nodes; few-steps = f.few-steps; long = f.long }

pub node-place : (i : ℕ) → node_place i ≡ 6 + 16 * i
unfolding node_place
node-place i = refl

module _ {file : Bytes} {n m : ℕ} (f : Framed file n m) where
  pub node-inside : (i : ℕ) → i < n → node_place i + node_size ≤ length file
  unfolding node_place
  node-inside i h = omega arith

  pub step-place : (i : ℕ) → step_place file i ≡ 6 + 16 * n + 12 * i
  unfolding step_place node_place
  step-place i = omega arith

  pub node-list : nodes file ≡ listed (λ i. node_at file (6 + 16 * i)) 0 n
  unfolding nodes node_place
  node-list = ap (λ (k : ℕ). listed (λ i. node_at file (6 + 16 * i)) 0 k) (sym f.nodes)

  pub all-records : every step_fits (step_records file) ≡ steps_fit file (6 + 16 * n) m
  unfolding step_records step_place node_place steps_fit
  all-records = let e = sym f.nodes in let g = sym f.steps in λ j. steps_fit file (6 + 16 * e j) (g j)
