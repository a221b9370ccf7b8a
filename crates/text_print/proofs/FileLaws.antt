-- The records of a file whose counts are to be believed, as code that has the whole file lends them, and how many they are.
use Prim.Native.Nat.{ℕ, ◌-◌, ◌*◌, ◌≤◌}
use native.Mathlib.Omega.{arith}
use mathlib.Core.Path.{◌≡◌, ap, ap₂}
use lib.ListN.{length, take, drop, length-take}
use Rattle.actions.specs.Sets.{ActionSet}
use Rattle.spec_policy.specs.Bytes.{Bytes, Small}
use Rattle.spec_policy.specs.Records.{node_count, step_count, node_place, step_place, node_bytes, step_bytes}
use Rattle.spec_policy.proofs.ByteLaws.{small-take, small-drop}
use Rattle.spec_check.specs.Layout.{CountsFit}
use Rattle.spec_check.specs.Check.{passes, check}
use Rattle.spec_check.proofs.Passed.{passed}
use Rattle.spec_check.proofs.Rows.{counts-fit}

pub pass_fits : {file : Bytes} {r e : ActionSet} → check file ≡ passes r e → CountsFit file
pass_fits {file} {r} {e} h = counts-fit file (passed file r e h).kept3

-- the records lie behind the front: `at` is where the steps' begin
module _ (file : Bytes) (fit : CountsFit file) where
  pub has-front : 6 ≤ length file
  unfolding step_place node_place
  has-front = omega (arith, fit.long)

  pub few-nodes : (n : ℕ) → n ≡ node_count file → n ≤ 255
  few-nodes n e = omega (arith, fit.few-nodes)

  pub nodes-few : length (node_bytes file) ≤ 496
  unfolding node_bytes
  nodes-few = simp length-take (omega (arith, fit.few-nodes))

  pub steps-few : length (step_bytes file) ≤ 6144
  unfolding step_bytes
  steps-few = simp length-take (omega (arith, fit.few-steps))

  module _ (at : ℕ) (e : at ≡ node_place (node_count file)) where
    pub after_front : 6 ≤ at
    unfolding node_place
    after_front = omega (arith, e)

    pub in-file : at ≤ length file
    unfolding step_place node_place
    in-file = omega (arith, e, fit.long)

    pub nodes-are : take (at - 6) (drop 6 file) ≡ node_bytes file
    unfolding node_bytes node_place
    nodes-are = let n : at - 6 ≡ 16 * node_count file = omega (arith, e) in ap (λ (k : ℕ). take k (drop 6 file)) n

    pub steps-are : take (length file - at) (drop at file) ≡ step_bytes file
    unfolding step_bytes step_place node_place
    steps-are =
        let m : length file - at ≡ 12 * step_count file = omega (arith, e, fit.long) in
        ap₂ (λ (k l : ℕ). take k (drop l file)) m e

module _ (file : Bytes) (small : Small file) where
  pub nodes-small : Small (node_bytes file)
  unfolding node_bytes
  nodes-small = small-take (16 * node_count file) (drop 6 file) (small-drop 6 file small)

  pub steps-small : Small (step_bytes file)
  unfolding step_bytes
  steps-small = small-take (12 * step_count file) (drop (node_place (node_count file)) file) (small-drop (node_place (node_count file)) file small)
