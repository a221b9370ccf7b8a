-- `read_policy` meets its contract.
use mathlib.Core.Path.{sym}
use native.Mathlib.Omega.{arith}
use Prim.Native.Nat.{◌≤◌}
use mathlib.Core.List.{◌++◌}
use lib.ListN.{length, drop}
use lib.Seq.{length-take-le}
use Rattle.guardrun.proofs.EndLaws.{short-end, within}
use Rattle.guardrun.proofs.read_policy.Goals as goal

pub slice_bounds-read_full-end-2 : goal.slice_bounds-read_full-end-2
slice_bounds-read_full-end-2 g c = sym (length-take-le 2 c.args.policy.now (omega arith))

pub returns-then-front-lt2 : goal.returns-then-front-lt2
returns-then-front-lt2 g c = (short-end _ _ c.if-front-lt2.true, omega arith)

pub returns : goal.returns
returns g c =
    let h : c.policy_end-end.result ≤ length (c.read_full-front.new.room ++ drop 2 c.args.policy.now) = omega (arith, c.policy_end-end.ensures.2) in
    let n = within (c.read_full-front.new.room ++ drop 2 c.args.policy.now) c.read_full.new.room c.policy_end-end.result c.read_full.result c.policy_end-end.ensures.0 c.policy_end-end.ensures.1 h c.read_full.auto.room c.read_full.ensures.bound in
    (n, omega (arith, c.policy_end-end.ensures.2))
