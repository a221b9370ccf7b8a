-- `write_call` is safe.
use Prim.Native.Nat.{◌+◌, ◌-◌, ◌≤◌}
use mathlib.Core.Path.{sym}
use native.Mathlib.Omega.{arith}
use lib.ListN.{length}
use lib.Seq.{length-take-le}
use Rattle.trials.proofs.write_call.Goals as goal

pub slice_bounds-write_all-end-3 : goal.slice_bounds-write_all-end-3
slice_bounds-write_all-end-3 g c =
    let h : c.args.parts.state - (c.args.parts.policy + 2) ≤ length c.call_answer-bytes.new.state = omega (arith, c.call_answer-bytes.auto.state) in
    sym (length-take-le _ _ h)

pub slice_bounds-write_all-end-5 : goal.slice_bounds-write_all-end-5
slice_bounds-write_all-end-5 g c =
    let h : c.args.parts.events - (c.args.parts.state + 2) ≤ length c.call_answer-bytes.new.events = omega (arith, c.call_answer-bytes.auto.events) in
    sym (length-take-le _ _ h)
