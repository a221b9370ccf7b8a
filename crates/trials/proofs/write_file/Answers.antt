-- `write_file` is safe.
use Prim.Native.Nat.{◌+◌, ◌-◌, ◌≤◌}
use mathlib.Core.Path.{sym}
use native.Mathlib.Omega.{arith}
use lib.ListN.{length}
use lib.Seq.{length-take-le}
use Rattle.trials.proofs.write_file.Goals as goal

pub slice_bounds-write_all-end-3 : goal.slice_bounds-write_all-end-3
slice_bounds-write_all-end-3 g c =
    let h : c.args.parts.events - (c.args.parts.state + 2) ≤ length c.file_answer-bytes.new.out = omega (arith, c.file_answer-bytes.auto.out) in
    sym (length-take-le _ _ h)
