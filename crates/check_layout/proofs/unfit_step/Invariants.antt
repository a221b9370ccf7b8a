use Prim.Native.Nat.{ℕ, ◌+◌, ◌*◌}
use mathlib.Core.Bool.{Bool}
use Rattle.spec_policy.specs.Bytes.{Bytes}
use Rattle.spec_policy.specs.Records.{StepRecord, step_record_at}
use Rattle.spec_check.specs.Layout.{step_fits}
use Rattle.spec_policy.proofs.FirstLoop.{Left}
use Rattle.check_layout.proofs.unfit_step.Given as goal

abbrev pub numbered : ℕ → StepRecord → Bool
numbered i r = step_fits r

abbrev pub record-of : Bytes → ℕ → ℕ → StepRecord
record-of file at i = step_record_at file (at + 12 * i)

abbrev pub invariant-loop-i : goal.invariant-loop-i
invariant-loop-i l = Left numbered (record-of l.file.policy.now l.at) l.file.n l.file.m l.i
