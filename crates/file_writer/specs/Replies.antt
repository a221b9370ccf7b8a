-- What the writer's result stands for: the length of the file, or the refusal.
use Rattle.std.specs.Prelude.{ℕ, ◌≡◌, Result, Ok, Err}
use Rattle.spec_policy.specs.Bytes.{Bytes}
use Rattle.spec_writer.specs.Writing.{Reply, wrote, refuses, Result as Given}
use Rattle.faults.specs.declared.Fault.{Fault}
use Rattle.faults.specs.Meaning.{fault_value}

unfoldable pub spoken : Reply → Result ℕ Fault
unfolding fault_value
spoken (wrote n) = Ok n
spoken (refuses f) = Err (fault_value f)

-- The call gave just this: its answer, and every byte of the lent output.
pub record Gave (x : Given) (r : Result ℕ Fault) (bytes : Bytes) : Type 0 where
  pub answer : r ≡ spoken x.reply
  pub out : bytes ≡ x.out
