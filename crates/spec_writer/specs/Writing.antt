-- "Write the policy file." One definition from all that the writer is given to all that it gives.
use Rattle.std.specs.Prelude.{ℕ, ◌/◌, ◌%◌, Bool, true, false, ◌&&◌, List, ◌++◌, eqb, ltb, length, drop}
use Rattle.spec_policy.specs.Bytes.{Bytes, put}
use Rattle.spec_policy.specs.Records.{node_size, step_size}
use Rattle.spec_policy.specs.Parts.{file}
use Rattle.spec_policy.specs.Spots.{Fault, bare_fault}
use Rattle.spec_check.specs.Check.{Rule, rules, Answer, passes, refused, tried}

-- how many records of a size a lent buffer holds
unfoldable pub holds : ℕ → Bytes → ℕ
holds size bs = length bs / size

-- "Given the nodes and steps as two lent buffers of records laid out as in the file, produce the file with version, counts and length."
unfoldable pub written : Bytes → Bytes → Bytes
written nodes steps = file (holds node_size nodes) (holds step_size steps) (nodes ++ steps)

-- no record of the buffer is broken off
unfoldable pub whole : ℕ → Bytes → Bool
whole size bs = eqb (length bs % size) 0

-- "Refusals: the check's from 3 on"
unfoldable pub from_three : List Rule
from_three = drop 2 rules

-- the length of the file, or a refusal, its spot that in the file which would be written: "Every caller passes the place on unchanged."
pub data Reply : Type 0 where
  wrote : (size : ℕ) → Reply
  refuses : Fault → Reply

-- What a call gives: its answer, and all that the lent output holds afterwards.
pub record Result : Type 0 where
  pub reply : Reply
  pub out : Bytes

-- a refusal writes nothing
unfoldable pub refusal : Fault → Bytes → Result
refusal f out = record { reply = refuses f; out = out }

-- "and 15 when the lent output is shorter than the file, tried last". "Output bytes after the file stay."
unfoldable pub laid : Bytes → Bytes → Result
laid made out = elim (ltb (length out) (length made)) [
  | true ↦ refusal (bare_fault 15) out
  | false ↦ record { reply = wrote (length made); out = put out 0 made }
]

-- what follows the check's answer about the file
unfoldable pub after : Answer → Bytes → Bytes → Result
after (passes r e) made out = laid made out
after (refused f) made out = refusal f out

-- "(3 for a broken record too)". nodes, steps, output
unfoldable pub writes : Bytes → Bytes → Bytes → Result
writes nodes steps out = elim (whole node_size nodes && whole step_size steps) [
  | true ↦ after (tried from_three (written nodes steps)) (written nodes steps) out
  | false ↦ refusal (bare_fault 3) out
]
