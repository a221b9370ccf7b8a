-- What is promised of the writer, in the words of its request. Proved in proofs/ReadBack and proofs/Again.
use Rattle.std.specs.Prelude.{ℕ, ◌≤◌, ◌<◌, ◌≡◌, false, length, take, drop}
use Rattle.actions.specs.Sets.{ActionSet}
use Rattle.spec_policy.specs.Bytes.{Bytes, put}
use Rattle.spec_policy.specs.Records.{nodes, step_records, node_bytes, step_bytes}
use Rattle.spec_policy.specs.Tree.{regulated, tree}
use Rattle.spec_policy.specs.Spots.{Fault, bare_fault}
use Rattle.spec_check.specs.Interference.{effects}
use Rattle.spec_check.specs.Check.{passes, refused, check}
use Rattle.spec_writer.specs.Writing.{written, wrote, Result, writes}
use Rattle.spec_writer.specs.Lent.{nodes_lent, step_records_lent, lendable, Lent}

-- "Whatever it writes is read back by the check as the same records": the first n bytes of the output. "Output bytes after the file
-- stay."
pub record ReadBack (lent_nodes lent_steps out : Bytes) (n : ℕ) (x : Result) : Type 0 where
  pub made : take n x.out ≡ written lent_nodes lent_steps
  pub size : n ≡ length (written lent_nodes lent_steps)
  pub after : drop n x.out ≡ drop n out
  pub passed : check (take n x.out) ≡ passes (regulated (tree (take n x.out))) (effects (tree (take n x.out)))
  pub same_nodes : nodes (take n x.out) ≡ nodes_lent lent_nodes
  pub same-steps : step_records (take n x.out) ≡ step_records_lent lent_steps
  pub node-bytes : node_bytes (take n x.out) ≡ lent_nodes
  pub step-bytes : step_bytes (take n x.out) ≡ lent_steps

-- "every file that the check passes is written again byte for byte from its own records", over any output with room for it
abbrev pub WrittenAgain : Bytes → Type 0
WrittenAgain made = (out : Bytes) → length made ≤ length out → writes (node_bytes made) (step_bytes made) out ≡ record { reply = wrote (length made); out = put out 0 made }

-- Why f was given: "the check's from 3 on (3 for a broken record too), and 15 when the lent output is shorter than the file, tried last".
-- 3 is given for what is lent alone, since the writer makes the length and the counts itself. From 4 to 10 the
-- fault is the check's, on the file that would be written: "Every caller passes the place on unchanged."
pub data Why (lent_nodes lent_steps out : Bytes) : Fault → Type 0 where
  unlent : lendable lent_nodes lent_steps ≡ false → Why lent_nodes lent_steps out (bare_fault 3)
  broken : {f : Fault} → Lent lent_nodes lent_steps → check (written lent_nodes lent_steps) ≡ refused f → 4 ≤ f.number → f.number ≤ 10
      → Why lent_nodes lent_steps out f
  short : {r e : ActionSet} → Lent lent_nodes lent_steps → check (written lent_nodes lent_steps) ≡ passes r e → length out < length (written lent_nodes lent_steps)
      → Why lent_nodes lent_steps out (bare_fault 15)
