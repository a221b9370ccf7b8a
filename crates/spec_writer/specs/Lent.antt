-- The records in two lent buffers and in a file, and buffers of which rule 3 is kept.
use Rattle.std.specs.Prelude.{◌*◌, ◌≤◌, ◌≡◌, Bool, ◌&&◌, List, leb, length}
use Rattle.spec_policy.specs.Bytes.{Bytes}
use Rattle.spec_policy.specs.Lists.{listed}
use Rattle.spec_policy.specs.Records.{node_size, step_size, most_nodes, most_steps, Node, StepRecord, node_at, step_record_at}
use Rattle.spec_writer.specs.Writing.{holds, whole}

-- the records that a buffer spells
unfoldable pub nodes_lent : Bytes → List Node
nodes_lent bs = listed (λ i. node_at bs (node_size * i)) 0 (holds node_size bs)

unfoldable pub step_records_lent : Bytes → List StepRecord
step_records_lent bs = listed (λ i. step_record_at bs (step_size * i)) 0 (holds step_size bs)

-- what the code tries before it lays a file
unfoldable pub lendable : Bytes → Bytes → Bool
lendable nodes steps =
    whole node_size nodes && whole step_size steps
    && (leb 1 (holds node_size nodes) && leb (holds node_size nodes) most_nodes && leb (holds step_size steps) most_steps)

-- and what it says
pub record Lent (nodes steps : Bytes) : Type 0 where
  pub node-bytes : length nodes ≡ node_size * holds node_size nodes
  pub step-bytes : length steps ≡ step_size * holds step_size steps
  pub some-node : 1 ≤ holds node_size nodes
  pub few-nodes : holds node_size nodes ≤ most_nodes
  pub few-steps : holds step_size steps ≤ most_steps
