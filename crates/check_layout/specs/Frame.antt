-- What the rules from 4 on may assume of the file.
use Rattle.std.specs.Prelude.{ℕ, ◌+◌, ◌*◌, ◌≤◌, ◌≡◌, length}
use Rattle.spec_policy.specs.Bytes.{Bytes}
use Rattle.spec_policy.specs.Records.{most_nodes, most_steps, node_count, step_count}

-- rules 1 to 3 hold; n and m are the file's counts
pub record Framed (file : Bytes) (n m : ℕ) : Type 0 where
  pub nodes : n ≡ node_count file
  pub steps : m ≡ step_count file
  pub some-node : 1 ≤ n
  pub few-nodes : n ≤ most_nodes
  pub few-steps : m ≤ most_steps
  pub long : length file ≡ 6 + 16 * n + 12 * m
