-- The file as it lies: its front, its node records and its step records.
use Rattle.std.specs.Prelude.{ℕ, ◌+◌, ◌*◌, List, take, drop}
use Rattle.spec_policy.specs.Bytes.{Bytes, number}
use Rattle.spec_policy.specs.Lists.{listed}

-- Every size of the file, named once.
abbrev pub front_size : ℕ
front_size = 6

abbrev pub node_size : ℕ
node_size = 16

abbrev pub step_size : ℕ
step_size = 12

abbrev pub most_nodes : ℕ
most_nodes = 31

abbrev pub most_steps : ℕ
most_steps = 512

-- of one leaf
abbrev pub most_leaf_steps : ℕ
most_leaf_steps = 64

-- of a whole file
abbrev pub most_file : ℕ
most_file = front_size + node_size * most_nodes + step_size * most_steps

-- "Bytes 0–1: length of the whole file."
unfoldable pub length_field : Bytes → ℕ
length_field file = number file 0 2

-- "Byte 2: version, 1."
unfoldable pub version_field : Bytes → ℕ
version_field file = number file 2 1

-- "Byte 3: nodes n, 1 to 31."
unfoldable pub node_count : Bytes → ℕ
node_count file = number file 3 1

-- "Bytes 4–5: steps m, 0 to 512."
unfoldable pub step_count : Bytes → ℕ
step_count file = number file 4 2

-- "Node: kind (1), left (1), right (1), step count (1), counter start (4), regulated set (8)."
pub record Node : Type 0 where
  pub kind : ℕ
  pub left : ℕ
  pub right : ℕ
  pub count : ℕ
  pub start : ℕ
  pub set : ℕ

unfoldable pub node_at : Bytes → ℕ → Node
node_at file at = record {
  kind = number file at 1;
  left = number file (at + 1) 1;
  right = number file (at + 2) 1;
  count = number file (at + 3) 1;
  start = number file (at + 4) 4;
  set = number file (at + 8) 8;
}

-- "Step: kind (1), action (1), first target (1), second target (1), operand (8)."
pub record StepRecord : Type 0 where
  pub kind : ℕ
  pub action : ℕ
  pub first : ℕ
  pub second : ℕ
  pub operand : ℕ

unfoldable pub step_record_at : Bytes → ℕ → StepRecord
step_record_at file at = record {
  kind = number file at 1;
  action = number file (at + 1) 1;
  first = number file (at + 2) 1;
  second = number file (at + 3) 1;
  operand = number file (at + 4) 8;
}

-- "Then n nodes of 16 bytes, then m steps of 12 bytes."
unfoldable pub node_place : ℕ → ℕ
node_place i = front_size + node_size * i

unfoldable pub step_place : Bytes → ℕ → ℕ
unfolding node_place
step_place file i = node_place (node_count file) + step_size * i

unfoldable pub nodes : Bytes → List Node
unfolding node_place
nodes file = listed (λ i. node_at file (node_place i)) 0 (node_count file)

unfoldable pub step_records : Bytes → List StepRecord
unfolding step_place
step_records file = listed (λ i. step_record_at file (step_place file i)) 0 (step_count file)

-- a file's own records, as they lie in it
unfoldable pub node_bytes : Bytes → Bytes
node_bytes file = take (node_size * node_count file) (drop front_size file)

unfoldable pub step_bytes : Bytes → Bytes
unfolding node_place
step_bytes file = take (step_size * step_count file) (drop (node_place (node_count file)) file)
