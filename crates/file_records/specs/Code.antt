-- A leaf's steps by where they lie in the file.
use Rattle.std.specs.Prelude.{ℕ, ◌+◌, ◌*◌, ◌≤◌, List, length}
use Rattle.spec_policy.specs.Bytes.{Bytes}
use Rattle.spec_policy.specs.Lists.{listed}
use Rattle.spec_policy.specs.Records.{step_size, node_count, node_place, step_place, step_record_at}
use Rattle.spec_policy.specs.Steps.{Step, step_of}

-- the steps that lie from a place of the file on, so many
unfoldable pub code_at : Bytes → ℕ → ℕ → List Step
code_at file at count = listed (λ o. step_of (step_record_at file (at + step_size * o))) 0 count

-- the steps from one of this number on, so many; and that they lie in the file
abbrev pub code_from : Bytes → ℕ → ℕ → List Step
code_from file first count = code_at file (step_place file first) count

abbrev pub StepsIn : Bytes → ℕ → ℕ → Type 0
StepsIn file first count = (node_count file ≤ 255) × (node_place (node_count file) + step_size * (first + count) ≤ length file)
