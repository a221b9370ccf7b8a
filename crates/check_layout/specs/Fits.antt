-- Rule 4 in its two parts, of the nodes and of step records.
use Rattle.std.specs.Prelude.{ℕ, ◌+◌, ◌*◌, Bool, true, false, Result, Ok, Err}
use Rattle.faults.specs.declared.Refusal.{Refusal}
use Rattle.faults.specs.declared.Refusal.TheVariants as refusals
use Rattle.spec_policy.specs.Bytes.{Bytes}
use Rattle.spec_policy.specs.Lists.{listed, every}
use Rattle.spec_policy.specs.Records.{StepRecord, step_record_at, node_count, nodes, step_records}
use Rattle.spec_policy.specs.Spots.{Spot, first_off}
use Rattle.spec_policy.specs.Steps.{step_of}
use Rattle.spec_policy.specs.Tree.{node_kind}
use Rattle.file_records.specs.declared.Step.{Step}
use Rattle.file_records.specs.Kinds.{step_value}
use Rattle.spec_check.specs.Layout.{node_fits, step_fits}

-- every node fits
unfoldable pub nodes_fit : Bytes → Bool
nodes_fit file = every (λ x. node_fits (node_kind x.kind) x) (nodes file)

-- the first node that does not, and the first step record that does not, counted from n on
unfoldable pub unfit_node : Bytes → Spot
unfit_node file = first_off (λ i x. node_fits (node_kind x.kind) x) 0 (nodes file)

unfoldable pub unfit_step : Bytes → Spot
unfit_step file = first_off (λ i r. step_fits r) (node_count file) (step_records file)

-- a record as it is read: its step, which is an error's where the record does not fit
unfoldable pub kept_if : Bool → Step → Result Step Step
kept_if true s = Ok s
kept_if false s = Err s

unfoldable pub read_as : StepRecord → Result Step Step
read_as r = kept_if (step_fits r) (step_value (step_of r))

-- every step record fits that lies from a place of the file on, of so many
unfoldable pub steps_fit : Bytes → ℕ → ℕ → Bool
steps_fit file at count = every step_fits (listed (λ i. step_record_at file (at + 12 * i)) 0 count)

-- kept where the step records fit, and else rule 4 is broken
unfoldable pub kept_or4 : Bool → Result (Unit {0}) Refusal
kept_or4 true = Ok tt
kept_or4 false = Err refusals.Fields
