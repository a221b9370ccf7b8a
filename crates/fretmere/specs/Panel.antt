-- What the panel reads after a call. Request 04: "Show how many leaves still run."; "Opening, each action and closing keep it true."
use Rattle.std.specs.Prelude.{◌≡◌}
use Rattle.spec_policy.specs.Bytes.{Bytes}
use Rattle.spec_policy.specs.Tree.{tree}
use Rattle.spec_turns.specs.Process.{outcome}
use Rattle.spec_turns.specs.Turn.{Request, call}
use Rattle.spec_turns.specs.Saved.{cells, load, running_leaves}
use Rattle.spec_turns.specs.Entries.{entry}
use Rattle.fretmere.specs.Words.{count_word}

-- Of the state that a call leaves it reads how many leaves run where the turn rules end. `panel-told` (proofs/Panel): so after every answered call.
pub record PanelTold (policy state room : Bytes) (q : Request) : Type 0 where
  pub told : count_word (entry policy q state room).state ≡ running_leaves (tree policy) (outcome (call (tree policy) q (load (tree policy) (cells state)))).state
