-- `traced_bytes` meets its contract.
use mathlib.Core.Path.{sym, ◌∙◌}
use Rattle.trials.proofs.RunLaws.{unopened-bytes, followed-bytes}
use Rattle.trials.proofs.answers.traced_bytes.Goals as goal

pub returns-in-Err : goal.returns-in-Err
returns-in-Err c x e = unopened-bytes _ _ x (sym c.in-Err.is ∙ e) c.report_bytes-in-Err.ensures

pub returns-in-Ok : goal.returns-in-Ok
returns-in-Ok c x e = followed-bytes _ _ _ x (sym c.in-Ok.is ∙ e) c.stop_fault.ensures c.report_bytes.ensures
