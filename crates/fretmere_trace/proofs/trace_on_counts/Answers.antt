-- `trace_on_counts` meets its contract.
use Rattle.fretmere_trace.proofs.WordLaws.{unopened-gave, followed-gave}
use Rattle.fretmere_trace.proofs.trace_on_counts.Goals as goal

pub returns-in-Err : goal.returns-in-Err
returns-in-Err c = unopened-gave c.in-Err.is c.follow_trace.ensures c.fault_word.ensures

pub returns-in-Ok : goal.returns-in-Ok
returns-in-Ok c = followed-gave c.in-Ok.is c.follow_trace.ensures c.stop_word.ensures c.from.ensures
