-- `append_stop` meets its contract: the end of the line, after a refusal if there is one.
use mathlib.Core.Path.{sym, ap}
use Rattle.spec_text.specs.Words.{ascii}
use Rattle.std.specs.Prelude.{Option}
use Rattle.faults.specs.declared.Fault.{Fault}
use Rattle.text_append.proofs.AddedLaws.{joined, named}
use Rattle.guardtrace.specs.Shown.{ending}
use Rattle.guardtrace.specs.Meaning.{stop_of}
use Rattle.guardtrace.proofs.report.append_stop.Goals as goal

pub returns-in-None : goal.returns-in-None
unfolding ending stop_of ascii
returns-in-None c = named c.append.ensures (sym (ap (λ (z : Option Fault). ending (stop_of z)) c.in-None.is))

pub returns-in-Some : goal.returns-in-Some
unfolding ending stop_of ascii
returns-in-Some c = named (joined c.append-spaced.ensures c.refuse.ensures) (sym (ap (λ (z : Option Fault). ending (stop_of z)) c.in-Some.is))
