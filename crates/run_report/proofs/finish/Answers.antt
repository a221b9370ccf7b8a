-- `finish` meets its contract.
use mathlib.Core.Path.{ap, sym}
use mathlib.Core.Bool.{Bool}
use Rattle.spec_turns.specs.Status.{status_of}
use Rattle.spec_text.specs.Words.{ascii}
use Rattle.text_append.proofs.AddedLaws.{nothing, named}
use Rattle.run_report.specs.Said.{ending}
use Rattle.run_report.proofs.finish.Goals as goal

pub returns-then-last : goal.returns-then-last
unfolding ending ascii
returns-then-last c = named c.append_line.ensures (ap (λ (l : Bool). ending l (status_of c.args.s)) (sym c.if-last.true))

pub returns-else-last : goal.returns-else-last
unfolding ending
returns-else-last c = named (nothing _ _) (ap (λ (l : Bool). ending l (status_of c.args.s)) (sym c.if-last.false))
