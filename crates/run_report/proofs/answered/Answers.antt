-- `answered` meets its contract: three texts, one after the other.
use mathlib.Core.Path.{ap}
use mathlib.Core.Bool.{Bool}
use Rattle.std.proofs.Common.{rules}
use Rattle.spec_turns.specs.Status.{status_of}
use Rattle.text_append.proofs.AddedLaws.{joined, named}
use Rattle.run_report.specs.Said.{ending, said}
use Rattle.run_report.proofs.RoomLaws.{answered-fits}
use Rattle.run_report.proofs.SpokenLaws.{alone}
use Rattle.run_report.proofs.answered.Goals as goal

pub returns : goal.returns
unfolding said
returns c =
    let f = named c.finish.ensures (ap (λ (l : Bool). ending l (status_of c.args.s)) c.is_last-over.ensures) in
    alone (joined c.begin-first.ensures (joined c.append_events-end.ensures f)) c.is_last-over.ensures
    (answered-fits _ _ _ _ c.requires.1 (λ i. search rules))
