-- `begin` meets its contract.
use mathlib.Core.Logic.{inl, inr}
use Rattle.spec_turns.specs.Status.{status_of}
use Rattle.spec_turns.specs.Turn.{Request}
use Rattle.call_answer.specs.Requests.{asked}
use Rattle.spec_text.specs.Words.{ascii}
use Rattle.text_append.proofs.AddedLaws.{nothing, named}
use Rattle.run_report.specs.Said.{heading}
use Rattle.run_report.proofs.SpokenLaws.{by_call}
use Rattle.run_report.proofs.begin.Goals as goal

pub returns-in-Open : goal.returns-in-Open
unfolding asked heading ascii
returns-in-Open c = named c.append_line.ensures (by_call (λ (q : Request). heading q (status_of c.args.s)) c.in-Open.is)

pub returns-in-Offer : goal.returns-in-Offer
unfolding asked heading
returns-in-Offer c =
    let of_status : Request → _ = λ q. heading q (status_of c.args.s) in
    elim c.in-Offer.is [ inl offered ↦ named (nothing _ _) (by_call of_status offered.1) | inr closed ↦ named (nothing _ _) (by_call of_status closed) ]
