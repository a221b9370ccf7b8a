-- What is said of a call, from what is said of its answer.
use Prim.Native.Nat.{◌≤◌}
use native.Mathlib.Omega.{arith}
use mathlib.Core.Path.{◌≡◌, sym, ap₂, ◌∙◌, subst}
use lib.ListN.{length}
use Rattle.spec_policy.specs.Bytes.{Bytes}
use Rattle.spec_policy.specs.Spots as spots
use Rattle.laws_check.specs.Offends.{SmallFault}
use Rattle.text_append.specs.Refusal.{refusal}
use Rattle.text_append.proofs.AddedLaws.{refusal-short}
use Rattle.faults.specs.declared.Fault.{Fault}
use Rattle.faults.specs.Meaning.{fault_of}
use Rattle.spec_turns.specs.Status.{status_of}
use Rattle.spec_turns.specs.Turn.{Request}
use Rattle.spec_turns.specs.Entries.{Reply, answers, refuses, Result}
use Rattle.std.specs.Prelude.{Ok, Err}
use Rattle.call_answer.specs.Replies.{Answer, Gave}
use Rattle.call_answer.specs.declared.Answered.{Answered}
use Rattle.call_answer.proofs.Heard.{heard, heard-refusal}
use Rattle.run_report.specs.Said.{Said, said}
use Rattle.run_report.specs.Speaks.{text_room, Speaks}
use Rattle.run_report.specs.declared.Told.{Told}
use Rattle.guardrun.specs.Spoke.{Spoke}

module _ {x : Result} {q : Request} {r : Answer} {saved room before after : Bytes} {t : Told} (g : Gave x r saved room) where
  spoke : (p : Reply) → x.reply ≡ p → Speaks (said q p room) before after t → Spoke x q saved room before after t
  spoke p e h = record { state = g.state; events = g.events; speaks = subst (λ (s : Said). Speaks s before after t) (ap₂ (said q) (sym e) g.events) h }

  pub spoke-answered : {a : Answered} → r ≡ Ok a → Speaks (said q (answers a.events (status_of a.status)) room) before after t → Spoke x q saved room before after t
  spoke-answered {a} e h = spoke (answers a.events (status_of a.status)) (heard x.reply a.events a.status (sym e ∙ g.answer)) h

  -- a call's refusal is short
  pub spoke-refused : ((f : spots.Fault) → x.reply ≡ refuses f → SmallFault f) → (f : Fault) → r ≡ Err f
      → (length (refusal (fault_of f)) ≤ text_room → Speaks (said q (refuses (fault_of f)) room) before after t) → Spoke x q saved room before after t
  spoke-refused small f e h =
      let a = heard-refusal x.reply f (sym e ∙ g.answer) in
      let k = small (fault_of f) a in
      spoke (refuses (fault_of f)) a (h (omega (arith, refusal-short (fault_of f) k.number_small k.spot-small)))
