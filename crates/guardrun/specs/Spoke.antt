-- What the code says of a call.
use Rattle.std.specs.Prelude.{◌≡◌}
use Rattle.spec_policy.specs.Bytes.{Bytes}
use Rattle.spec_turns.specs.Turn.{Request}
use Rattle.spec_turns.specs.Entries.{Result}
use Rattle.run_report.specs.Said.{said}
use Rattle.run_report.specs.Speaks.{Speaks}
use Rattle.run_report.specs.declared.Told.{Told}

-- A call gave its result, and the buffer begins with what is said of it.
pub record Spoke (x : Result) (q : Request) (saved room before after : Bytes) (t : Told) : Type 0 where
  pub state : saved ≡ x.state
  pub events : room ≡ x.events
  pub speaks : Speaks (said q x.reply x.events) before after t
