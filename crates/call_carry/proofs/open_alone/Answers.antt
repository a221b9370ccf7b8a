-- `open_alone` meets its contract.
use mathlib.Core.Path.{ap}
use Rattle.spec_turns.specs.State.{leaf_over, status}
use Rattle.std.specs.Prelude.{ℕ, Ok}
use Rattle.call_answer.specs.Replies.{Answer}
use Rattle.call_carry.proofs.open_alone.Goals as goal

pub returns : goal.returns
unfolding leaf_over status
returns c s e = let said : ℕ → Answer = λ k. Ok (record { events = 0; status = k }) in record { answer = ap said e; state = c.tidy_alone.ensures s e }
