-- What is said of a call, alone in a buffer.
use Prim.Native.Nat.{ℕ, ◌≤◌}
use mathlib.Core.Path.{◌≡◌, sym, ap}
use mathlib.Core.Bool.{Bool}
use lib.ListN.{length}
use Rattle.spec_policy.specs.Bytes.{Bytes}
use Rattle.spec_turns.specs.Turn.{Request}
use Rattle.call_answer.specs.Requests.{asked}
use Rattle.call_answer.specs.declared.Call.{Call}
use Rattle.text_append.specs.Added.{Added}
use Rattle.run_report.specs.Speaks.{text_room, Speaks}

-- what is said of a request is said of the call that asks it
pub by_call : {A : Type 0} (f : Request → A) {q k : Call} → q ≡ k → f (asked k) ≡ f (asked q)
by_call f e = ap (λ (x : Call). f (asked x)) (sym e)

-- a text alone in the buffer
pub alone : {a b x : Bytes} {r : ℕ} {o p : Bool} → Added a 0 x b r → p ≡ o → length x ≤ text_room → Speaks (record { text = x; over = o }) a b (record { end = r; over = p })
alone p e h = record { added = p; short = h; over = e }
