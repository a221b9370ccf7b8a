-- Document 01's P1 to P11 and its run of guardrun, said of the entry points: one list, one statement.
use Rattle.std.specs.Prelude.{ℕ, zero, suc, ◌*◌, ◌≡◌, List, [], ◌∷◌, ◌++◌, map, length, take, replicate}
use Rattle.spec_policy.specs.Bytes.{Bytes}
use Rattle.spec_policy.specs.Parts.{alone, pair, top, bottom, L, «V», V', W, built}
use Rattle.spec_policy.specs.Spots.{bare_fault, fault_on}
use Rattle.spec_check.specs.Check.{Answer, passes, refused, check}
use Rattle.spec_turns.specs.Status.{Status, running, ended, ended_right, halted}
use Rattle.spec_turns.specs.Turn.{Request, opening, offer, close}
use Rattle.spec_turns.specs.Saved.{state_size}
use Rattle.spec_turns.specs.Entries.{Reply, answers, refuses, event_room, Result, entry}

-- What one call gave: its answer, and the event bytes that it wrote.
pub record Heard : Type 0 where
  pub reply : Reply
  pub written : Bytes

-- What is told of a file: its length, what the check answers, and what calls, each from the state that the last left, gave.
pub record Told : Type 0 where
  pub size : ℕ
  pub answer : Answer
  pub heard : List Heard

pub record Case : Type 0 where
  pub policy : Bytes
  pub requests : List Request
  pub told : Told

unfoldable pub bytes_of : Reply → ℕ
bytes_of (answers n s) = 2 * n
bytes_of (refuses n) = 0

unfoldable pub heard_of : Result → Heard
heard_of r = record { reply = r.reply; written = take (bytes_of r.reply) r.events }

unfoldable pub calls : Bytes → Bytes → List Request → List Heard
unfolding heard_of bytes_of
calls policy state [] = []
calls policy state (q ∷ qs) = let r = entry policy q state (replicate event_room 0) in heard_of r ∷ calls policy r.state qs

-- the first call, which opens, takes any bytes for a state
unfoldable pub found : Case → Told
unfolding calls
found c = record { size = length c.policy; answer = check c.policy; heard = calls c.policy (replicate state_size 255) c.requests }

-- ---- the events, as document 01 has them

unfoldable pub acc : ℕ → Bytes
acc a = 1 ∷ a ∷ []

unfoldable pub sup : ℕ → Bytes
sup a = 2 ∷ a ∷ []

unfoldable pub ins : ℕ → Bytes
ins a = 3 ∷ a ∷ []

-- an answer with these events, each two bytes
unfoldable pub says : Status → List Bytes → Heard
says s es = record { reply = answers (length es) s; written = all es }
  where
    all : List Bytes → Bytes
    all [] = []
    all (e ∷ es) = e ++ all es

unfoldable pub refuses_with : ℕ → Heard
refuses_with n = record { reply = refuses (bare_fault n); written = [] }

-- offered n - 1, .., 1, 0
unfoldable pub offers_below : ℕ → List Request
offers_below zero = []
offers_below (suc n) = offer n ∷ offers_below n

unfoldable pub cases : List Case
unfolding acc sup ins says refuses_with offers_below built
cases =
    -- "P1 L file: 82 bytes, sets {2} and empty." "P2 L on 1, 2, 2, 1: all accepted; a further 2 halts.", as request 01 changes it: "the
    -- fourth 2 halts".
    record {
      policy = alone L;
      requests = opening ∷ offer 1 ∷ offer 2 ∷ offer 2 ∷ offer 1 ∷ offer 2 ∷ offer 2 ∷ [];
      told = record {
        size = 82;
        answer = passes 4 0;
        heard = says running []
            ∷ says running (acc 1 ∷ [])
            ∷ says running (acc 2 ∷ [])
            ∷ says running (acc 2 ∷ [])
            ∷ says running (acc 1 ∷ [])
            ∷ says running (acc 2 ∷ [])
            ∷ says halted []
            ∷ [];
      };
    }
    -- "P3 V on 4: suppressed 4, inserted 3; closing: inserted 3, ended."
    ∷ record {
      policy = alone «V»;
      requests = opening ∷ offer 4 ∷ close ∷ [];
      told = record { size = 82; answer = passes 16 24; heard = says running [] ∷ says running (sup 4 ∷ ins 3 ∷ []) ∷ says ended (ins 3 ∷ []) ∷ [] };
    }
    -- "P4 V parallel-and W: refusal 9.", at the root: "For 9 and 10 it is the node."
    ∷ record { policy = pair 4 «V» W; requests = []; told = record { size = 150; answer = refused (fault_on 9 0); heard = [] } }
    -- "P5 W parallel-and W: refusal 9; L with L passes."
    ∷ record { policy = pair 4 W W; requests = []; told = record { size = 126; answer = refused (fault_on 9 0); heard = [] } }
    ∷ record { policy = pair 4 L L; requests = []; told = record { size = 174; answer = passes 4 0; heard = [] } }
    -- "P6 V sequential-and W, on 4: suppressed 4 only."
    ∷ record {
      policy = pair 5 «V» W;
      requests = opening ∷ offer 4 ∷ [];
      told = record { size = 150; answer = passes 24 24; heard = says running [] ∷ says running (sup 4 ∷ []) ∷ [] };
    }
    -- "P7 W sequential-and V, on 4: suppressed 4, inserted 3."
    ∷ record {
      policy = pair 5 W «V»;
      requests = opening ∷ offer 4 ∷ [];
      told = record { size = 150; answer = passes 24 24; heard = says running [] ∷ says running (sup 4 ∷ ins 3 ∷ []) ∷ [] };
    }
    -- "P8 L or unsatisfiable (parallel): halts on the third 2.", as request 01 changes it: "the fourth 2 halts".
    ∷ record {
      policy = pair 6 L bottom;
      requests = opening ∷ offer 2 ∷ offer 2 ∷ offer 2 ∷ offer 2 ∷ [];
      told = record {
        size = 114;
        answer = passes 4 0;
        heard = says running [] ∷ says running (acc 2 ∷ []) ∷ says running (acc 2 ∷ []) ∷ says running (acc 2 ∷ []) ∷ says halted [] ∷ [];
      };
    }
    -- "P9 L or trivial (parallel): opens ended right; 2, 2, 2 accepted."
    ∷ record {
      policy = pair 6 L top;
      requests = opening ∷ offer 2 ∷ offer 2 ∷ offer 2 ∷ [];
      told = record {
        size = 114;
        answer = passes 4 0;
        heard = says ended_right [] ∷ says ended_right (acc 2 ∷ []) ∷ says ended_right (acc 2 ∷ []) ∷ says ended_right (acc 2 ∷ []) ∷ [];
      };
    }
    -- "P10 Unsatisfiable alone: 22 bytes, opens halted, any action 0–63 is refused 14."
    ∷ record {
      policy = alone bottom;
      requests = opening ∷ offers_below 64;
      told = record { size = 22; answer = passes 0 0; heard = says halted [] ∷ replicate 64 (refuses_with 14) };
    }
    -- "P11 V parallel-and V', closing: inserted 3, inserted 6."
    ∷ record {
      policy = pair 4 «V» V';
      requests = opening ∷ close ∷ [];
      told = record { size = 174; answer = passes 48 120; heard = says running [] ∷ says ended (ins 3 ∷ ins 6 ∷ []) ∷ [] };
    }
    -- guardrun: "V sequential-and W, then bytes 4, 3, prints: open running, sup 4, sup 3, close ended"
    ∷ record {
      policy = pair 5 «V» W;
      requests = opening ∷ offer 4 ∷ offer 3 ∷ close ∷ [];
      told = record { size = 150; answer = passes 24 24; heard = says running [] ∷ says running (sup 4 ∷ []) ∷ says running (sup 3 ∷ []) ∷ says ended [] ∷ [] };
    }
    ∷ []

unfoldable pub AllTold : List Case → Type 0
unfolding found
AllTold cs = map found cs ≡ map (λ c. c.told) cs
