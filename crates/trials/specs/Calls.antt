-- A batch's bytes: a call, and its answer.
use Rattle.std.specs.Prelude.{ℕ, ◌+◌, ◌-◌, ◌≤◌, ◌<◌, ◌≡◌, true, false, [], ◌∷◌, ◌++◌, eqb, length, take, drop, Result, Ok, Err}
use Rattle.spec_policy.specs.Bytes.{Bytes, number, spell}
use Rattle.spec_policy.specs.Spots.{Fault, bare_fault}
use Rattle.spec_check.specs.Check.{Answer, passes, refused}
use Rattle.spec_turns.specs.Turn.{Request, opening, offer, close}
use Rattle.spec_turns.specs.Entries as entries
use Rattle.spec_turns.specs.Entries.{entry}
use Rattle.faults.specs.Meaning.{fault_of, spot_code}
use Rattle.faults.specs.declared.Fault as code
use Rattle.call_answer.specs.Replies as guard
use Rattle.call_answer.specs.Replies.{spoken}
use Rattle.spec_writer.specs.Writing as writing
use Rattle.file_writer.specs.Replies as replies
use Rattle.trials.specs.declared.calls.Parts.{Parts}
use Rattle.trials.specs.declared.calls.Short.{Short}

-- A call: entry (1), policy length (2) and bytes, state length (2) and bytes, event-buffer length (2) and bytes, action (1). Where a
-- field ends whose length stands at `at`:
unfoldable pub field_end : Bytes → ℕ → ℕ
field_end bs at = at + 2 + number bs at 2

unfoldable pub policy_end : Bytes → ℕ
unfolding field_end
policy_end bs = field_end bs 1

unfoldable pub state_end : Bytes → ℕ
state_end bs = field_end bs (policy_end bs)

unfoldable pub events_end : Bytes → ℕ
events_end bs = field_end bs (state_end bs)

-- the longest field, and the longest call: 8 bytes and three such fields
abbrev pub longest_field : ℕ
longest_field = 65535

abbrev pub longest : ℕ
longest = 196613

-- The parts are all there, one after the other, and each is where the format puts it.
pub record Placed (bs : Bytes) (c : Parts) : Type 0 where
  pub policy : c.policy ≡ policy_end bs
  pub state : c.state ≡ state_end bs
  pub events : c.events ≡ events_end bs
  pub entry : c.entry ≡ number bs 0 1
  pub action : c.action ≡ number bs (events_end bs) 1
  pub policy-from : 3 ≤ c.policy
  pub state-from : c.policy + 2 ≤ c.state
  pub state-room : c.state ≤ c.policy + 2 + longest_field
  pub events-from : c.state + 2 ≤ c.events
  pub events-room : c.events ≤ c.state + 2 + longest_field
  pub inside : c.events < length bs

-- the bytes from one place up to another
unfoldable pub part : ℕ → ℕ → Bytes → Bytes
part from to bs = take (to - from) (drop from bs)

-- the call's policy, its state and its event buffer
unfoldable pub policy_in : Bytes → Bytes
policy_in bs = part 3 (policy_end bs) bs

unfoldable pub state_in : Bytes → Bytes
state_in bs = part (policy_end bs + 2) (state_end bs) bs

unfoldable pub events_in : Bytes → Bytes
events_in bs = part (state_end bs + 2) (events_end bs) bs

-- entry 1 opens, 2 offers the action, 3 closes (and 0 checks)
unfoldable pub request : ℕ → ℕ → Request
request n a = elim (eqb n 1) [ true ↦ opening | false ↦ elim (eqb n 2) [ true ↦ offer a | false ↦ close ] ]

-- what the call gives, where it is no check
unfoldable pub called : Bytes → entries.Result
called bs = entry (policy_in bs) (request (number bs 0 1) (number bs (events_end bs) 1)) (state_in bs) (events_in bs)

-- entry 4 writes a file: nodes, steps and output are given in place of the policy, the state and the event buffer
unfoldable pub file_called : Bytes → writing.Result
file_called bs = writing.writes (policy_in bs) (state_in bs) (events_in bs)

-- of a call of which `have` bytes have been read; short of more bytes than those, none of which is past the call's end
unfoldable pub Found : Bytes → ℕ → Result Parts Short → Type 0
Found bs have (Ok c) = (events_end bs < have) × Placed bs c
Found bs have (Err s) = (have < s.wanted) × (s.wanted ≤ events_end bs + 1) × (s.wanted ≤ longest)

-- of a call whose bytes have been asked for until it was whole or the input ended
unfoldable pub Taken : Bytes → Result Parts Short → Type 0
Taken bs (Ok c) = Placed bs c
Taken bs (Err s) = Unit

-- a refusal number (1; 0 if there is none), and the number of the record that it is about, counted from 1 (2; 0 if there is none)
unfoldable pub refusal_bytes : Fault → Bytes
refusal_bytes f = f.number ∷ spell 2 (spot_code f.spot)

abbrev pub no_refusal : Fault
no_refusal = bare_fault 0

-- the refusal, the regulated set and the effect set (zeros if refused)
unfoldable pub answer_bytes : Answer → Bytes
unfolding refusal_bytes
answer_bytes (passes r e) = refusal_bytes no_refusal ++ (spell 8 r ++ spell 8 e)
answer_bytes (refused f) = refusal_bytes f ++ (spell 8 0 ++ spell 8 0)

-- the refusal, events (2), status (1); after them state buffer and event buffer
unfoldable pub reply_bytes : guard.Answer → Bytes
unfolding refusal_bytes
reply_bytes (Ok a) = refusal_bytes no_refusal ++ (spell 2 a.events ++ (a.status ∷ []))
reply_bytes (Err f) = refusal_bytes (fault_of f) ++ (0 ∷ 0 ∷ 0 ∷ [])

pub record Answers (x : entries.Result) (r saved room : Bytes) : Type 0 where
  pub reply : r ≡ reply_bytes (spoken x.reply)
  pub state : saved ≡ x.state
  pub events : room ≡ x.events

-- the refusal, length (2); after them the output
unfoldable pub size_bytes : Result ℕ code.Fault → Bytes
unfolding refusal_bytes
size_bytes (Ok n) = refusal_bytes no_refusal ++ spell 2 n
size_bytes (Err f) = refusal_bytes (fault_of f) ++ (0 ∷ 0 ∷ [])

pub record Wrote (x : writing.Result) (r room : Bytes) : Type 0 where
  pub reply : r ≡ size_bytes (replies.spoken x.reply)
  pub out : room ≡ x.out
