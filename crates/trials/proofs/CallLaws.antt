-- Laws of a call's parts: each lies after the one before, and what a reader of so many bytes may say.
use Prim.Native.Nat.{ℕ, ◌+◌, ◌-◌, ◌≤◌, ◌<◌}
use mathlib.Core.Path.{◌≡◌, refl, sym, ap, ap₂, subst, ◌∙◌}
use mathlib.Core.List.{[], ◌∷◌, ◌++◌}
use native.Mathlib.Omega.{arith}
use lib.ListN.{length, get_or, take}
use lib.Seq.{take_at, length-take-le}
use borrow.Author.Tests.{eq-eqb, ne_eqb}
use borrow.Rule.Slice.PartMut.{mid_len}
use Rattle.spec_policy.specs.Bytes.{Bytes, number, spell}
use Rattle.spec_policy.specs.Spots as spots
use Rattle.spec_check.specs.Check.{Answer as Checked, passes}
use Rattle.spec_turns.specs.Turn.{Request, opening, offer, close}
use Rattle.spec_turns.specs.Entries.{entry}
use Rattle.std.specs.Prelude.{Result, Ok, Err}
use Rattle.call_answer.specs.Replies.{Answer, Gave}
use Rattle.faults.specs.declared.Fault.{Fault}
use Rattle.faults.specs.Meaning.{fault_of}
use Rattle.spec_writer.specs.Writing as writing
use Rattle.file_writer.specs.Replies as replies
use Rattle.trials.specs.Calls.{field_end, policy_end, state_end, events_end, longest, Placed, part, policy_in, state_in, events_in, request, called, file_called, Found, Taken, refusal_bytes, no_refusal, answer_bytes, reply_bytes, Answers, size_bytes, Wrote}
use Rattle.trials.specs.declared.calls.Parts.{Parts}
use Rattle.trials.specs.declared.calls.Short.{Short}

pub policy-from : (bs : Bytes) → 3 ≤ policy_end bs
unfolding field_end policy_end
policy-from bs = omega arith

pub state-from : (bs : Bytes) → policy_end bs + 2 ≤ state_end bs
unfolding field_end state_end
state-from bs = omega arith

pub events-from : (bs : Bytes) → state_end bs + 2 ≤ events_end bs
unfolding field_end events_end
events-from bs = omega arith

-- the ends, found one after the other
pub policy-is : (bs : Bytes) (e : ℕ) → e ≡ field_end bs 1 → e ≡ policy_end bs
unfolding policy_end
policy-is bs e h = h

pub state-is : (bs : Bytes) (e f : ℕ) → e ≡ policy_end bs → f ≡ field_end bs e → f ≡ state_end bs
unfolding state_end
state-is bs e f p h = h ∙ ap (field_end bs) p

pub events-is : (bs : Bytes) (e f : ℕ) → e ≡ state_end bs → f ≡ field_end bs e → f ≡ events_end bs
unfolding events_end
events-is bs e f p h = h ∙ ap (field_end bs) p

-- the bytes asked for end at the call's end or before it
pub short : (bs : Bytes) (have n : ℕ) → have < n → n ≤ events_end bs + 1 → n ≤ longest → Found bs have (Err (record { wanted = n }))
unfolding Found
short bs have n h e l = (h, e, l)

pub whole : (bs : Bytes) (have : ℕ) (c : Parts) → events_end bs < have → have ≤ length bs
    → c.policy ≡ policy_end bs → c.state ≡ state_end bs → c.state ≤ c.policy + 65537 → c.events ≡ events_end bs → c.events ≤ c.state + 65537
    → c.entry ≡ number bs 0 1 → c.action ≡ number bs c.events 1
    → Found bs have (Ok c)
unfolding Found
whole bs have c h l p s u e v n a =
    let x = policy-from bs in
    let y = state-from bs in
    let z = events-from bs in (
      h,
      record {
        policy = p;
        state = s;
        events = e;
        entry = n;
        action = a ∙ ap (λ (k : ℕ). number bs k 1) e;
        policy-from = omega arith;
        state-from = omega arith;
        state-room = omega arith;
        events-from = omega arith;
        events-room = omega arith;
        inside = omega arith;
      },
    )

-- each part as the format has it
pub policy-part : (bs : Bytes) (c : Parts) → Placed bs c → part 3 c.policy bs ≡ policy_in bs
unfolding policy_in
policy-part bs c p = ap (λ (k : ℕ). part 3 k bs) p.policy

pub state-part : (bs : Bytes) (c : Parts) → Placed bs c → part (c.policy + 2) c.state bs ≡ state_in bs
unfolding state_in
state-part bs c p = ap₂ (λ (k l : ℕ). part (k + 2) l bs) p.policy p.state

pub events-part : (bs : Bytes) (c : Parts) → Placed bs c → part (c.state + 2) c.events bs ≡ events_in bs
unfolding events_in
events-part bs c p = ap₂ (λ (k l : ℕ). part (k + 2) l bs) p.state p.events

pub taken-placed : (bs : Bytes) (r : Result Parts Short) (c : Parts) → r ≡ Ok c → Taken bs r → Placed bs c
unfolding Taken
taken-placed bs r c e t = let g : Taken bs (Ok c) = subst (λ (x : Result Parts Short). Taken bs x) e t in g

-- ---- the entry

pub request-open : (n a : ℕ) → n ≡ 1 → opening ≡ request n a
unfolding request
request-open n a e = rw (request, eq-eqb n 1 e) refl

pub request-offer : (n a : ℕ) → n ≡ 2 → offer a ≡ request n a
unfolding request
request-offer n a e = rw (request, ne_eqb n 1 (λ d. omega arith), eq-eqb n 2 e) refl

pub request-close : (n a : ℕ) → (n ≡ 1 → ⊥) → (n ≡ 2 → ⊥) → close ≡ request n a
unfolding request
request-close n a d e = rw (request, ne_eqb n 1 d, ne_eqb n 2 e) refl

-- ---- buffers

-- what a call leaves at the start of a buffer, where the rest is as it was
pub front : (now rest : Bytes) (n k : ℕ) → n ≡ k → length now ≡ k → take n (now ++ rest) ≡ now
front now rest n k e f = take_at now rest n (f ∙ sym e)

-- what was copied to the start of a buffer
pub loaded : (batch now rest : Bytes) (from to : ℕ) → to ≤ length batch → now ≡ part from to batch
    → (to - from ≡ to - from) × (take (to - from) (now ++ rest) ≡ part from to batch)
unfolding part
loaded batch now rest from to h e = (refl, front now rest (to - from) (to - from) refl (ap length e ∙ mid_len from to batch h) ∙ e)

-- a call on its own parts
pub made : (bs : Bytes) (c : Parts) (s e s' e' x y reply : Bytes) (m n : ℕ) (a : Answer) → Placed bs c
    → m ≡ c.state - (c.policy + 2) → take m s ≡ part (c.policy + 2) c.state bs → m ≤ length s
    → n ≡ c.events - (c.state + 2) → take n e ≡ part (c.state + 2) c.events bs → n ≤ length e
    → Gave (entry (part 3 c.policy bs) (request c.entry c.action) (take m s) (take n e)) a s' e' → length s' ≡ length (take m s) → length e' ≡ length (take n e)
    → reply ≡ reply_bytes a
    → Answers (called bs) reply (take (c.state - (c.policy + 2)) (s' ++ x)) (take (c.events - (c.state + 2)) (e' ++ y))
unfolding called
made bs c s e s' e' x y reply m n a p ms sp mi ne ep ni g ls le rb =
    let q = subst (λ (z : Bytes). Gave (entry z (request c.entry c.action) (take m s) (take n e)) a s' e') (policy-part bs c p) g in
    let q = subst (λ (z : Bytes). Gave (entry (policy_in bs) (request c.entry c.action) z (take n e)) a s' e') (sp ∙ state-part bs c p) q in
    let q = subst (λ (z : Bytes). Gave (entry (policy_in bs) (request c.entry c.action) (state_in bs) z) a s' e') (ep ∙ events-part bs c p) q in
    let q = subst (λ (z : Request). Gave (entry (policy_in bs) z (state_in bs) (events_in bs)) a s' e') (ap₂ request p.entry p.action) q in
    record {
      reply = rb ∙ ap reply_bytes q.answer;
      state = front s' x (c.state - (c.policy + 2)) m (sym ms) (ls ∙ length-take-le m s mi) ∙ q.state;
      events = front e' y (c.events - (c.state + 2)) n (sym ne) (le ∙ length-take-le n e ni) ∙ q.events;
    }

-- a call of the writer on its own parts
pub made-file : (bs : Bytes) (c : Parts) (o o' x reply : Bytes) (n : ℕ) (w : Result ℕ Fault) → Placed bs c
    → n ≡ c.events - (c.state + 2) → take n o ≡ part (c.state + 2) c.events bs → n ≤ length o
    → replies.Gave (writing.writes (part 3 c.policy bs) (part (c.policy + 2) c.state bs) (take n o)) w o' → length o' ≡ length (take n o)
    → reply ≡ size_bytes w
    → Wrote (file_called bs) reply (take (c.events - (c.state + 2)) (o' ++ x))
unfolding file_called
made-file bs c o o' x reply n w p e f h g l r =
    let q = subst (λ (z : Bytes). replies.Gave (writing.writes z (part (c.policy + 2) c.state bs) (take n o)) w o') (policy-part bs c p) g in
    let q = subst (λ (z : Bytes). replies.Gave (writing.writes (policy_in bs) z (take n o)) w o') (state-part bs c p) q in
    let q = subst (λ (z : Bytes). replies.Gave (writing.writes (policy_in bs) (state_in bs) z) w o') (f ∙ events-part bs c p) q in
    record {
      reply = r ∙ ap size_bytes q.answer;
      out = front o' x (c.events - (c.state + 2)) n (sym e) (l ∙ length-take-le n o h) ∙ q.out;
    }

-- ---- a refusal's three bytes

pub refused-reply : (f : Fault) (rs : Bytes) (a : Answer) → a ≡ Err f → rs ≡ refusal_bytes (fault_of f)
    → (get_or rs 0 0 ∷ get_or rs 1 0 ∷ get_or rs 2 0 ∷ 0 ∷ 0 ∷ 0 ∷ []) ≡ reply_bytes a
unfolding reply_bytes refusal_bytes spell
refused-reply f rs a e h = ap (λ (xs : Bytes). get_or xs 0 0 ∷ get_or xs 1 0 ∷ get_or xs 2 0 ∷ 0 ∷ 0 ∷ 0 ∷ []) h ∙ ap reply_bytes (sym e)

pub refused-size : (f : Fault) (rs : Bytes) (a : Result ℕ Fault) → a ≡ Err f → rs ≡ refusal_bytes (fault_of f)
    → (get_or rs 0 0 ∷ get_or rs 1 0 ∷ get_or rs 2 0 ∷ 0 ∷ 0 ∷ []) ≡ size_bytes a
unfolding size_bytes refusal_bytes spell
refused-size f rs a e h = ap (λ (xs : Bytes). get_or xs 0 0 ∷ get_or xs 1 0 ∷ get_or xs 2 0 ∷ 0 ∷ 0 ∷ []) h ∙ ap size_bytes (sym e)

pub passed-bytes : (f : Fault) {r e : ℕ} (bs : Bytes) (a : Checked) → fault_of f ≡ no_refusal → bs ≡ refusal_bytes (fault_of f) ++ (spell 8 r ++ spell 8 e) → passes r e ≡ a
    → bs ≡ answer_bytes a
unfolding answer_bytes
passed-bytes f {r} {e} bs a z h p = h ∙ ap (λ (g : spots.Fault). refusal_bytes g ++ (spell 8 r ++ spell 8 e)) z ∙ ap answer_bytes p
