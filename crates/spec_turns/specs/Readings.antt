-- The points of document 01 at which readers differ, and its believable mistakes, on small policies: one list, one statement; beside
-- it a count of steps, which no answer shows, the refusals of the calls, and the states that calls leave.
use Rattle.std.specs.Prelude.{ℕ, ◌≡◌, List, [], ◌∷◌, ◌++◌, map, take, replicate}
use Rattle.spec_policy.specs.Bytes.{Bytes}
use Rattle.spec_policy.specs.Tree.{Tree, tree}
use Rattle.spec_policy.specs.Parts.{Part, next, ok, sup as sups, ins as inserts, spend, end, halt, joined, leaf_of, top, bottom, alone, pair, L, «V», V', W, F, built}
use Rattle.spec_policy.specs.Spots.{Fault, bare_fault, fault_on}
use Rattle.spec_check.specs.Check.{passes}
use Rattle.spec_turns.specs.Status.{running, ended, ended_left, ended_right, halted}
use Rattle.spec_turns.specs.Process.{items, trace, outcome}
use Rattle.spec_turns.specs.Turn.{Request, opening, offer, close, call, fresh}
use Rattle.spec_turns.specs.Events.{steps_run}
use Rattle.spec_turns.specs.Saved.{state_size}
use Rattle.spec_turns.specs.Entries.{refuses, event_room, Result, entry}
use Rattle.spec_turns.specs.Worked.{Heard, Case, says, acc, sup, ins}

-- inserts 3 and then 6 at closing
unfoldable pub T₄ : Part
unfolding built
T₄ = leaf_of (4 ∷ []) 0 (next 1 2 ∷ ok 0 ∷ inserts 3 3 ∷ inserts 6 4 ∷ end ∷ [])

-- inserts 3 before it suppresses 4
unfoldable pub S₄ : Part
unfolding built
S₄ = leaf_of (4 ∷ []) 0 (next 1 3 ∷ inserts 3 2 ∷ sups 0 ∷ end ∷ [])

-- inserts 3 at opening
unfoldable pub G₁ : Part
unfolding built
G₁ = leaf_of (1 ∷ []) 0 (inserts 3 1 ∷ next 2 3 ∷ ok 1 ∷ end ∷ [])

-- ends on 3
unfoldable pub E₃ : Part
unfolding built
E₃ = leaf_of (3 ∷ []) 0 (next 1 2 ∷ end ∷ end ∷ [])

-- ends on 4
unfoldable pub E₄ : Part
unfolding built
E₄ = leaf_of (4 ∷ []) 0 (next 1 2 ∷ end ∷ end ∷ [])

-- halts on 3
unfoldable pub H₃ : Part
unfolding built
H₃ = leaf_of (3 ∷ []) 0 (next 1 2 ∷ halt ∷ end ∷ [])

-- accepts 4 and then inserts the action given
unfoldable pub A₄ : ℕ → Part
unfolding built
A₄ b = leaf_of (4 ∷ []) 0 (next 1 3 ∷ ok 2 ∷ inserts b 0 ∷ end ∷ [])

-- inserts 4 before it accepts 4
unfoldable pub B₄ : Part
unfolding built
B₄ = leaf_of (4 ∷ []) 0 (next 1 3 ∷ inserts 4 2 ∷ ok 0 ∷ end ∷ [])

-- accepts 3 and then inserts 5
unfoldable pub A₃ : Part
unfolding built
A₃ = leaf_of (3 ∷ []) 0 (next 1 3 ∷ ok 2 ∷ inserts 5 0 ∷ end ∷ [])

-- inserts 5 and then halts on 3
unfoldable pub X₃ : Part
unfolding built
X₃ = leaf_of (3 ∷ []) 0 (next 1 3 ∷ inserts 5 2 ∷ halt ∷ end ∷ [])

-- spends nothing on 1, from a counter of 0
unfoldable pub Z₁ : Part
unfolding built
Z₁ = leaf_of (1 ∷ []) 0 (next 1 4 ∷ spend 0 2 3 ∷ ok 0 ∷ halt ∷ end ∷ [])

-- a file of which only the calls are told
unfoldable pub runs : Bytes → ℕ → ℕ → ℕ → List Request → List Heard → Case
runs file size r e qs heard = record { policy = file; requests = qs; told = record { size = size; answer = passes r e; heard = heard } }

unfoldable pub readings : List Case
unfolding T₄ S₄ G₁ E₃ E₄ H₃ A₄ B₄ A₃ X₃ Z₁ runs says acc sup ins built
readings =
    -- Inserts are streamed: the left waits, and counts as running until its part is over.
    runs (pair 5 T₄ top) 114 16 72 (opening ∷ close ∷ []) (says running [] ∷ says ended (ins 3 ∷ ins 6 ∷ []) ∷ [])
    ∷ runs (pair 7 T₄ E₃) 150 24 72 (opening ∷ close ∷ []) (says running [] ∷ says ended_right (ins 3 ∷ []) ∷ [])
    -- "Status is read after each insert": where the right halts on an insert, the later steps of the left let nothing out.
    ∷ runs (pair 5 T₄ H₃) 150 24 72 (opening ∷ close ∷ []) (says running [] ∷ says halted [] ∷ [])
    -- An insert that decides a sequential "or" ends the turn there: the sup never runs.
    ∷ runs (pair 7 S₄ E₃) 138 24 24 (opening ∷ offer 4 ∷ []) (says running [] ∷ says ended_right (ins 3 ∷ acc 4 ∷ []) ∷ [])
    -- "where the right halts instead, nothing is emitted in kind 5, but in kind 7 the insert is."
    ∷ runs (pair 7 T₄ H₃) 150 24 72 (opening ∷ close ∷ []) (says running [] ∷ says ended_left (ins 3 ∷ ins 6 ∷ []) ∷ [])
    -- "Accepted, it is emitted between that turn's phases"; an insert on which the right halts goes out, in kind 7, after the right's own.
    ∷ runs (pair 5 T₄ A₃) 162 24 104 (opening ∷ close ∷ []) (says running [] ∷ says ended (ins 3 ∷ ins 5 ∷ ins 6 ∷ []) ∷ [])
    ∷ runs (pair 7 T₄ X₃) 162 24 104 (opening ∷ close ∷ []) (says running [] ∷ says ended_left (ins 5 ∷ ins 3 ∷ ins 6 ∷ []) ∷ [])
    ∷ runs (pair 5 T₄ X₃) 162 24 104 (opening ∷ close ∷ []) (says running [] ∷ says halted (ins 5 ∷ []) ∷ [])
    -- closing a halted root is answered: "closing 1–12"
    ∷ runs (alone bottom) 22 0 0 (opening ∷ close ∷ []) (says halted [] ∷ says halted [] ∷ [])
    -- Inserts are given on in their order: F accepts only the first.
    ∷ runs (pair 5 T₄ F) 174 88 72 (opening ∷ close ∷ []) (says running [] ∷ says ended (ins 3 ∷ []) ∷ [])
    -- A leaf is not shown the actions that it inserted itself.
    ∷ runs (alone (A₄ 4)) 70 16 16 (opening ∷ offer 4 ∷ []) (says running [] ∷ says running (acc 4 ∷ ins 4 ∷ []) ∷ [])
    ∷ runs (alone B₄) 70 16 16 (opening ∷ offer 4 ∷ []) (says running [] ∷ says running (ins 4 ∷ acc 4 ∷ []) ∷ [])
    -- "If the left suppressed a, the verdict is suppressed; otherwise the right is asked." "After: the right first, .. then the left".
    ∷ runs (pair 5 W A₃) 138 8 40 (opening ∷ offer 3 ∷ []) (says running [] ∷ says running (sup 3 ∷ []) ∷ [])
    ∷ runs (pair 5 A₃ A₃) 150 8 32 (opening ∷ offer 3 ∷ []) (says running [] ∷ says running (acc 3 ∷ ins 5 ∷ ins 5 ∷ []) ∷ [])
    ∷ runs (pair 5 (A₄ 6) (A₄ 5)) 150 16 96 (opening ∷ offer 4 ∷ []) (says running [] ∷ says running (acc 4 ∷ ins 5 ∷ ins 6 ∷ []) ∷ [])
    -- No "after" phase runs in a side whose "or" has just ended.
    ∷ runs (pair 6 E₄ (A₄ 5)) 138 16 32 (opening ∷ offer 4 ∷ []) (says running [] ∷ says ended_left (acc 4 ∷ []) ∷ [])
    -- Parallel sides both run the phase to its end, whatever the first has decided.
    ∷ runs (pair 6 «V» V') 174 48 120 (opening ∷ close ∷ []) (says running [] ∷ says ended_left (ins 3 ∷ ins 6 ∷ []) ∷ [])
    ∷ runs (pair 6 top G₁) 102 2 8 (opening ∷ []) (says ended_left (ins 3 ∷ []) ∷ [])
    -- A sequential node opens its right side first; a left that is never opened lets nothing out.
    ∷ runs (pair 7 top top) 54 0 0 (opening ∷ []) (says ended_right [] ∷ [])
    ∷ runs (pair 6 top top) 54 0 0 (opening ∷ []) (says ended_left [] ∷ [])
    ∷ runs (pair 5 G₁ bottom) 102 2 8 (opening ∷ []) (says halted [] ∷ [])
    ∷ runs (pair 5 G₁ W) 138 10 8 (opening ∷ []) (says running [] ∷ [])
    -- Closing stops at a decided node.
    ∷ runs (pair 7 W «V») 150 24 24 (opening ∷ close ∷ []) (says running [] ∷ says ended_left [] ∷ [])
    -- "A lone halted side is passed over: it accepts everything."
    ∷ runs (pair 7 H₃ W) 126 8 8 (opening ∷ offer 3 ∷ offer 3 ∷ []) (says running [] ∷ says running (sup 3 ∷ []) ∷ says running (sup 3 ∷ []) ∷ [])
    -- A counter of 0 is at least 0, so that spending nothing is always granted.
    ∷ runs (alone Z₁) 82 2 0 (opening ∷ offer 1 ∷ []) (says running [] ∷ says running (acc 1 ∷ []) ∷ [])
    -- "So is any action once the root has ended." "Closing a decided root emits nothing and answers its status."
    ∷ runs (alone E₃) 58 8 0 (opening ∷ offer 3 ∷ offer 3 ∷ offer 63 ∷ close ∷ [])
    (says running [] ∷ says ended (acc 3 ∷ []) ∷ says ended (acc 3 ∷ []) ∷ says ended (acc 63 ∷ []) ∷ says ended [] ∷ [])
    ∷ []

-- When a node is decided by an insert, the left's later steps never run: T's 0 and 2, H₃'s 0 and 1.
unfoldable pub StepsStop : Type 0
StepsStop = let t : Tree = tree (pair 5 T₄ H₃) in steps_run (items (trace (call t close (outcome (call t opening (fresh t))).state))) ≡ 4

-- ---- refusals 11 to 14, in their order

pub record Asking : Type 0 where
  pub policy : Bytes
  pub request : Request
  pub state : Bytes
  pub room : Bytes
  pub fault : Fault

-- a refusal returns its number, with the spot that the check gave, and writes nothing
unfoldable pub refused_by : Asking → Result
refused_by x = record { reply = refuses x.fault; state = x.state; events = x.room }

unfoldable pub given_by : Asking → Result
given_by x = entry x.policy x.request x.state x.room

-- closing it from this state is refused 12
unfoldable pub unfit : Bytes → Bytes → Asking
unfit policy state = record { policy = policy; request = close; state = state; room = replicate 512 7; fault = bare_fault 12 }

-- a state's bytes: the eight in front with the count of running leaves, the cells given, and zeros
unfoldable pub state_of : ℕ → List Bytes → Bytes
state_of count cs = take state_size (replicate 7 0 ++ (count ∷ (joined cs ++ replicate state_size 0)))

-- a node's cell with this status, and zeros
unfoldable pub only : ℕ → Bytes
only s = s ∷ replicate 7 0

-- the state of a pair: the count, statuses of its node and of its two sides, and zeros
unfoldable pub three_records : ℕ → ℕ → ℕ → ℕ → Bytes
unfolding state_of only
three_records count n l r = state_of count (only n ∷ only l ∷ only r ∷ [])

unfoldable pub refused_calls : List Asking
unfolding built unfit state_of only three_records
refused_calls =
    record { policy = []; request = opening; state = []; room = []; fault = bare_fault 1 }
    -- the check's, with its spot, before 11
    ∷ record { policy = pair 4 «V» W; request = opening; state = []; room = []; fault = fault_on 9 0 }
    ∷ record { policy = alone (leaf_of (1 ∷ []) 0 (next 1 2 ∷ ok 0 ∷ inserts 3 0 ∷ [])); request = offer 64; state = []; room = []; fault = fault_on 7 0 }
    -- 11 before 12, 13 and 14: "256 bytes"
    ∷ record { policy = alone bottom; request = offer 64; state = replicate 255 9; room = replicate 512 7; fault = bare_fault 11 }
    ∷ record { policy = alone bottom; request = close; state = replicate 257 0; room = replicate 512 7; fault = bare_fault 11 }
    ∷ record { policy = alone bottom; request = close; state = replicate 248 0; room = replicate 512 7; fault = bare_fault 11 }
    ∷ record { policy = alone bottom; request = opening; state = replicate 256 0; room = replicate 511 7; fault = bare_fault 11 }
    -- 12 before 13: no status 0
    ∷ record { policy = alone bottom; request = offer 64; state = replicate 256 0; room = replicate 512 7; fault = bare_fault 12 }
    -- a leaf at a step that is no next; a counter above its start; two bytes that are not zero; a record too many; the root dropped
    ∷ unfit (alone L) (state_of 1 ((1 ∷ 1 ∷ replicate 6 0) ∷ []))
    ∷ unfit (alone L) (state_of 1 ((1 ∷ 0 ∷ 0 ∷ 0 ∷ 0 ∷ 0 ∷ 0 ∷ 4 ∷ []) ∷ []))
    ∷ unfit (alone L) (state_of 1 ((1 ∷ 0 ∷ 0 ∷ 1 ∷ replicate 4 0) ∷ []))
    ∷ unfit (alone bottom) (state_of 0 (only 5 ∷ only 6 ∷ []))
    ∷ unfit (alone top) (state_of 0 (only 6 ∷ []))
    -- Request 04: "refusal 12 covers a wrong count": too few, too many, a trivial node counted; a byte before the count that is not zero
    ∷ unfit (alone L) (state_of 0 (only 1 ∷ []))
    ∷ unfit (alone L) (state_of 2 (only 1 ∷ []))
    ∷ unfit (alone top) (state_of 1 (only 2 ∷ []))
    ∷ unfit (pair 4 L L) (three_records 1 1 1 1)
    ∷ unfit (pair 4 L L) (three_records 3 1 1 1)
    ∷ unfit (alone top) (1 ∷ replicate 7 0 ++ (2 ∷ replicate 247 0))
    ∷ unfit (alone top) (replicate 6 0 ++ (1 ∷ 0 ∷ 2 ∷ replicate 247 0))
    -- a running "and" with a halted side, with both ended; a running "or" with an ended side, with both halted
    ∷ unfit (pair 4 bottom top) (three_records 0 1 5 2)
    ∷ unfit (pair 4 top top) (three_records 0 1 2 2)
    ∷ unfit (pair 6 bottom top) (three_records 0 1 5 2)
    ∷ unfit (pair 6 bottom bottom) (three_records 0 1 5 5)
    -- an "and" is not ended by one side, an "or" not by both; a side is dropped under a decided node, and under no other
    ∷ unfit (pair 4 top top) (three_records 0 3 6 6)
    ∷ unfit (pair 6 top top) (three_records 0 2 6 6)
    ∷ unfit (pair 4 top top) (three_records 0 2 2 2)
    ∷ unfit (pair 4 top W) (three_records 0 1 2 6)
    -- 13 before 14
    ∷ record { policy = alone bottom; request = offer 64; state = state_of 0 (only 5 ∷ []); room = replicate 512 7; fault = bare_fault 13 }
    ∷ record { policy = alone bottom; request = offer 63; state = state_of 0 (only 5 ∷ []); room = replicate 512 7; fault = bare_fault 14 }
    -- an ended root accepts 0 to 63
    ∷ record { policy = alone top; request = offer 64; state = state_of 0 (only 2 ∷ []); room = replicate 512 7; fault = bare_fault 13 }
    ∷ []

unfoldable pub AllRefused : Type 0
unfolding refused_by given_by
AllRefused = map given_by refused_calls ≡ map refused_by refused_calls

-- ---- request 04: the state's bytes after opening, after an action and after closing

-- the state that calls leave, each from the last one's
unfoldable pub state_after : Bytes → Bytes → List Request → Bytes
state_after policy state [] = state
state_after policy state (q ∷ qs) = state_after policy (entry policy q state (replicate event_room 0)).state qs

pub record Leaving : Type 0 where
  pub policy : Bytes
  pub requests : List Request
  pub state : Bytes

-- "Opening, each action and closing keep it true."
unfoldable pub leaving : List Leaving
unfolding built state_of only three_records
leaving =
    record { policy = alone L; requests = opening ∷ []; state = state_of 1 ((1 ∷ 0 ∷ 0 ∷ 0 ∷ 0 ∷ 0 ∷ 0 ∷ 3 ∷ []) ∷ []) }
    ∷ record { policy = alone L; requests = opening ∷ offer 2 ∷ []; state = state_of 1 ((1 ∷ 0 ∷ 0 ∷ 0 ∷ 0 ∷ 0 ∷ 0 ∷ 2 ∷ []) ∷ []) }
    ∷ record { policy = alone L; requests = opening ∷ close ∷ []; state = state_of 0 (only 2 ∷ []) }
    ∷ record { policy = pair 4 «V» V'; requests = opening ∷ []; state = three_records 2 1 1 1 }
    ∷ record { policy = pair 4 «V» V'; requests = opening ∷ close ∷ []; state = three_records 0 2 6 6 }
    ∷ record { policy = pair 4 E₃ V'; requests = opening ∷ offer 3 ∷ []; state = three_records 1 1 2 1 }
    -- trivial and unsatisfiable nodes are no leaves
    ∷ record { policy = pair 4 top W; requests = opening ∷ []; state = three_records 1 1 2 1 }
    ∷ record { policy = pair 6 L bottom; requests = opening ∷ offer 2 ∷ offer 2 ∷ offer 2 ∷ offer 2 ∷ []; state = three_records 0 5 6 6 }
    ∷ []

unfoldable pub AllLeft : Type 0
unfolding E₃
AllLeft = map (λ x. state_after x.policy (replicate state_size 255) x.requests) leaving ≡ map (λ x. x.state) leaving
