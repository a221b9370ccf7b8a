-- A call that is carried out: how many events it has, and that counting them by their bytes counts its actions.
use Prim.Native.Nat.{ℕ, ◌+◌, ◌*◌, ◌≤◌}
use native.Mathlib.Omega.{arith}
use mathlib.Core.Path.{◌≡◌, refl, sym, ap, ap₂, ◌∙◌}
use mathlib.Core.List.{List, [], ◌++◌}
use lib.ListN.{length, drop}
use Rattle.spec_policy.specs.Bytes.{Bytes, put}
use Rattle.spec_policy.specs.Tree.{tree}
use Rattle.spec_policy.proofs.ByteLaws.{put-length}
use Rattle.spec_check.specs.Passed.{Passed}
use Rattle.laws_check.proofs.LawfulTree.{lawful, spread-255}
use Rattle.spec_turns.specs.Status.{status_number}
use Rattle.spec_turns.specs.State.{status}
use Rattle.spec_turns.specs.Process.{outcome}
use Rattle.spec_turns.specs.Turn.{Request, call}
use Rattle.spec_turns.specs.Events.{Event, events, event_bytes}
use Rattle.spec_turns.specs.Saved.{cells, load}
use Rattle.spec_turns.specs.Entries.{carried, carried_out}
use Rattle.laws_turns.proofs.Bounds.{two-each}
use Rattle.laws_turns.proofs.Spread.{events-bound}
use Rattle.spec_trace.specs.Tallies.{actions_tallied}
use Rattle.spec_trace.specs.Traces.{ran_by}
use Rattle.spec_trace.proofs.TallyLaws.{actions-by-events}
use Rattle.faults.specs.declared.Fault.{Fault}
use Rattle.std.specs.Prelude.{Ok, Err}
use Rattle.call_answer.specs.declared.Answered.{Answered}
use Rattle.call_answer.specs.Replies.{Answer, spoken, Gave}
use Rattle.trace_events.specs.Counts.{bytes_tallied}
use Rattle.trace_events.proofs.EventLaws.{bytes-events}

-- ---- the call

put_front : (room over : Bytes) → put room 0 over ≡ over ++ drop (0 + length over) room
unfolding put
put_front room over = refl

module _ (policy : Bytes) (q : Request) (state room : Bytes) where
  abbrev es : List Event
  es = events (ran_by policy q state)

  module _ {r : Answer} {bytes room' : Bytes} (g : Gave (carried_out policy q state room) r bytes room') where
    answer-is : r ≡ Ok (record {
      events = length (events (ran_by policy q state));
      status = status_number (status (outcome (call (tree policy) q (load (tree policy) (cells state)))).state);
    })
    unfolding carried_out carried spoken ran_by
    answer-is = g.answer

    room-is : room' ≡ put room 0 (event_bytes (events (ran_by policy q state)))
    unfolding carried_out carried ran_by
    room-is = g.events

    -- it is answered
    pub not-refused : {f : Fault} → r ≡ Err f → ⊥
    not-refused {f} e = let same = sym e ∙ answer-is in cc

    module _ {a : Answered} (e : r ≡ Ok a) where
      answer-said : a ≡ record {
        events = length (events (ran_by policy q state));
        status = status_number (status (outcome (call (tree policy) q (load (tree policy) (cells state)))).state);
      }
      answer-said = let same = sym e ∙ answer-is in cc

      pub root-answered : a.status ≡ status_number (status (outcome (call (tree policy) q (load (tree policy) (cells state)))).state)
      root-answered = ap (λ (x : Answered). x.status) answer-said

      count-is : a.events ≡ length (events (ran_by policy q state))
      count-is = ap (λ (x : Answered). x.events) answer-said

      few : Passed policy → 2 * length (events (ran_by policy q state)) ≤ 512
      unfolding ran_by
      few ok = omega (arith, events-bound (tree policy) (lawful policy ok) q (load (tree policy) (cells state)), spread-255 policy ok)

      -- its events have room
      pub events-fit : Passed policy → 512 ≤ length room → 2 * a.events ≤ length room'
      events-fit ok wide =
          let f = few ok in
          let l = put-length room 0 (event_bytes es) (omega (arith, two-each es, f, wide)) in
          omega (arith, f, wide, count-is, ap length room-is, l)

      -- and by their bytes its actions are counted
      pub events-counted : (counts : List ℕ) → bytes_tallied a.events room' 0 counts ≡ actions_tallied (ran_by policy q state) counts
      events-counted counts =
          ap₂ (λ (m : ℕ) (bs : Bytes). bytes_tallied m bs 0 counts) count-is (room-is ∙ put_front room (event_bytes es))
          ∙ bytes-events es [] (drop (0 + length (event_bytes es)) room) counts ∙ sym (actions-by-events (ran_by policy q state) counts)
