-- An answered call's events: at most spread + 1, so that they fit the least room, and nothing after them is touched.
use Prim.Native.Nat.{ℕ, ◌+◌, ◌*◌, ◌≤◌}
use native.Mathlib.Omega.{arith}
use mathlib.Core.Path.{◌≡◌, refl, sym, ◌∙◌, ap}
use mathlib.Core.List.{List, [], ◌∷◌}
use lib.ListN.{length, drop}
use Rattle.spec_policy.specs.Bytes.{Bytes, put}
use Rattle.spec_policy.specs.Tree.{tree}
use Rattle.spec_policy.proofs.ByteLaws.{put-length, drop-after}
use Rattle.spec_check.specs.Spread.{spread}
use Rattle.laws_check.proofs.LawfulTree.{lawful, spread-255}
use Rattle.spec_turns.specs.Status.{Status}
use Rattle.spec_turns.specs.Process.{items, trace}
use Rattle.spec_turns.specs.Turn.{Request, call}
use Rattle.spec_turns.specs.Events.{Event, accepted, suppressed, inserted, events, event_bytes}
use Rattle.spec_turns.specs.Saved.{cells, load}
use Rattle.spec_turns.specs.Entries.{Reply, answers, refuses, event_room, Result, carried_out, entry}
use Rattle.laws_turns.proofs.Spread.{events-bound}
use Rattle.laws_turns.proofs.Answered.{Answered, answered, room-kept, file-passed}
use Rattle.laws_turns.specs.Calls.{Emits}

pub two-each : (es : List Event) → length (event_bytes es) ≡ 2 * length es
unfolding event_bytes
two-each [] = refl
two-each (accepted a ∷ es) = omega (arith, two-each es)
two-each (suppressed a ∷ es) = omega (arith, two-each es)
two-each (inserted a ∷ es) = omega (arith, two-each es)

events_in : Reply → ℕ
events_in (answers n s) = n
events_in (refuses n) = 0

module _ (policy : Bytes) (q : Request) (state room : Bytes) where
  told : List Event
  told = events (items (trace (call (tree policy) q (load (tree policy) (cells state)))))

  pub answered-emits : (n : ℕ) (s : Status) → (entry policy q state room).reply ≡ answers n s → Emits policy q state room n
  unfolding carried_out told events_in
  answered-emits n s e =
      let h : Answered policy q state room = answered policy q state room n s e in
      let count : length told ≡ n = sym (ap (λ (x : Result). events_in x.reply) h.given) ∙ ap events_in e in
      let most : length told ≤ spread (tree policy) + 1 = events-bound (tree policy) (lawful policy (file-passed policy q state room h)) q (load (tree policy) (cells state)) in
      let narrow : spread (tree policy) ≤ 255 = spread-255 policy (file-passed policy q state room h) in
      let wide : event_room ≤ length room = (room-kept policy q state room h).event-room in
      let long : length (event_bytes told) ≡ 2 * n = two-each told ∙ ap (λ (k : ℕ). 2 * k) count in
      let fit : 0 + length (event_bytes told) ≤ length room = omega arith in
      let given : (entry policy q state room).events ≡ put room 0 (event_bytes told) = ap (λ (x : Result). x.events) h.given in
      record {
        few = omega arith;
        room-enough = omega arith;
        same_length = ap (λ (x : Bytes). length x) given ∙ put-length room 0 (event_bytes told) fit;
        untouched = ap (λ (x : Bytes). drop (2 * n) x) given ∙ drop-after room 0 (event_bytes told) (2 * n) fit (omega arith);
      }
