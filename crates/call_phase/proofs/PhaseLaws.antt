-- The root's phase: where the root stands, and what its run, told as events, gives.
use Prim.Native.Nat.{ℕ, zero, suc, ◌+◌, ◌*◌, ◌≤◌}
use native.Mathlib.Omega.{arith}
use mathlib.Core.Path.{◌≡◌, sym, ap, ◌∙◌, subst}
use mathlib.Core.Bool.{Bool}
use mathlib.Core.List.{List, [], map}
use lib.Dec.{eqb, ltb}
use lib.ListN.{length, get_or, length-map}
use Rattle.actions.specs.Sets.{Action}
use Rattle.spec_policy.specs.Bytes.{Bytes, put}
use Rattle.spec_policy.specs.Tree.{Tree, tree_at, tree}
use Rattle.spec_check.specs.Passed.{Passed}
use Rattle.spec_check.proofs.Numbers.{tree-top}
use Rattle.laws_check.proofs.LawfulTree.{lawful, spread-255}
use Rattle.spec_turns.specs.State.{State}
use Rattle.spec_turns.specs.Process.{Item, Out, outcome}
use Rattle.spec_turns.specs.Turn.{Phase, phase}
use Rattle.spec_turns.specs.Events.{Event, inserted, event_bytes}
use Rattle.laws_turns.proofs.Spread.{phase-bound, events-count}
use Rattle.laws_turns.proofs.Throughout.{phase-no-verdict}
use Rattle.spec_trace.specs.Tallies.{steps_if}
use Rattle.turn_paths.specs.Run.{halts, first}
use Rattle.turn_paths.specs.Memory.{Mem, held, ran_of}
use Rattle.turn_paths.specs.Paths.{Feeder, done, Turned}
use Rattle.turn_paths.specs.Beneath.{Beneath, top}
use Rattle.turn_paths.proofs.Frames.{held_same}
use Rattle.turn_paths.proofs.PlaceLaws.{at-root, no_stop}
use Rattle.turn_memory.proofs.CellLaws.{view-same}
use Rattle.turn_memory.specs.Words.{Words, count_place, word_count, memory_of}
use Rattle.turn_memory.specs.Told.{Tells}
use Rattle.turn_ends.specs.Ends.{ended}
use Rattle.turn_tables.specs.Tables.{feeder_at, as_feeder, risen, climb, path_at}
use Rattle.turn_tables.proofs.FileNodes.{room}
use Rattle.turn_tables.proofs.TableLaws.{tabled-same}
use Rattle.turn_told.specs.Sent.{Kept, Sent}
use Rattle.turn_place.specs.Places.{Stands, Keeps}
use Rattle.turn_node.specs.Turns.{lets_in, Turns, TurnsAt}
use Rattle.call_phase.specs.Phased.{Ready, items_of, events_of, Phased}
use Rattle.call_phase.proofs.Wholes.{phase-items, phase-outcome, events-lets}

-- ---- the root

root-path : (policy : Bytes) (ws : Words) → feeder_at ws 0 ≡ 31 → path_at policy ws 0 ≡ []
unfolding climb risen
root-path policy ws e = ap (λ (n : ℕ). risen (ltb n 31) (as_feeder policy n) (climb 30 policy ws n)) e

pub root_stands : {policy : Bytes} {ws : Words} → Ready policy ws → Stands policy ws 0
root_stands {policy} {ws} h =
    let r = room h.passed in
    record {
      passed = h.passed;
      sized = h.sized;
      tabled = h.tabled;
      inside = omega arith;
      beneath = subst (Beneath (tree policy) (tree_at policy 0)) (sym (root-path policy ws h.tabled.linked.root))
          (subst (λ (t : Tree). Beneath (tree policy) t []) (tree-top policy) top);
    }

-- ---- how many events a phase has

few-events : {policy : Bytes} → Passed policy → (ph : Phase) (s : State) → length (events_of (tree policy) ph s) ≤ 255
unfolding events_of
few-events {policy} ok ph s =
    omega (arith, events-count (phase (tree policy) ph s), phase-bound 1 (tree policy) (lawful policy ok) ph s, spread-255 policy ok)

-- the least room has room for them
pub phase-room : {policy : Bytes} → Passed policy → (ph : Phase) (s : State) (room : Bytes) → 512 ≤ length room → 2 * (0 + length (events_of (tree policy) ph s)) ≤ length room
phase-room ok ph s room h = omega (arith, few-events ok ph s)

-- ---- its turn

-- at the root it is done: suppressed or not
turned-done : {t : Tree} {ph : Phase} {m m' : Mem} {xs : List Item} (x : ℕ) → Turned [] t ph m m' xs (ended x) → Turned [] t ph m m' xs (done (eqb x 1))
unfolding ended
turned-done zero h = h
turned-done (suc zero) h = h
turned-done (suc (suc n)) h = absurd (no_stop h)

-- the root's turn was run, with these items
record Went (counting : Bool) (policy : Bytes) (cs cs' : List ℕ) (t : Tree) (ph : Phase) (ws ws' : Words) (u : Bool) : Type 0 where
  steps : cs' ≡ steps_if counting policy (items_of t ph (held t (memory_of ws))) cs
  inserts : List Action
  told : events_of t ph (held t (memory_of ws)) ≡ map inserted inserts
  tells : length inserts ≤ 255 → Tells ws [] → Tells ws' inserts
  ends : outcome (phase t ph (held t (memory_of ws))) ≡ record { state = held t (memory_of ws'); suppressed = u }
  keeps : Keeps ws ws'

went : {t : Tree} {ph : Phase} {ws ws' : Words} {counting : Bool} {policy : Bytes} {cs cs' : List ℕ} (x : ℕ) → Turns counting policy cs cs' [] t ph ws ws' (ended x)
    → Went counting policy cs cs' t ph ws ws' (eqb x 1)
unfolding items_of events_of
went {t} {ph} {ws} {ws'} {counting} {policy} {cs} x h =
    let s : State = held t (memory_of ws) in
    let y : Out = record { state = held t (memory_of ws'); suppressed = eqb x 1 } in
    let e : ran_of t ph s ≡ first h.items (halts y) = at-root (turned-done x h.turned) in
    record {
      steps = h.steps ∙ ap (λ (xs : List Item). steps_if counting policy xs cs) (sym (phase-items t ph s h.items y e));
      inserts = lets_in h.items;
      told = events-lets (phase t ph s) (phase-no-verdict t ph s) ∙ ap (λ (xs : List Item). map inserted (lets_in xs)) (phase-items t ph s h.items y e);
      tells = λ few none. h.told.more [] none (omega (arith, few));
      ends = phase-outcome t ph s h.items y e;
      keeps = h.keeps;
    }

module _ {policy : Bytes} {ph : Phase} {ws ws₁ : Words} (x : ℕ) (ready : Ready policy ws) {counting : Bool} {cs cs₁ : List ℕ} (turned : TurnsAt counting policy cs cs₁ 0 ph ws ws₁ x) where
  gone : Went counting policy cs cs₁ (tree policy) ph ws ws₁ (eqb x 1)
  gone =
      went x (subst (λ (t : Tree). Turns counting policy cs cs₁ [] t ph ws ws₁ (ended x)) (sym (tree-top policy))
      (subst (λ (fs : List Feeder). Turns counting policy cs cs₁ fs (tree_at policy 0) ph ws ws₁ (ended x)) (root-path policy ws ready.tabled.linked.root) turned))

  -- its steps are counted
  pub stepped : cs₁ ≡ steps_if counting policy (items_of (tree policy) ph (held (tree policy) (memory_of ws))) cs
  stepped = gone.steps

  abbrev es : List Action
  es = gone.inserts

  counted : length (events_of (tree policy) ph (held (tree policy) (memory_of ws))) ≡ length es
  counted = ap (λ (l : List Event). length l) gone.told ∙ length-map es inserted

  tells : Tells ws₁ es
  tells = gone.tells (omega (arith, counted, few-events ready.passed ph (held (tree policy) (memory_of ws)))) ready.none

  -- what telling asks
  pub can-tell : (room : Bytes) (count : ℕ) → 2 * (count + length (events_of (tree policy) ph (held (tree policy) (memory_of ws)))) ≤ length room
      → ((length ws₁ ≡ word_count) × (get_or ws₁ count_place 0 ≤ 255)) × (2 * (count + get_or ws₁ count_place 0) ≤ length room)
  can-tell room count h =
      let t = tells in
      ((gone.keeps.sized ∙ ready.sized, omega (arith, t.count, t.few)), omega (arith, t.count, counted))

  module _ {ws₂ : Words} (kept : Kept ws₁ ws₂) where
    held_kept : held (tree policy) (memory_of ws₂) ≡ held (tree policy) (memory_of ws₁)
    held_kept = held_same (tree policy) (memory_of ws₁) (memory_of ws₂) (λ i e. view-same ws₁ ws₂ i (λ l. kept.cells i l))

    module _ {room room' : Bytes} {count r : ℕ} (sent : (bs : List Action) → Tells ws₁ bs → Sent bs ws₂ room room' count r) where
      pub phased : Phased (tree policy) ph (memory_of ws) (memory_of ws₂) room room' count r (eqb x 1)
      phased = let s = sent es tells in record {
        added = record {
          told = s.events ∙ ap (λ (l : List Event). put room (2 * count) (event_bytes l)) (sym gone.told);
          counted = s.counted ∙ ap (λ (n : ℕ). count + n) (sym counted);
        };
        ends = gone.ends ∙ ap (λ (z : State). record { state = z; suppressed = eqb x 1 }) (sym held_kept);
      }

      pub ready-again : Ready policy ws₂
      ready-again = record {
        passed = ready.passed;
        sized = kept.size ∙ gone.keeps.sized ∙ ready.sized;
        tabled = tabled-same policy ws ws₂ (λ k h. kept.tables k h ∙ gone.keeps.tables k h) ready.tabled;
        none = (sent es tells).none;
      }
