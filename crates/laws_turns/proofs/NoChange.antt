-- "No change", to the byte: a state that fits is saved again as the bytes that it was read from. So a call that ends in the state that it
-- found leaves every byte of it.
use Prim.Native.Nat.{ℕ, zero, ◌<◌}
use mathlib.Core.Path.{◌≡◌, refl, sym, ap, ◌∙◌, subst}
use mathlib.Core.Bool.{Bool, false, ◌&&◌}
use mathlib.Core.List.{◌++◌}
use lib.Dec.{T}
use lib.ListN.{length, drop, replicate, length-drop}
use Rattle.actions.specs.Sets.{Action, has}
use Rattle.actions.proofs.Tests.{no_of, and_right, or_left}
use Rattle.spec_policy.specs.Bytes.{Bytes, put, Small}
use Rattle.spec_policy.specs.Records.{node_count}
use Rattle.spec_policy.specs.Tree.{Tree, leaf, trivial, unsatisfiable, parallel, sequential, node, regulated, tree}
use Rattle.spec_policy.proofs.ByteLaws.{put-none, small-drop, zeros-are}
use Rattle.spec_check.specs.Passed.{Passed}
use Rattle.spec_check.proofs.Numbers.{all_held, root-number}
use Rattle.spec_check.proofs.Rows.{counts-fit}
use Rattle.laws_check.proofs.LawfulTree.{lawful, numbers-below-nodes}
use Rattle.spec_turns.specs.Status.{Status, status_of, is_running, has_ended, is_halted, is_decided}
use Rattle.spec_turns.specs.State.{State, status}
use Rattle.spec_turns.specs.Process.{accepts, Process, does, trace, items, outcome}
use Rattle.spec_turns.specs.Turn.{before, closing, quiet, is_asked, if_asked, phase, Request, offer, close, call}
use Rattle.spec_turns.specs.Events.{event_of, events, event_bytes}
use Rattle.spec_turns.specs.Saved.{ahead_size, state_size, cells, cell_place, status_at, load, saved_cells, running_leaves, ahead, saved, fits}
use Rattle.spec_turns.specs.Entries.{answers, carried, carried_out, entry}
use Rattle.spec_turns.proofs.States.{decided-stops}
use Rattle.laws_turns.proofs.Cells.{lawful-apart, kept_same, cells_same, cells-size, cells-kept, cells-length}
use Rattle.laws_turns.specs.Cells.{cell_at}
use Rattle.laws_turns.proofs.Fits.{Fitting, fitting, fits_kept, cells-tail, status-at, fits-cells, fits-ahead}
use Rattle.laws_turns.proofs.Lasting.{in_cells}
use Rattle.laws_turns.proofs.Answered.{Answered, answered, Reads, room-kept, state-fits, file-passed}
use Rattle.laws_turns.specs.Calls.{root_status, no_change, accepted_unchanged}

-- ---- a state that fits, saved again

module _ (file : Bytes) (ok : Passed file) (state : Bytes) (size : length state ≡ state_size) (small : Small state) (fit : T (fits file state)) where
  abbrev t : Tree
  t = tree file

  abbrev n : ℕ
  n = node_count file

  abbrev records : Bytes
  records = cells state

  abbrev again : Bytes
  again = saved_cells t (load t records)

  parts : Fitting file records
  parts = fitting file records (fits-cells file state fit)

  same-cells : (i : ℕ) → i < n → cell_at again i ≡ cell_at records i
  unfolding cells
  same-cells i h =
      kept_same t (load t records) again records (cells-kept t (lawful-apart t (lawful file ok)) (in_cells file ok) (load t records))
      (fits_kept records (cells-size state size) (small-drop ahead_size state small) false t (λ k u. (in_cells file ok k u, parts.zeros k (numbers-below-nodes file ok k u))) parts.nodes-fit)
      i (all_held file ok.kept5 i h)

  -- "node records from n on .. are zero", in both
  same_rest : drop (cell_place n) again ≡ drop (cell_place n) records
  same_rest =
      let e : length (drop (cell_place n) again) ≡ length (drop (cell_place n) records) = simp (length-drop, cells-length t (in_cells file ok) (load t records), cells-size state size) in
      zeros-are (drop (cell_place n) again) (cells-tail n (counts-fit file ok.kept3).few-nodes t (numbers-below-nodes file ok) (load t records))
      ∙ ap (λ (k : ℕ). replicate k zero) e
      ∙ sym (zeros-are (drop (cell_place n) records) parts.rest-zero)

  -- Each number below n is a node's, so that every byte of the cells is told by what was read of it; and the bytes in front by the count.
  pub saved-load : saved (tree file) (load (tree file) (cells state)) ≡ state
  unfolding saved
  saved-load = ap (λ (bs : Bytes). ahead (running_leaves t (load t records)) ++ bs) (cells_same again records n same-cells same_rest) ∙ fits-ahead file state small size fit

-- ---- a root that is not asked

pub unasked : (t : Tree) (a : Action) (s : State) → is_asked (regulated t) (before a) s ≡ false → call t (offer a) s ≡ does (accepts a) (quiet s)
unfolding call
unasked t a s e = rw (e, call)

pub decided-quiet : (t : Tree) (s : State) → is_running (status s) ≡ false → phase t closing s ≡ quiet s
unfolding phase if_asked is_asked
decided-quiet (leaf i r c code) s e = rw (e, if_asked)
decided-quiet (trivial i) s e = rw (e, if_asked)
decided-quiet (unsatisfiable i) s e = rw (e, if_asked)
decided-quiet (node parallel j i l r) s e = rw (e, if_asked)
decided-quiet (node sequential j i l r) s e = rw (e, if_asked)

-- ---- the calls

module _ (policy state room : Bytes) (small : Small state) where
  -- the tree, and the state that the bytes hold
  abbrev p : Tree
  p = tree policy

  abbrev found : State
  found = load p (cells state)

  root-read : status found ≡ root_status state
  root-read = sym (status-at p (cells state)) ∙ ap (λ (i : ℕ). status_of (status_at (cells state) i)) (root-number policy)

  not-running : T (is_decided (root_status state)) → is_running (status found) ≡ false
  not-running h = decided-stops (status found) (subst (λ (x : Status). T (is_decided x)) (sym root-read) h)

  -- what is given where the call's process ends in the state that was found
  unchanged : (q : Request) → Reads q → Answered policy q state room → (w : Process) → call p q found ≡ w → (outcome w).state ≡ found
      → entry policy q state room ≡ no_change (length (events (items (trace w)))) state (put room 0 (event_bytes (events (items (trace w)))))
  unfolding no_change carried_out carried
  unchanged q r h w e f =
      let b : saved p found ≡ state =
      saved-load policy (file-passed policy q state room h) state (room-kept policy q state room h).state-size small (state-fits policy q state room r h) in
      h.given ∙ rw (e, f, root-read, b)

  module _ (a : Action) (n : ℕ) (s : Status) (e : (entry policy (offer a) state room).reply ≡ answers n s) where
    unasked-stays : is_asked (regulated p) (before a) found ≡ false → entry policy (offer a) state room ≡ accepted_unchanged a state room
    unfolding accepted_unchanged Reads quiet outcome trace items events event_of
    unasked-stays h = unchanged (offer a) tt (answered policy (offer a) state room n s e) (does (accepts a) (quiet found)) (unasked p a found h) refl

    -- "At the root, an action not regulated is accepted with no change."
    pub unregulated-stays : has (regulated (tree policy)) a ≡ false → entry policy (offer a) state room ≡ accepted_unchanged a state room
    unfolding is_asked
    unregulated-stays h = unasked-stays (no_of (is_running (status found) && has (regulated p) a) (λ u. subst T h (and_right (is_running (status found)) (has (regulated p) a) u)))

    -- "So is any action once the root has ended."
    pub ended-stays : T (has_ended (root_status state)) → entry policy (offer a) state room ≡ accepted_unchanged a state room
    unfolding is_asked is_decided
    ended-stays h =
        let r : is_running (status found) ≡ false = not-running (or_left (has_ended (root_status state)) (is_halted (root_status state)) h) in
        unasked-stays (ap (λ (b : Bool). b && has (regulated p) a) r)

  -- "Closing a decided root emits nothing and answers its status."
  pub decided-closes : (n : ℕ) (s : Status) → (entry policy close state room).reply ≡ answers n s → T (is_decided (root_status state))
      → entry policy close state room ≡ no_change 0 state room
  unfolding Reads call quiet outcome trace items events event_bytes
  decided-closes n s e h =
      unchanged close tt (answered policy close state room n s e) (quiet found) (decided-quiet p found (not-running h)) refl ∙ ap (no_change 0 state) (put-none room 0)
