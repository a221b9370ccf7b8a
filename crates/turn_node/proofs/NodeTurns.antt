-- A node that is not asked, one that is over as soon as it is asked, and which kind of node the code has read.
use Prim.Native.Nat.{ℕ, ◌+◌, ◌<◌}
use native.Mathlib.Omega.{arith}
use mathlib.Core.Path.{◌≡◌, refl, sym, ap, ◌∙◌, subst}
use mathlib.Core.Bool.{Bool, true, false}
use mathlib.Core.List.{List}
use lib.Dec.{eqb}
use lib.ListN.{get_or, set}
use Rattle.spec_policy.specs.Bytes.{Bytes}
use Rattle.spec_policy.specs.Records.{node_place, node_at}
use Rattle.spec_policy.specs.Tree.{aPair, node_kind, Tree, trivial, unsatisfiable, tree_at, regulated}
use Rattle.spec_check.proofs.Numbers.{number_at}
use Rattle.spec_turns.specs.Status.{Status, is_running, status_of}
use Rattle.spec_turns.specs.State.{State, leaf_over}
use Rattle.spec_turns.specs.Turn.{Phase, is_asked, quiet}
use Rattle.turn_paths.specs.Run.{halts, flat}
use Rattle.turn_paths.specs.Memory.{Cell, Mem, leaf_with, held, ran_of}
use Rattle.turn_paths.specs.Choices.{asked_in}
use Rattle.turn_paths.specs.Paths.{within, GoesOn}
use Rattle.turn_paths.proofs.Begin.{asked-in, asked-works, works}
use Rattle.turn_paths.proofs.PathLaws.{shows_same}
use Rattle.turn_paths.proofs.TurnLaws.{turned-idle}
use Rattle.turn_memory.specs.Words.{Words, set_place, packed, memory_of, Only}
use Rattle.turn_memory.proofs.CellLaws.{celled-packed, view-here, only_set}
use Rattle.turn_sides.specs.Sides.{kind_at, join_of_kind, join_at}
use Rattle.turn_tables.specs.Tables.{path_at}
use Rattle.turn_ends.specs.Ends as ends
use Rattle.turn_place.specs.Places.{Stands, Asked}
use Rattle.turn_place.proofs.LeafPlaces.{low}
use Rattle.file_records.specs.Kinds.{kind_of, way_of, join_of}
use Rattle.file_records.specs.declared.Kind.{Kind}
use Rattle.file_records.specs.declared.Kind.TheVariants as kinds
use Rattle.file_records.specs.declared.Way.{Way}
use Rattle.file_records.specs.declared.Join.{Join}
use Rattle.turn_node.specs.Turns.{TurnsAt}
use Rattle.turn_node.proofs.Parts.{moved_none, moved-own, to-turns}
use Rattle.turn_node.proofs.LeafTurns.{own-write, own-kept}

module _ {policy : Bytes} {ws : Words} {i : ℕ} (h : Stands policy ws i) (ph : Phase) where
  abbrev t : Tree
  t = tree_at policy i

  -- ---- whether it is asked, as the code reads it

  asked-as : is_asked (regulated (tree_at policy i)) ph (held (tree_at policy i) (memory_of ws)) ≡ asked_in (get_or ws (set_place + i) 0) ph (memory_of ws i)
  asked-as =
      asked-in (regulated t) ph t (memory_of ws) ∙ ap (λ (n : ℕ). asked_in (regulated t) ph (memory_of ws n)) (number_at policy i)
      ∙ ap (λ (s : ℕ). asked_in s ph (memory_of ws i)) (sym (h.tabled.entered i h.inside).set)

  pub is-asked : {v : Bool} → v ≡ asked_in (get_or ws (set_place + i) 0) ph (memory_of ws i) → v ≡ true → Asked policy ws i ph
  is-asked e z = asked-as ∙ sym e ∙ z

  pub idle-turn : {v : Bool} {counting : Bool} {cs : List ℕ} → v ≡ asked_in (get_or ws (set_place + i) 0) ph (memory_of ws i) → v ≡ false → TurnsAt counting policy cs cs i ph ws ws 0
  unfolding ends.ended
  idle-turn e z = to-turns (turned-idle (path_at policy ws i) t ph (memory_of ws) (asked-as ∙ sym e ∙ z)) moved_none

  -- ---- over at once

  over-turn : {ws' : Words} {counting : Bool} {cs : List ℕ} (s : Status) → ran_of t ph (held t (memory_of ws)) ≡ halts (record { state = leaf_over s; suppressed = false }) → held t (memory_of ws') ≡ leaf_over s
      → Only i ws ws' → TurnsAt counting policy cs cs i ph ws ws' 0
  unfolding ends.ended GoesOn
  over-turn {ws'} s e f o =
      to-turns (record {
        runs = λ c ec. shows_same (ap (within c (memory_of ws)) (e ∙ ap (λ (x : State). halts (record { state = x; suppressed = false })) (sym f)) ∙ sym (own-write h o c ec _));
        kept = λ n z r q. own-kept h o n z;
      }) (moved-own (low h) moved_none o)

  module _ (a : Asked policy ws i ph) {ws' : Words} {r : ℕ} (er : r ≡ 0) where
    -- a node with nothing beneath it, whose phase only gives it this status
    over-with : {counting : Bool} {cs : List ℕ} (u : Tree) (n : ℕ) → n < 256 → is_running (status_of n) ≡ false → t ≡ u
        → (is_asked (regulated u) ph (held u (memory_of ws)) ≡ true → ran_of u ph (held u (memory_of ws)) ≡ halts (record { state = leaf_over (status_of n); suppressed = false }))
        → ((m : Mem) → held u m ≡ leaf_with (m i).status (m i).asked 0 0) → ws' ≡ set ws i (packed n 0 0 0) → TurnsAt counting policy cs cs i ph ws ws' r
    unfolding leaf_with
    over-with {counting} {cs} u n small decided e runs bare w = subst (λ (q : ℕ). TurnsAt counting policy cs cs i ph ws ws' q) (sym er) (over-turn (status_of n)
        (subst (λ (x : Tree). is_asked (regulated x) ph (held x (memory_of ws)) ≡ true → ran_of x ph (held x (memory_of ws)) ≡ halts (record { state = leaf_over (status_of n); suppressed = false })) (sym e) runs a)
        (subst (λ (x : Tree). held x (memory_of ws') ≡ leaf_over (status_of n)) (sym e) (bare (memory_of ws') ∙ ap (λ (c : Cell). leaf_with c.status c.asked 0 0) cell-now ∙ rw (decided, leaf_with)))
        (subst (Only i ws) (sym w) (only_set ws i (packed n 0 0 0))))
      where
        cell-now : memory_of ws' i ≡ record { status = status_of n; asked = eqb 0 1; offset = 0; counter = 0 }
        cell-now =
            ap (λ (x : Words). memory_of x i) w ∙ view-here ws i (packed n 0 0 0) (low h) (omega (arith, low h, h.sized)) ∙ celled-packed n 0 0 0 small (omega arith) (omega arith) (omega arith)

    pub trivial-turn : {counting : Bool} {cs : List ℕ} → t ≡ trivial i → ws' ≡ set ws i (packed 2 0 0 0) → TurnsAt counting policy cs cs i ph ws ws' r
    unfolding works quiet flat held status_of is_running
    trivial-turn e w = over-with (trivial i) 2 (omega arith) refl e (asked-works (trivial i) ph (held (trivial i) (memory_of ws))) (λ m. refl) w

    pub unsatisfiable-turn : {counting : Bool} {cs : List ℕ} → t ≡ unsatisfiable i → ws' ≡ set ws i (packed 5 0 0 0) → TurnsAt counting policy cs cs i ph ws ws' r
    unfolding works quiet flat held status_of is_running
    unsatisfiable-turn e w = over-with (unsatisfiable i) 5 (omega arith) refl e (asked-works (unsatisfiable i) ph (held (unsatisfiable i) (memory_of ws))) (λ m. refl) w

-- ---- the kind that the code has read

module _ (policy : Bytes) (i : ℕ) {at : ℕ} (p : at ≡ node_place i) (k : Kind) (read : kind_of k ≡ node_kind (node_at policy at).kind) where
  pub kind-at : {x : Kind} → k ≡ x → kind_at policy i ≡ kind_of x
  unfolding kind_at
  kind-at e = sym (read ∙ ap (λ (x : ℕ). node_kind (node_at policy x).kind) p) ∙ ap kind_of e

  pub pair-kind : {w v : Way} {j : Join} → k ≡ kinds.Pair w j → w ≡ v → kind_at policy i ≡ aPair (way_of v) (join_at policy i)
  unfolding kind_of join_at join_of_kind
  pair-kind {w} {v} {j} e f =
      let z : kind_at policy i ≡ aPair (way_of v) (join_of j) = kind-at e ∙ ap (λ (u : Way). aPair (way_of u) (join_of j)) f in
      z ∙ ap (aPair (way_of v)) (sym (ap join_of_kind z))
