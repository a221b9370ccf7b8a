-- A phase of a node with two sides, from its sides' phases, where the file has it.
use Prim.Native.Nat.{ℕ, ◌-◌, ◌≤◌, ◌<◌}
use native.Mathlib.Omega.{arith}
use mathlib.Core.Path.{◌≡◌, refl, sym, ap, ap₂, ◌∙◌, subst, subst₂}
use mathlib.Core.Bool.{Bool, true, false}
use mathlib.Core.List.{List, [], ◌∷◌, ◌++◌}
use lib.Dec.{ltb, eqb}
use borrow.Author.Tests.{ne_eqb, eqb-true}
use mathlib.Core.Logic.{◌⊎◌, inl, inr}
use Rattle.spec_policy.specs.Bytes.{Bytes}
use Rattle.spec_policy.specs.Tree.{Way, parallel, sequential, aPair, Tree, node, tree_at, regulated, number_of}
use Rattle.spec_check.specs.Lawful.{Numbered}
use Rattle.spec_check.proofs.Numbers.{number_at}
use Rattle.spec_turns.specs.Status.{Status, is_running, joined}
use Rattle.spec_turns.specs.Process.{Item}
use Rattle.spec_turns.specs.Turn.{Phase, before, after, closing, is_asked, still_asked}
use Rattle.turn_paths.specs.Memory.{Mem, held}
use Rattle.turn_paths.specs.Choices.{Settled, goes_on, end_sup}
use Rattle.turn_paths.specs.Paths.{Feeder, Ended, stopped, Turned, LeftOver}
use Rattle.turn_paths.proofs.Frames.{same_or_not}
use Rattle.turn_paths.proofs.TurnLaws.{
  par-stop-left,
  par-stop-right,
  par-done,
  AtLeft,
  starts-before,
  starts-closing,
  seq-stopped-here,
  seq-stopped-above,
  seq-left,
  seq-over,
  seq-own-stopped,
  seq-own,
  seq-first-stopped,
  seq-first-over,
  seq-first-on,
}
use Rattle.turn_memory.specs.Words.{Words, memory_of}
use Rattle.turn_memory.specs.Phases.{after_number, phase_of}
use Rattle.turn_sides.specs.Sides.{kind_at, left_at, right_at, join_at}
use Rattle.turn_sides.proofs.Nodes.{numbered-here}
use Rattle.turn_tables.specs.Tables.{as_feeder, path_at}
use Rattle.turn_tables.proofs.TableLaws.{path-same}
use Rattle.turn_ends.specs.Ends.{ended, ParEnd, SeqEnd, Caught}
use Rattle.turn_place.specs.Places.{Keeps, Stands, Sequential, Asked}
use Rattle.turn_place.proofs.LeafPlaces.{low}
use Rattle.turn_place.proofs.Ways.{sided-of, pair-tree}
use Rattle.turn_place.proofs.SidePlaces.{apart-node, path-right, path-left-parallel, path-left}
use Rattle.turn_node.specs.Turns.{lets_in, Turns, TurnsAt, LeftEnds}
use Rattle.turn_node.proofs.Parts.{stop-of, done-of, append-nil, Moved, keeps-none, moved_none, moved_then, moved-own, turns-moved, to-turns}

is_after : Phase → Type 0
is_after (before a) = ⊥
is_after after = Unit {0}
is_after closing = ⊥

not_after : (p : ℕ) → (p ≡ after_number → ⊥) → phase_of p ≡ after → ⊥
unfolding phase_of is_after
not_after p g e = on (ltb p after_number) (eqb p after_number) refl (subst is_after (sym e) tt)
  where
    on : (a b : Bool) → eqb p after_number ≡ b → is_after (elim a [ true ↦ before p | false ↦ elim b [ true ↦ after | false ↦ closing ] ]) → ⊥
    on true b q f = f
    on false true q f = g (eqb-true p after_number q)
    on false false q f = f

-- a side's phase, beneath the nodes that are above it, though the words have changed since
re-turned : {fs gs : List Feeder} {t u : Tree} {ph : Phase} {ws ws' : Words} {x y : Ended} {counting : Bool} {policy : Bytes} {cs cs' : List ℕ} → fs ≡ gs → t ≡ u → x ≡ y → Turns counting policy cs cs' fs t ph ws ws' x → Turns counting policy cs cs' gs u ph ws ws' y
re-turned {fs} {gs} {t} {u} {ph} {ws} {ws'} {x} {y} {counting} {policy} {cs} {cs'} p q e h =
    subst (λ (z : Ended). Turns counting policy cs cs' gs u ph ws ws' z) e (subst (λ (v : Tree). Turns counting policy cs cs' gs v ph ws ws' x) q (subst (λ (hs : List Feeder). Turns counting policy cs cs' hs t ph ws ws' x) p h))

module _ {policy : Bytes} {ws : Words} {i : ℕ} {w : Way} (h : Stands policy ws i) (k : kind_at policy i ≡ aPair w (join_at policy i)) where
  abbrev l : Tree
  l = tree_at policy (left_at policy i)

  abbrev r : Tree
  r = tree_at policy (right_at policy i)

  numbered : Numbered i (tree_at policy (left_at policy i)) (tree_at policy (right_at policy i))
  numbered = numbered-here (sided-of h k)

  -- the status that the sides give, by the sides' own numbers
  by-numbers : {mark : Bool} {m m' : Mem} → Settled i (joined (join_at policy i) (m (left_at policy i)).status (m (right_at policy i)).status) mark m m'
      → Settled i (joined (join_at policy i) (m (number_of (tree_at policy (left_at policy i)))).status (m (number_of (tree_at policy (right_at policy i)))).status) mark m m'
  by-numbers {mark} {m} {m'} st =
      subst (λ (s : Status). Settled i s mark m m')
      (ap₂ (λ (a b : ℕ). joined (join_at policy i) (m a).status (m b).status) (sym (number_at policy (left_at policy i))) (sym (number_at policy (right_at policy i)))) st

  status-by-numbers : {v : Bool} (m : Mem) → is_running (joined (join_at policy i) (m (left_at policy i)).status (m (right_at policy i)).status) ≡ v
      → is_running (joined (join_at policy i) (m (number_of (tree_at policy (left_at policy i)))).status (m (number_of (tree_at policy (right_at policy i)))).status) ≡ v
  status-by-numbers m e =
      ap₂ (λ (a b : ℕ). is_running (joined (join_at policy i) (m a).status (m b).status)) (number_at policy (left_at policy i)) (number_at policy (right_at policy i)) ∙ e

  -- the right side's phase
  pub at_right : {x : ℕ} {counting : Bool} {cs₁ cs₂ : List ℕ} (a : ℕ) {ph : Phase} {ws₁ ws₂ : Words} {e : Ended} → x ≡ right_at policy i → Keeps ws ws₁ → ended a ≡ e → TurnsAt counting policy cs₁ cs₂ x ph ws₁ ws₂ a
      → Turns counting policy cs₁ cs₂ (path_at policy ws i) (tree_at policy (right_at policy i)) ph ws₁ ws₂ e
  at_right a {ws₁ = ws₁} q kp e t =
      re-turned (ap (path_at policy ws₁) q ∙ path-same policy ws ws₁ kp.tables (right_at policy i) ∙ path-right h k) (ap (tree_at policy) q) e t

  as-node : {ph : Phase} {ws' : Words} {e e' : Ended} {counting : Bool} {cs cs' : List ℕ} → e ≡ e'
      → Turns counting policy cs cs' (path_at policy ws i) (node w (join_at policy i) i (tree_at policy (left_at policy i)) (tree_at policy (right_at policy i))) ph ws ws' e → Turns counting policy cs cs' (path_at policy ws i) (tree_at policy i) ph ws ws' e'
  as-node e t = re-turned refl (sym (pair-tree h k)) e t

  asked-node : (ph : Phase) → Asked policy ws i ph → is_asked (regulated (node w (join_at policy i) i (tree_at policy (left_at policy i)) (tree_at policy (right_at policy i)))) ph
      (held (node w (join_at policy i) i (tree_at policy (left_at policy i)) (tree_at policy (right_at policy i))) (memory_of ws)) ≡ true
  asked-node ph a = subst (λ (t : Tree). is_asked (regulated t) ph (held t (memory_of ws)) ≡ true) (pair-tree h k) a

-- ---- parallel

module _ {policy : Bytes} {ws : Words} {i : ℕ} (h : Stands policy ws i) (k : kind_at policy i ≡ aPair parallel (join_at policy i)) (ph : Phase) (a : Asked policy ws i ph)
    {x : ℕ} (n : ℕ) {ws₁ : Words} (ex : x ≡ left_at policy i) {counting : Bool} {cs cs₁ : List ℕ} (t : TurnsAt counting policy cs cs₁ x ph ws ws₁ n) where
  left-side : {e : Ended} → ended n ≡ e → Turns counting policy cs cs₁ (path_at policy ws i) (tree_at policy (left_at policy i)) ph ws ws₁ e
  left-side e = re-turned (ap (path_at policy ws) ex ∙ path-left-parallel h k) (ap (tree_at policy) ex) e t

  pub left-stops : 2 ≤ n → TurnsAt counting policy cs cs₁ i ph ws ws₁ n
  left-stops g =
      let t₁ = left-side (stop-of n g) in
      as-node h k (sym (stop-of n g))
      (to-turns (par-stop-left (join_at policy i) (numbered h k) (path_at policy ws i) (apart-node h k) ph (memory_of ws) (asked-node h k ph a) t₁.turned) (turns-moved t₁))

  module _ (g : n < 2) {y : ℕ} (m : ℕ) {ws₂ : Words} (ey : y ≡ right_at policy i) {cs₂ : List ℕ} (u : TurnsAt counting policy cs₁ cs₂ y ph ws₁ ws₂ m) where
    pub right-stops : 2 ≤ m → TurnsAt counting policy cs cs₂ i ph ws ws₂ m
    right-stops f =
        let t₁ = left-side (done-of n g) in
        let t₂ = at_right h k m ey t₁.keeps (stop-of m f) u in
        as-node h k (sym (stop-of m f))
        (to-turns (par-stop-right (join_at policy i) (numbered h k) (path_at policy ws i) (apart-node h k) ph (memory_of ws) (asked-node h k ph a) t₁.turned t₂.turned)
        (moved_then (turns-moved t₁) (turns-moved t₂)))

    pub both_end : m < 2 → (q : ℕ) {ws₃ : Words} → ParEnd policy i ph ws₂ ws₃ n m q → TurnsAt counting policy cs cs₂ i ph ws ws₃ q
    both_end f q p =
        let t₁ = left-side (done-of n g) in
        let t₂ = at_right h k m ey t₁.keeps (done-of m f) u in
        as-node h k (sym p.says)
        (to-turns (par-done (join_at policy i) (numbered h k) (path_at policy ws i) (apart-node h k) ph (memory_of ws) (asked-node h k ph a) t₁.turned t₂.turned (by-numbers h k p.settled))
        (moved-own (low h) (moved_then (turns-moved t₁) (turns-moved t₂)) p.only))

-- ---- sequential

module _ {policy : Bytes} {ws : Words} {i : ℕ} (h : Stands policy ws i) (k : Sequential policy i) where
  -- the left side's phase, with this node first on its inserts' way up
  at-left : {x : ℕ} {counting : Bool} {cs₁ cs₂ : List ℕ} (n : ℕ) {ph : Phase} {ws₁ ws₂ : Words} {e : Ended} → x ≡ left_at policy i → Keeps ws ws₁ → ended n ≡ e → TurnsAt counting policy cs₁ cs₂ x ph ws₁ ws₂ n
      → Turns counting policy cs₁ cs₂ (as_feeder policy i ∷ path_at policy ws i) (tree_at policy (left_at policy i)) ph ws₁ ws₂ e
  at-left n {ws₁ = ws₁} q kp e t =
      re-turned (ap (path_at policy ws₁) q ∙ path-same policy ws ws₁ kp.tables (left_at policy i) ∙ path-left h k) (ap (tree_at policy) q) e t

  -- the node is at its left side, whose phase was stopped
  left-stopped : {ph : Phase} {ws₁ ws₂ : Words} {xs : List Item} {counting : Bool} {cs cs₁ cs₂ : List ℕ} → AtLeft (join_at policy i) (numbered h k) (path_at policy ws i) ph (memory_of ws) (memory_of ws₁) xs → Moved counting policy cs cs₁ ws ws₁ xs
      → {x : ℕ} (n : ℕ) → x ≡ left_at policy i → 2 ≤ n → TurnsAt counting policy cs₁ cs₂ x ph ws₁ ws₂ n → (q : ℕ) → Caught n i q → TurnsAt counting policy cs cs₂ i ph ws ws₂ q
  unfolding ended
  left-stopped {ph} {ws₁} {ws₂} {xs} {counting} {cs} {cs₁} {cs₂} at mv {x} n ex g t q c =
      let t₁ = at-left n ex mv.keeps (stop-of n g) t in
      on (same_or_not (n - 2) i) t₁
    where
      on : ((n - 2) ≡ i) ⊎ ((n - 2) ≡ i → ⊥) → Turns counting policy cs₁ cs₂ (as_feeder policy i ∷ path_at policy ws i) (tree_at policy (left_at policy i)) ph ws₁ ws₂ (stopped (n - 2)) → TurnsAt counting policy cs cs₂ i ph ws ws₂ q
      on (inl e) t₁ =
          let t₂ = re-turned refl refl (ap stopped e) t₁ in
          as-node h k (ap ended (sym (c.0 (omega (arith, e, g)))))
          (to-turns (seq-stopped-here (join_at policy i) (numbered h k) (path_at policy ws i) at t₂.turned) (moved_then mv (turns-moved t₂)))
      on (inr f) t₁ =
          as-node h k (sym (stop-of n g) ∙ ap ended (sym (c.1 (λ e. f (omega (arith, e))))))
          (to-turns (seq-stopped-above (join_at policy i) (numbered h k) (path_at policy ws i) at (ne_eqb i (n - 2) (λ e. f (sym e))) t₁.turned) (moved_then mv (turns-moved t₁)))

  -- it begins at its left side, before the verdict and at closing
  begins : (p : ℕ) → (p ≡ after_number → ⊥) → Asked policy ws i (phase_of p) → AtLeft (join_at policy i) (numbered h k) (path_at policy ws i) (phase_of p) (memory_of ws) (memory_of ws) []
  begins p g a = on (phase_of p) (not_after p g) (asked-node h k (phase_of p) a)
    where
      on : (ph : Phase) → (ph ≡ after → ⊥) → is_asked (regulated (node sequential (join_at policy i) i (tree_at policy (left_at policy i)) (tree_at policy (right_at policy i)))) ph
          (held (node sequential (join_at policy i) i (tree_at policy (left_at policy i)) (tree_at policy (right_at policy i))) (memory_of ws)) ≡ true
          → AtLeft (join_at policy i) (numbered h k) (path_at policy ws i) ph (memory_of ws) (memory_of ws) []
      on (before b) f z = starts-before (join_at policy i) (numbered h k) (path_at policy ws i) b (memory_of ws) z
      on after f z = absurd (f refl)
      on closing f z = starts-closing (join_at policy i) (numbered h k) (path_at policy ws i) (memory_of ws) z

  -- ---- the left side first

  module _ (p : ℕ) (g : p ≡ after_number → ⊥) (a : Asked policy ws i (phase_of p)) {x : ℕ} (n : ℕ) {ws₁ : Words} (ex : x ≡ left_at policy i) {counting : Bool} {cs cs₁ : List ℕ} (t : TurnsAt counting policy cs cs₁ x (phase_of p) ws ws₁ n) where
    pub first-stopped : 2 ≤ n → (q : ℕ) → Caught n i q → TurnsAt counting policy cs cs₁ i (phase_of p) ws ws₁ q
    first-stopped f q c = left-stopped (begins p g a) moved_none n ex f t q c

    pub first_then : {cs₂ : List ℕ} → n < 2 → (q : ℕ) {ws₂ : Words} → LeftEnds counting policy cs₁ cs₂ i (phase_of p) ws₁ ws₂ (eqb n 1) (ended q) → TurnsAt counting policy cs cs₂ i (phase_of p) ws ws₂ q
    first_then f q {ws₂} e =
        let t₁ = at-left n ex keeps-none (done-of n f) t in
        let fs = path-same policy ws ws₁ t.keeps.tables i in
        as-node h k refl (to-turns (subst (λ (gs : List Feeder). Turned gs (node sequential (join_at policy i) i (tree_at policy (left_at policy i)) (tree_at policy (right_at policy i))) (phase_of p) (memory_of ws) (memory_of ws₂) (t₁.items ++ e.items) (ended q)) fs
        (e.ends (numbered h k) (subst (λ (gs : List Feeder). LeftOver (join_at policy i) (numbered h k) gs (phase_of p) (memory_of ws) (memory_of ws₁) t₁.items (eqb n 1)) (sym fs)
        (seq-left (join_at policy i) (numbered h k) (path_at policy ws i) (begins p g a) t₁.turned)))) (moved_then (turns-moved t₁) (record { told = e.told; keeps = e.keeps; steps = e.steps })))

  -- ---- the right side first

  pub phase-turn : {ph ph' : Phase} {ws₁ : Words} {counting : Bool} {cs cs₁ : List ℕ} (r : ℕ) → ph ≡ ph' → TurnsAt counting policy cs cs₁ i ph ws ws₁ r → TurnsAt counting policy cs cs₁ i ph' ws ws₁ r
  phase-turn {ws₁ = ws₁} {counting} {cs} {cs₁} r e t = subst (λ (p : Phase). TurnsAt counting policy cs cs₁ i p ws ws₁ r) e t

  module _ (a : Asked policy ws i after) {y : ℕ} (m : ℕ) {ws₁ : Words} (ey : y ≡ right_at policy i) {counting : Bool} {cs cs₁ : List ℕ} (t : TurnsAt counting policy cs cs₁ y after ws ws₁ m) where
    pub right-first-stopped : 2 ≤ m → TurnsAt counting policy cs cs₁ i after ws ws₁ m
    right-first-stopped g =
        let t₁ = at_right h k m ey keeps-none (stop-of m g) t in
        as-node h k (sym (stop-of m g))
        (to-turns (seq-first-stopped (join_at policy i) (numbered h k) (path_at policy ws i) (apart-node h k) (memory_of ws) (asked-node h k after a) t₁.turned) (turns-moved t₁))

    module _ (g : m < 2) where
      pub right-first-over : is_running (joined (join_at policy i) (memory_of ws₁ (left_at policy i)).status (memory_of ws₁ (right_at policy i)).status) ≡ false
          → (n q : ℕ) {ws₂ : Words} → SeqEnd policy i after ws₁ ws₂ n q → TurnsAt counting policy cs cs₁ i after ws ws₂ q
      unfolding end_sup still_asked
      right-first-over e n q p =
          let t₁ = at_right h k m ey keeps-none (done-of m g) t in
          as-node h k (sym p.says)
          (to-turns (seq-first-over (join_at policy i) (numbered h k) (path_at policy ws i) (apart-node h k) (memory_of ws) (asked-node h k after a) t₁.turned (status-by-numbers h k (memory_of ws₁) e) (by-numbers h k p.settled))
          (moved-own (low h) (turns-moved t₁) p.only))

      module _ (e : is_running (joined (join_at policy i) (memory_of ws₁ (left_at policy i)).status (memory_of ws₁ (right_at policy i)).status) ≡ true) {x : ℕ} (n : ℕ) {ws₂ : Words} (ex : x ≡ left_at policy i)
          {cs₂ : List ℕ} (u : TurnsAt counting policy cs₁ cs₂ x after ws₁ ws₂ n) where
        pub then-left-stopped : 2 ≤ n → (q : ℕ) → Caught n i q → TurnsAt counting policy cs cs₂ i after ws ws₂ q
        then-left-stopped f q c =
            let t₁ = at_right h k m ey keeps-none (done-of m g) t in
            left-stopped (seq-first-on (join_at policy i) (numbered h k) (path_at policy ws i) (apart-node h k) (memory_of ws) (asked-node h k after a) t₁.turned (status-by-numbers h k (memory_of ws₁) e))
            (turns-moved t₁) n ex f u q c

        pub then-left-ends : n < 2 → (q : ℕ) {ws₃ : Words} → SeqEnd policy i after ws₂ ws₃ n q → TurnsAt counting policy cs cs₂ i after ws ws₃ q
        unfolding goes_on
        then-left-ends f q p =
            let t₁ = at_right h k m ey keeps-none (done-of m g) t in
            let t₂ = at-left n ex t₁.keeps (done-of n f) u in
            let at = seq-first-on (join_at policy i) (numbered h k) (path_at policy ws i) (apart-node h k) (memory_of ws) (asked-node h k after a) t₁.turned (status-by-numbers h k (memory_of ws₁) e) in
            as-node h k (sym p.says)
            (to-turns (seq-over (join_at policy i) (numbered h k) (path_at policy ws i) (apart-node h k) (seq-left (join_at policy i) (numbered h k) (path_at policy ws i) at t₂.turned) refl (by-numbers h k p.settled))
            (moved-own (low h) (moved_then (turns-moved t₁) (turns-moved t₂)) p.only))

  -- ---- after the left side's end

  -- a child by its number in the file, and by the number that the tree has for it
  numbers_on : (ph : Phase) (u : Bool) {v : Bool} → goes_on ph (is_running (joined (join_at policy i) (memory_of ws (left_at policy i)).status (memory_of ws (right_at policy i)).status)) u ≡ v
      → goes_on ph (is_running (joined (join_at policy i) (memory_of ws (number_of (tree_at policy (left_at policy i)))).status (memory_of ws (number_of (tree_at policy (right_at policy i)))).status)) u ≡ v
  numbers_on ph u e = ap₂ (λ (a b : ℕ). goes_on ph (is_running (joined (join_at policy i) (memory_of ws a).status (memory_of ws b).status)) u) (number_at policy (left_at policy i)) (number_at policy (right_at policy i)) ∙ e

  pub left_over : {counting : Bool} {cs : List ℕ} (ph : Phase) (n : ℕ) → goes_on ph (is_running (joined (join_at policy i) (memory_of ws (left_at policy i)).status (memory_of ws (right_at policy i)).status)) (eqb n 1) ≡ false
      → (q : ℕ) {ws₁ : Words} → SeqEnd policy i ph ws ws₁ n q → LeftEnds counting policy cs cs i ph ws ws₁ (eqb n 1) (ended q)
  unfolding lets_in
  left_over {counting} {cs} ph n e q {ws₁} p =
      let mv : Moved counting policy cs cs ws ws₁ [] = moved-own (low h) moved_none p.only in
      record {
        items = [];
        ends = λ sd {m₀} {xs} lo. subst₂ (λ (ys : List Item) (z : Ended). Turned (path_at policy ws i) (node sequential (join_at policy i) i (tree_at policy (left_at policy i)) (tree_at policy (right_at policy i))) ph m₀ (memory_of ws₁) ys z)
            (sym (append-nil xs)) (sym p.says)
            (seq-over (join_at policy i) sd (path_at policy ws i) (apart-node h k) lo (numbers_on ph (eqb n 1) e) (by-numbers h k p.settled));
        told = mv.told;
        keeps = mv.keeps;
        steps = mv.steps;
      }

  module _ (ph : Phase) (n : ℕ) (e : goes_on ph (is_running (joined (join_at policy i) (memory_of ws (left_at policy i)).status (memory_of ws (right_at policy i)).status)) (eqb n 1) ≡ true)
      {y : ℕ} (m : ℕ) {ws₁ : Words} (ey : y ≡ right_at policy i) {counting : Bool} {cs cs₁ : List ℕ} (t : TurnsAt counting policy cs cs₁ y ph ws ws₁ m) where
    pub own-stopped : 2 ≤ m → LeftEnds counting policy cs cs₁ i ph ws ws₁ (eqb n 1) (ended m)
    own-stopped g =
        let t₁ = at_right h k m ey keeps-none (stop-of m g) t in record {
          items = t₁.items;
          ends = λ sd {m₀} {xs} lo. subst (λ (z : Ended). Turned (path_at policy ws i) (node sequential (join_at policy i) i (tree_at policy (left_at policy i)) (tree_at policy (right_at policy i))) ph m₀ (memory_of ws₁) (xs ++ t₁.items) z)
              (sym (stop-of m g)) (seq-own-stopped (join_at policy i) sd (path_at policy ws i) (apart-node h k) lo (numbers_on ph (eqb n 1) e) t₁.turned);
          told = t₁.told;
          keeps = t₁.keeps;
          steps = t₁.steps;
        }

    pub own-ends : m < 2 → (q : ℕ) {ws₂ : Words} → SeqEnd policy i ph ws₁ ws₂ m q → LeftEnds counting policy cs cs₁ i ph ws ws₂ (eqb n 1) (ended q)
    own-ends g q {ws₂} p =
        let t₁ = at_right h k m ey keeps-none (done-of m g) t in
        let mv = moved-own (low h) (turns-moved t₁) p.only in record {
          items = t₁.items;
          ends = λ sd {m₀} {xs} lo. subst (λ (z : Ended). Turned (path_at policy ws i) (node sequential (join_at policy i) i (tree_at policy (left_at policy i)) (tree_at policy (right_at policy i))) ph m₀ (memory_of ws₂) (xs ++ t₁.items) z)
              (sym p.says) (seq-own (join_at policy i) sd (path_at policy ws i) (apart-node h k) lo (numbers_on ph (eqb n 1) e) t₁.turned (by-numbers h k p.settled));
          told = mv.told;
          keeps = mv.keeps;
          steps = mv.steps;
        }
