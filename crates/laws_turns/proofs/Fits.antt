-- Rule 12 and states at rest: what fits is at rest and holds nothing but the state that it is read as; what was saved at rest fits.
use Prim.Native.Nat.{ℕ, zero, suc, ◌+◌, ◌^◌, ◌≤◌, ◌<◌}
use native.Mathlib.Nat.{eq-or-lt_of_le}
use native.Mathlib.Omega.{arith}
use mathlib.Core.Path.{◌≡◌, refl, sym, ap, ap₂, ◌∙◌, subst}
use mathlib.Core.Logic.{⊎_elim}
use mathlib.Core.Bool.{Bool, true, false, ◌&&◌, ◌||◌, not, beq}
use mathlib.Core.List.{List, [], ◌∷◌, ◌++◌}
use lib.Dec.{T, eqb, leb, eqb→eq, eqb_refl, leb→le, le→leb}
use lib.ListN.{length, drop, get_or, replicate, length-replicate}
use Rattle.actions.specs.Sets.{ActionSet}
use Rattle.actions.proofs.Tests.{of-yes, and_intro, and_left, and_right, or_cases, not-false, yes_of}
use Rattle.spec_policy.specs.Bytes.{Bytes, spelt, number, spell, put, Small}
use Rattle.spec_policy.specs.Lists.{among, every}
use Rattle.spec_policy.specs.Records.{most_nodes, node_count}
use Rattle.spec_policy.specs.Steps.{Step, halt, is_next}
use Rattle.spec_policy.specs.Tree.{Way, Join, and, or, Tree, leaf, trivial, unsatisfiable, node, number_of, tree}
use Rattle.spec_policy.proofs.ListLaws.{every_drop}
use Rattle.spec_policy.proofs.ByteLaws.{drop-after, zeros-every, number-zeros}
use Rattle.spec_policy.proofs.NumberLaws.{byte-first, number-first}
use Rattle.spec_check.specs.Lawful.{holds}
use Rattle.spec_turns.specs.Status.{Status, running, ended, ended_left, ended_right, halted, dropped, status_number, status_of, is_running, has_ended, is_halted, joined}
use Rattle.spec_turns.specs.State.{State, leaf_state, pair_state, status, offset, counter, left_of, right_of}
use Rattle.spec_turns.specs.Saved.{count_place, cells_size, state_size, cells, cell_place, status_at, offset_at, zeros_at, counter_at, cell, load, store, saved_cells, running_leaves, ahead, saved}
use Rattle.spec_turns.specs.Saved.{dropped_with, is_running_at, statuses, undecided, bare, waits_at, fits_under, zeros_up_to, cells_fit, count_at, count_fits, fits}
use Rattle.spec_turns.specs.Rest.{gone, decided_by, AtRest, leaf-waits, leaf-ended, leaf-halted, trivial-ended, unsatisfiable-halted, pair_runs, pair-decided}
use Rattle.laws_turns.proofs.Cells.{holds-here, holds-left, holds-right, below_more, below-here, below_left, below_right, cell-length, cell-of, cell_same, put-size, put-cell, put-elsewhere}
use Rattle.laws_turns.specs.Cells.{Below, Sized, cell_at}
use Rattle.spec_check.specs.Numbers.{Distinct}
use Rattle.laws_turns.proofs.Cells.{store-sized, zeros-is, zero_word, status-back, status-is, offset-is, counter-is, Kept, kept-load, rest-stored, cells-kept, cells-length, load_cells}
use Rattle.spec_turns.proofs.StatusLaws.{is-running}

-- ---- a running pair

-- undecided is what a node is whose sides make it run
pub undecided-runs : (j : Join) (a b : Status) → undecided j a b ≡ is_running (joined j a b)
unfolding undecided joined is_running
undecided-runs and a b = go (is_halted a) refl (is_halted b) refl (has_ended a && has_ended b) refl
  where
    go : (x : Bool) → is_halted a ≡ x → (y : Bool) → is_halted b ≡ y → (z : Bool) → (has_ended a && has_ended b) ≡ z → undecided and a b ≡ is_running (joined and a b)
    go true p y q z r = rw p
    go false p true q z r = rw (p, q)
    go false p false q true r = rw (p, q, r)
    go false p false q false r = rw (p, q, r)
undecided-runs or a b = go (has_ended a) refl (has_ended b) refl (is_halted a && is_halted b) refl
  where
    go : (x : Bool) → has_ended a ≡ x → (y : Bool) → has_ended b ≡ y → (z : Bool) → (is_halted a && is_halted b) ≡ z → undecided or a b ≡ is_running (joined or a b)
    go true p y q z r = rw p
    go false p true q z r = rw (p, q)
    go false p false q true r = rw (p, q, r)
    go false p false q false r = rw (p, q, r)

pub undecided-joined : (j : Join) (a b : Status) → T (undecided j a b) → joined j a b ≡ running
undecided-joined j a b h = is-running (joined j a b) (yes_of (is_running (joined j a b)) (subst T (undecided-runs j a b) h))

pub joined-undecided : (j : Join) (a b : Status) → joined j a b ≡ running → T (undecided j a b)
joined-undecided j a b e = subst T (sym (undecided-runs j a b ∙ ap is_running e)) (unfold is_running in tt)

-- ---- what fits is at rest

-- a number among a list of statuses' numbers is that of a status
named : (n : ℕ) (ns : List ℕ) → T (every (λ k. eqb k (status_number (status_of k))) ns) → T (among n ns) → n ≡ status_number (status_of n)
unfolding every among
named n [] e h = absurd h
named n (k ∷ ns) e h =
    ⊎_elim
    (λ u. let q : n ≡ k = eqb→eq n k u in
    eqb→eq n (status_number (status_of n))
    (subst (λ (m : ℕ). T (eqb m (status_number (status_of m)))) (sym q) (and_left (eqb k (status_number (status_of k))) (every (λ m. eqb m (status_number (status_of m))) ns) e)))
    (λ u. named n ns (and_right (eqb k (status_number (status_of k))) (every (λ m. eqb m (status_number (status_of m))) ns) e) u) (or_cases (eqb n k) (among n ns) h)

-- a leaf's offset and counter that are zero
zeroed : (x : Status) (o c : ℕ) → T (eqb o 0 && eqb c 0) → leaf_state x false o c ≡ leaf_state x false 0 0
zeroed x o c h =
    let p : o ≡ 0 = eqb→eq o 0 (and_left (eqb o 0) (eqb c 0) h) in
    let q : c ≡ 0 = eqb→eq c 0 (and_right (eqb o 0) (eqb c 0) h) in
    cc

pub status-at : (t : Tree) (bs : Bytes) → status_of (status_at bs (number_of t)) ≡ status (load t bs)
unfolding number_of load status
status-at (leaf i r c code) bs = refl
status-at (trivial i) bs = refl
status-at (unsatisfiable i) bs = refl
status-at (node w j i l r) bs = refl

-- a dropped node is not of a parent that runs
abbrev Standing : ℕ → Type 0
Standing n = T (beq (eqb n 6) false)

leaf-rests : (i c₀ : ℕ) (r : ActionSet) (code : List Step) (x : Status) (o c : ℕ) → Standing (status_number x)
    → T (among (status_number x) (1 ∷ 2 ∷ 5 ∷ 6 ∷ [])) → T (elim (is_running x) [ true ↦ is_next (get_or code o halt) && leb c c₀ | false ↦ eqb o 0 && eqb c 0 ])
    → AtRest (leaf i r c₀ code) (leaf_state x false o c)
unfolding status_number among is_running
leaf-rests i c₀ r code running o c d m h =
    leaf-waits (and_left (is_next (get_or code o halt)) (leb c c₀) h) (leb→le c c₀ (and_right (is_next (get_or code o halt)) (leb c c₀) h))
leaf-rests i c₀ r code ended o c d m h = subst (λ (s : State). AtRest (leaf i r c₀ code) s) (sym (zeroed ended o c h)) leaf-ended
leaf-rests i c₀ r code ended_left o c d m h = absurd m
leaf-rests i c₀ r code ended_right o c d m h = absurd m
leaf-rests i c₀ r code halted o c d m h = subst (λ (s : State). AtRest (leaf i r c₀ code) s) (sym (zeroed halted o c h)) leaf-halted
leaf-rests i c₀ r code dropped o c d m h = absurd d

trivial-rests : (i : ℕ) (x : Status) (o c : ℕ) → Standing (status_number x) → T (among (status_number x) (2 ∷ 6 ∷ [])) → T (eqb o 0 && eqb c 0)
    → AtRest (trivial i) (leaf_state x false o c)
unfolding status_number among
trivial-rests i running o c d m h = absurd m
trivial-rests i ended o c d m h = subst (λ (s : State). AtRest (trivial i) s) (sym (zeroed ended o c h)) trivial-ended
trivial-rests i ended_left o c d m h = absurd m
trivial-rests i ended_right o c d m h = absurd m
trivial-rests i halted o c d m h = absurd m
trivial-rests i dropped o c d m h = absurd d

unsatisfiable-rests : (i : ℕ) (x : Status) (o c : ℕ) → Standing (status_number x) → T (among (status_number x) (5 ∷ 6 ∷ [])) → T (eqb o 0 && eqb c 0)
    → AtRest (unsatisfiable i) (leaf_state x false o c)
unfolding status_number among
unsatisfiable-rests i running o c d m h = absurd m
unsatisfiable-rests i ended o c d m h = absurd m
unsatisfiable-rests i ended_left o c d m h = absurd m
unsatisfiable-rests i ended_right o c d m h = absurd m
unsatisfiable-rests i halted o c d m h = subst (λ (s : State). AtRest (unsatisfiable i) s) (sym (zeroed halted o c h)) unsatisfiable-halted
unsatisfiable-rests i dropped o c d m h = absurd d

pair-decides : (j : Join) (x : Status) → Standing (status_number x) → T (among (status_number x) (statuses j)) → is_running x ≡ false → T (decided_by j x)
unfolding status_number among statuses is_running decided_by
pair-decides and running d m e = absurd (subst T e tt)
pair-decides and ended d m e = tt
pair-decides and ended_left d m e = m
pair-decides and ended_right d m e = m
pair-decides and halted d m e = tt
pair-decides and dropped d m e = d
pair-decides or running d m e = absurd (subst T e tt)
pair-decides or ended d m e = m
pair-decides or ended_left d m e = tt
pair-decides or ended_right d m e = tt
pair-decides or halted d m e = tt
pair-decides or dropped d m e = d

three : (p q z : Bool) → T (p && q && z) → T p × T q × T z
three true true true h = (tt, tt, tt)
three true true false h = absurd h
three true false z h = absurd h
three false q z h = absurd h

is-dropped : (n : ℕ) → T (beq (eqb n 6) true) → status_of n ≡ dropped
is-dropped n h = go (eqb n 6) refl h
  where
    go : (b : Bool) → eqb n 6 ≡ b → T (beq b true) → status_of n ≡ dropped
    go true e h = unfold status_of in ap status_of (eqb→eq n 6 (of-yes (eqb n 6) e))
    go false e h = absurd h

gone-cell : (bs : Bytes) (i : ℕ) → T (dropped_with true bs i) → T (bare bs i) → leaf_state (status_of (status_at bs i)) false (offset_at bs i) (counter_at bs i) ≡ leaf_state dropped false 0 0
unfolding dropped_with bare
gone-cell bs i d h = ap (λ (x : Status). leaf_state x false (offset_at bs i) (counter_at bs i)) (is-dropped (status_at bs i) d) ∙ zeroed dropped (offset_at bs i) (counter_at bs i) h

not-running : (bs : Bytes) (i : ℕ) → T (dropped_with true bs i) → is_running_at bs i ≡ false
unfolding is_running_at is_running dropped_with
not-running bs i d = ap is_running (is-dropped (status_at bs i) d)

-- the parts of the rule for a pair, of which b says whether it runs
pub record PairFits (parent b : Bool) (w : Way) (j : Join) (i : ℕ) (l r : Tree) (bs : Bytes) : Type 0 where
  pub drops : T (dropped_with parent bs i)
  pub status-fits : T (among (status_at bs i) (statuses j))
  pub is-bare : T (bare bs i)
  pub runs : T (not b || undecided j (status_of (status_at bs (number_of l))) (status_of (status_at bs (number_of r))))
  pub left-fits : T (fits_under (not b) l bs)
  pub right-fits : T (fits_under (not b) r bs)

pub pair_parts : (parent : Bool) (w : Way) (j : Join) (i : ℕ) (l r : Tree) (bs : Bytes) → T (fits_under parent (node w j i l r) bs)
    → PairFits parent (is_running_at bs i) w j i l r bs
unfolding fits_under
pair_parts parent w j i l r bs h =
    let b : Bool = is_running_at bs i in
    let p₁ : Bool = dropped_with parent bs i in
    let p₂ : Bool = among (status_at bs i) (statuses j) in
    let p₃ : Bool = bare bs i in
    let p₄ : Bool = not b || undecided j (status_of (status_at bs (number_of l))) (status_of (status_at bs (number_of r))) in
    let p₅ : Bool = fits_under (not b) l bs in
    let p₆ : Bool = fits_under (not b) r bs in
    let h₅ : T (p₁ && p₂ && p₃ && p₄ && p₅) = and_left (p₁ && p₂ && p₃ && p₄ && p₅) p₆ h in
    let h₄ : T (p₁ && p₂ && p₃ && p₄) = and_left (p₁ && p₂ && p₃ && p₄) p₅ h₅ in
    let h₃ : T (p₁ && p₂ && p₃) = and_left (p₁ && p₂ && p₃) p₄ h₄ in
    let h₂ : T (p₁ && p₂) = and_left (p₁ && p₂) p₃ h₃ in
    record {
      drops = and_left p₁ p₂ h₂;
      status-fits = and_right p₁ p₂ h₂;
      is-bare = and_right (p₁ && p₂) p₃ h₃;
      runs = and_right (p₁ && p₂ && p₃) p₄ h₄;
      left-fits = and_right (p₁ && p₂ && p₃ && p₄) p₅ h₅;
      right-fits = and_right (p₁ && p₂ && p₃ && p₄ && p₅) p₆ h;
    }

pub pair-whole : (parent : Bool) (w : Way) (j : Join) (i : ℕ) (l r : Tree) (bs : Bytes) (b : Bool) → is_running_at bs i ≡ b → PairFits parent b w j i l r bs
    → T (fits_under parent (node w j i l r) bs)
unfolding fits_under
pair-whole parent w j i l r bs b e h =
    let p₁ : Bool = dropped_with parent bs i in
    let p₂ : Bool = among (status_at bs i) (statuses j) in
    let p₃ : Bool = bare bs i in
    let p₄ : Bool = not b || undecided j (status_of (status_at bs (number_of l))) (status_of (status_at bs (number_of r))) in
    let p₅ : Bool = fits_under (not b) l bs in
    let p₆ : Bool = fits_under (not b) r bs in
    let h₂ : T (p₁ && p₂) = and_intro p₁ p₂ h.drops h.status-fits in
    let h₃ : T (p₁ && p₂ && p₃) = and_intro (p₁ && p₂) p₃ h₂ h.is-bare in
    let h₄ : T (p₁ && p₂ && p₃ && p₄) = and_intro (p₁ && p₂ && p₃) p₄ h₃ h.runs in
    let h₅ : T (p₁ && p₂ && p₃ && p₄ && p₅) = and_intro (p₁ && p₂ && p₃ && p₄) p₅ h₄ h.left-fits in
    rw e (and_intro (p₁ && p₂ && p₃ && p₄ && p₅) p₆ h₅ h.right-fits)

pub fits-gone : (t : Tree) (bs : Bytes) → T (fits_under true t bs) → load t bs ≡ gone t
unfolding load gone fits_under
fits-gone (leaf i r c code) bs h =
    let p = three (dropped_with true bs i) (among (status_at bs i) (1 ∷ 2 ∷ 5 ∷ 6 ∷ [])) (elim (is_running_at bs i) [ true ↦ waits_at code c bs i | false ↦ bare bs i ]) h in
    gone-cell bs i p.0 (rw (not-running bs i p.0) at p.2)
fits-gone (trivial i) bs h = let p = three (dropped_with true bs i) (among (status_at bs i) (2 ∷ 6 ∷ [])) (bare bs i) h in gone-cell bs i p.0 p.2
fits-gone (unsatisfiable i) bs h = let p = three (dropped_with true bs i) (among (status_at bs i) (5 ∷ 6 ∷ [])) (bare bs i) h in gone-cell bs i p.0 p.2
fits-gone (node w j i l r) bs h =
    let p : PairFits true (is_running_at bs i) w j i l r bs = pair_parts true w j i l r bs h in
    let d : status_of (status_at bs i) ≡ dropped = unfold dropped_with in is-dropped (status_at bs i) p.drops in
    let e : is_running_at bs i ≡ false = not-running bs i p.drops in
    let a : load l bs ≡ gone l = fits-gone l bs (rw e at p.left-fits) in
    let b : load r bs ≡ gone r = fits-gone r bs (rw e at p.right-fits) in
    cc

-- the number of a status, in what the rule says of it
status-named : (bs : Bytes) (i : ℕ) (ns : List ℕ) → T (every (λ k. eqb k (status_number (status_of k))) ns) → T (dropped_with false bs i) → T (among (status_at bs i) ns)
    → Standing (status_number (status_of (status_at bs i))) × T (among (status_number (status_of (status_at bs i))) ns)
unfolding dropped_with
status-named bs i ns h d m =
    let e : status_at bs i ≡ status_number (status_of (status_at bs i)) = named (status_at bs i) ns h m in
    (subst (λ (n : ℕ). Standing n) e d, subst (λ (n : ℕ). T (among n ns)) e m)

statuses-named : (j : Join) → T (every (λ k. eqb k (status_number (status_of k))) (statuses j))
unfolding every statuses status_number status_of
statuses-named and = tt
statuses-named or = tt

pub fits-rest : (t : Tree) (bs : Bytes) → T (fits_under false t bs) → AtRest t (load t bs)
unfolding load fits_under is_running_at waits_at bare every status_number status_of
fits-rest (leaf i r c code) bs h =
    let p = three (dropped_with false bs i) (among (status_at bs i) (1 ∷ 2 ∷ 5 ∷ 6 ∷ [])) (elim (is_running_at bs i) [ true ↦ waits_at code c bs i | false ↦ bare bs i ]) h in
    let q = status-named bs i (1 ∷ 2 ∷ 5 ∷ 6 ∷ []) tt p.0 p.1 in
    leaf-rests i c r code (status_of (status_at bs i)) (offset_at bs i) (counter_at bs i) q.0 q.1 p.2
fits-rest (trivial i) bs h =
    let p = three (dropped_with false bs i) (among (status_at bs i) (2 ∷ 6 ∷ [])) (bare bs i) h in
    let q = status-named bs i (2 ∷ 6 ∷ []) tt p.0 p.1 in
    trivial-rests i (status_of (status_at bs i)) (offset_at bs i) (counter_at bs i) q.0 q.1 p.2
fits-rest (unsatisfiable i) bs h =
    let p = three (dropped_with false bs i) (among (status_at bs i) (5 ∷ 6 ∷ [])) (bare bs i) h in
    let q = status-named bs i (5 ∷ 6 ∷ []) tt p.0 p.1 in
    unsatisfiable-rests i (status_of (status_at bs i)) (offset_at bs i) (counter_at bs i) q.0 q.1 p.2
fits-rest (node w j i l r) bs h = go (is_running_at bs i) refl (pair_parts false w j i l r bs h) (fits-rest l bs) (fits-rest r bs)
  where
    go : (b : Bool) → is_running_at bs i ≡ b → PairFits false b w j i l r bs → (T (fits_under false l bs) → AtRest l (load l bs)) → (T (fits_under false r bs) → AtRest r (load r bs))
        → AtRest (node w j i l r) (pair_state (status_of (status_at bs i)) false (load l bs) (load r bs))
    go true e p a b =
        let q : status_of (status_at bs i) ≡ running = unfold is_running_at in is-running (status_of (status_at bs i)) e in
        let u : joined j (status (load l bs)) (status (load r bs)) ≡ running =
        rw (← status-at l bs, ← status-at r bs) (undecided-joined j (status_of (status_at bs (number_of l))) (status_of (status_at bs (number_of r))) p.runs) in
        rw q (pair_runs (a p.left-fits) (b p.right-fits) u)
    go false e p a b =
        let q = status-named bs i (statuses j) (statuses-named j) p.drops p.status-fits in
        let d : T (decided_by j (status_of (status_at bs i))) = unfold is_running_at in pair-decides j (status_of (status_at bs i)) q.0 q.1 e in
        pair-decided d (fits-gone l bs p.left-fits) (fits-gone r bs p.right-fits)

-- ---- what fits holds the cells of the state that it is read as

module _ (bs : Bytes) (size : length bs ≡ cells_size) (small : Small bs) where
  -- a node that has no sides: its cell is read whole
  leaf-cell : (i : ℕ) (ns : List ℕ) → T (every (λ k. eqb k (status_number (status_of k))) ns) → (i < most_nodes) × (zeros_at bs i ≡ 0) → T (among (status_at bs i) ns)
      → cell_at bs i ≡ cell (leaf_state (status_of (status_at bs i)) false (offset_at bs i) (counter_at bs i))
  unfolding status offset counter
  leaf-cell i ns e z m =
      cell-of bs i size z.0 small (leaf_state (status_of (status_at bs i)) false (offset_at bs i) (counter_at bs i)) (named (status_at bs i) ns e m) refl z.1 refl

  -- a pair: its offset and counter are not read, and are zero
  pair-cell : (i : ℕ) (j : Join) (a b : State) → (i < most_nodes) × (zeros_at bs i ≡ 0) → T (among (status_at bs i) (statuses j)) → T (bare bs i)
      → cell_at bs i ≡ cell (pair_state (status_of (status_at bs i)) false a b)
  unfolding status offset counter bare
  pair-cell i j a b z m h =
      cell-of bs i size z.0 small (pair_state (status_of (status_at bs i)) false a b) (named (status_at bs i) (statuses j) (statuses-named j) m)
      (eqb→eq (offset_at bs i) 0 (and_left (eqb (offset_at bs i) 0) (eqb (counter_at bs i) 0) h)) z.1
      (eqb→eq (counter_at bs i) 0 (and_right (eqb (offset_at bs i) 0) (eqb (counter_at bs i) 0) h))

  pub fits_kept : (parent : Bool) (t : Tree) → ((i : ℕ) → T (holds t i) → (i < most_nodes) × (zeros_at bs i ≡ 0)) → T (fits_under parent t bs) → Kept t (load t bs) bs
  unfolding holds load Kept left_of right_of fits_under every status_number status_of
  fits_kept parent (leaf i r c code) z h =
      leaf-cell i (1 ∷ 2 ∷ 5 ∷ 6 ∷ []) tt (z i (eqb_refl i))
      (three (dropped_with parent bs i) (among (status_at bs i) (1 ∷ 2 ∷ 5 ∷ 6 ∷ [])) (elim (is_running_at bs i) [ true ↦ waits_at code c bs i | false ↦ bare bs i ]) h).1
  fits_kept parent (trivial i) z h =
      leaf-cell i (2 ∷ 6 ∷ []) tt (z i (eqb_refl i)) (three (dropped_with parent bs i) (among (status_at bs i) (2 ∷ 6 ∷ [])) (bare bs i) h).1
  fits_kept parent (unsatisfiable i) z h =
      leaf-cell i (5 ∷ 6 ∷ []) tt (z i (eqb_refl i)) (three (dropped_with parent bs i) (among (status_at bs i) (5 ∷ 6 ∷ [])) (bare bs i) h).1
  fits_kept parent (node w j i l r) z h =
      let p : PairFits parent (is_running_at bs i) w j i l r bs = pair_parts parent w j i l r bs h in (
        pair-cell i j (load l bs) (load r bs) (z i (holds-here w j i l r)) p.status-fits p.is-bare,
        fits_kept (not (is_running_at bs i)) l (λ k u. z k (holds-left w j i l r k u)) p.left-fits,
        fits_kept (not (is_running_at bs i)) r (λ k u. z k (holds-right w j i l r k u)) p.right-fits,
      )

-- ---- what was saved at rest fits

runs-among : (j : Join) → T (among 1 (statuses j))
unfolding among statuses
runs-among and = tt
runs-among or = tt

drops-among : (j : Join) → T (among 6 (statuses j))
unfolding among statuses
drops-among and = tt
drops-among or = tt

-- what a decided node's status is
decided-parts : (j : Join) (x : Status) → T (decided_by j x) → Standing (status_number x) × T (among (status_number x) (statuses j)) × (is_running x ≡ false)
unfolding status_number among statuses is_running decided_by
decided-parts and running d = absurd d
decided-parts and ended d = (tt, tt, refl)
decided-parts and ended_left d = absurd d
decided-parts and ended_right d = absurd d
decided-parts and halted d = (tt, tt, refl)
decided-parts and dropped d = absurd d
decided-parts or running d = absurd d
decided-parts or ended d = absurd d
decided-parts or ended_left d = (tt, tt, refl)
decided-parts or ended_right d = (tt, tt, refl)
decided-parts or halted d = (tt, tt, refl)
decided-parts or dropped d = absurd d

module _ (bs : Bytes) (size : length bs ≡ cells_size) where
  -- the readings of a cell that is a state's
  reads_at : (i : ℕ) → i < most_nodes → (x : Status) (o c : ℕ) → c < 256 ^ 4 → cell_at bs i ≡ cell (leaf_state x false o c)
      → (status_at bs i ≡ status_number x) × (offset_at bs i ≡ o) × (counter_at bs i ≡ c)
  unfolding status offset counter
  reads_at i below x o c h is =
      (status-is bs i size below (leaf_state x false o c) is, offset-is bs i size below (leaf_state x false o c) is, counter-is bs i size below (leaf_state x false o c) is h)

  reads_over : (i : ℕ) → i < most_nodes → (x : Status) (a b : State) → cell_at bs i ≡ cell (pair_state x false a b)
      → (status_at bs i ≡ status_number x) × (offset_at bs i ≡ 0) × (counter_at bs i ≡ 0)
  unfolding status offset counter
  reads_over i below x a b is =
      (status-is bs i size below (pair_state x false a b) is, offset-is bs i size below (pair_state x false a b) is, counter-is bs i size below (pair_state x false a b) is zero_word)

  -- the cell of a node that has no sides, and nothing to wait for
  leaf-fits : (parent : Bool) (i c : ℕ) (r : ActionSet) (code : List Step) (x : Status) → i < most_nodes → cell_at bs i ≡ cell (leaf_state x false 0 0)
      → T (beq (eqb (status_number x) 6) parent && among (status_number x) (1 ∷ 2 ∷ 5 ∷ 6 ∷ []) && not (is_running x)) → T (fits_under parent (leaf i r c code) bs)
  unfolding fits_under dropped_with is_running_at bare
  leaf-fits parent i c r code x below is h =
      let q = reads_at i below x 0 0 zero_word is in
      let p = three (beq (eqb (status_number x) 6) parent) (among (status_number x) (1 ∷ 2 ∷ 5 ∷ 6 ∷ [])) (not (is_running x)) h in
      let n : is_running (status_of (status_number x)) ≡ false = rw status-back (not-false (is_running x) p.2) in
      rw (q.0, n, q.1, q.2) (and_intro (beq (eqb (status_number x) 6) parent && among (status_number x) (1 ∷ 2 ∷ 5 ∷ 6 ∷ [])) true
      (and_intro (beq (eqb (status_number x) 6) parent) (among (status_number x) (1 ∷ 2 ∷ 5 ∷ 6 ∷ [])) p.0 p.1) tt)

  leaf-waits-fits : (i c₀ : ℕ) (r : ActionSet) (code : List Step) (o c : ℕ) → i < most_nodes → c < 256 ^ 4 → T (is_next (get_or code o halt)) → c ≤ c₀
      → cell_at bs i ≡ cell (leaf_state running false o c) → T (fits_under false (leaf i r c₀ code) bs)
  unfolding fits_under dropped_with among is_running_at is_running waits_at status_of status_number
  leaf-waits-fits i c₀ r code o c below small n h is =
      let q = reads_at i below running o c small is in
      rw (q.0, q.1, q.2) (and_intro (is_next (get_or code o halt)) (leb c c₀) n (le→leb c c₀ h))

  trivial-fits : (parent : Bool) (i : ℕ) (x : Status) → i < most_nodes → cell_at bs i ≡ cell (leaf_state x false 0 0)
      → T (beq (eqb (status_number x) 6) parent && among (status_number x) (2 ∷ 6 ∷ [])) → T (fits_under parent (trivial i) bs)
  unfolding fits_under dropped_with bare
  trivial-fits parent i x below is h =
      let q = reads_at i below x 0 0 zero_word is in
      rw (q.0, q.1, q.2) (and_intro (beq (eqb (status_number x) 6) parent && among (status_number x) (2 ∷ 6 ∷ [])) true h tt)

  unsatisfiable-fits : (parent : Bool) (i : ℕ) (x : Status) → i < most_nodes → cell_at bs i ≡ cell (leaf_state x false 0 0)
      → T (beq (eqb (status_number x) 6) parent && among (status_number x) (5 ∷ 6 ∷ [])) → T (fits_under parent (unsatisfiable i) bs)
  unfolding fits_under dropped_with bare
  unsatisfiable-fits parent i x below is h =
      let q = reads_at i below x 0 0 zero_word is in
      rw (q.0, q.1, q.2) (and_intro (beq (eqb (status_number x) 6) parent && among (status_number x) (5 ∷ 6 ∷ [])) true h tt)

  -- a pair whose cell is a state's
  pair_fits : (parent : Bool) (w : Way) (j : Join) (i : ℕ) (l r : Tree) (x : Status) (a b : State) → i < most_nodes → cell_at bs i ≡ cell (pair_state x false a b)
      → T (beq (eqb (status_number x) 6) parent) → T (among (status_number x) (statuses j))
      → T (not (is_running x) || undecided j (status_of (status_at bs (number_of l))) (status_of (status_at bs (number_of r))))
      → T (fits_under (not (is_running x)) l bs) → T (fits_under (not (is_running x)) r bs) → T (fits_under parent (node w j i l r) bs)
  pair_fits parent w j i l r x a b below is d m u f g =
      let q = reads_over i below x a b is in
      let e : is_running_at bs i ≡ is_running x = unfold is_running_at in rw (q.0, status-back) refl in
      let d' : T (dropped_with parent bs i) = unfold dropped_with in rw q.0 d in
      let m' : T (among (status_at bs i) (statuses j)) = rw q.0 m in
      let b' : T (bare bs i) = unfold bare in rw (q.1, q.2) tt in
      pair-whole parent w j i l r bs (is_running x) e (record { drops = d'; status-fits = m'; is-bare = b'; runs = u; left-fits = f; right-fits = g })

  pub kept-gone-fits : (t : Tree) → Below most_nodes t → Kept t (gone t) bs → T (fits_under true t bs)
  unfolding holds Kept gone left_of right_of is_running among status_number
  kept-gone-fits (leaf i r c code) below k = leaf-fits true i c r code dropped (below i (eqb_refl i)) k tt
  kept-gone-fits (trivial i) below k = trivial-fits true i dropped (below i (eqb_refl i)) k tt
  kept-gone-fits (unsatisfiable i) below k = unsatisfiable-fits true i dropped (below i (eqb_refl i)) k tt
  kept-gone-fits (node w j i l r) below k =
      pair_fits true w j i l r dropped (gone l) (gone r) (below-here most_nodes w j i l r below) k.0 tt (drops-among j) tt
      (kept-gone-fits l (below_left most_nodes w j i l r below) k.1) (kept-gone-fits r (below_right most_nodes w j i l r below) k.2)

  pub kept-fits : {t : Tree} {s : State} → Below most_nodes t → Sized t → AtRest t s → Kept t s bs → T (fits_under false t bs)
  unfolding Sized holds Kept left_of right_of is_running among status_number
  kept-fits {t = leaf i r c₀ code} below z (leaf-waits {o = o} {c = c} n h) k =
      leaf-waits-fits i c₀ r code o c (below i (eqb_refl i)) (omega arith) n h k
  kept-fits {t = leaf i r c₀ code} below z leaf-ended k = leaf-fits false i c₀ r code ended (below i (eqb_refl i)) k tt
  kept-fits {t = leaf i r c₀ code} below z leaf-halted k = leaf-fits false i c₀ r code halted (below i (eqb_refl i)) k tt
  kept-fits {t = trivial i} below z trivial-ended k = trivial-fits false i ended (below i (eqb_refl i)) k tt
  kept-fits {t = unsatisfiable i} below z unsatisfiable-halted k = unsatisfiable-fits false i halted (below i (eqb_refl i)) k tt
  kept-fits {t = node w j i l r} {s = pair_state running false a b} below z (pair_runs p q e) k =
      let bl : Below most_nodes l = below_left most_nodes w j i l r below in
      let br : Below most_nodes r = below_right most_nodes w j i l r below in
      let el : status_of (status_at bs (number_of l)) ≡ status a = status-at l bs ∙ ap status (kept-load l a bs bl size (rest-stored z.0 p) k.1) in
      let er : status_of (status_at bs (number_of r)) ≡ status b = status-at r bs ∙ ap status (kept-load r b bs br size (rest-stored z.1 q) k.2) in
      pair_fits false w j i l r running a b (below-here most_nodes w j i l r below) k.0 tt (runs-among j)
      (rw (el, er) (joined-undecided j (status a) (status b) e)) (kept-fits bl z.0 p k.1) (kept-fits br z.1 q k.2)
  kept-fits {t = node w j i l r} {s = pair_state x false a b} below z (pair-decided d p q) k =
      let h = decided-parts j x d in
      let fl : T (fits_under true l bs) = kept-gone-fits l (below_left most_nodes w j i l r below) (subst (λ (s : State). Kept l s bs) p k.1) in
      let fr : T (fits_under true r bs) = kept-gone-fits r (below_right most_nodes w j i l r below) (subst (λ (s : State). Kept r s bs) q k.2) in
      pair_fits false w j i l r x a b (below-here most_nodes w j i l r below) k.0 h.0 h.1 (rw h.2 tt) (rw h.2 fl) (rw h.2 fr)
  kept-fits {t = node w j i l r} {s = leaf_state _ asked _ _} below z x15 k = elim x15 [ ]
  kept-fits {t = node w j i l r} {s = pair_state x true a b} below z x18 k = elim x18 [ ]

-- every cell that is stored has its two zeros
store-zeros : (t : Tree) → Below most_nodes t → (s : State) (bs : Bytes) → length bs ≡ cells_size → ((i : ℕ) → i < most_nodes → zeros_at bs i ≡ 0)
    → (i : ℕ) → i < most_nodes → zeros_at (store t s bs) i ≡ 0
store-zeros t below s bs size h =
    (store-sized (λ cs. (i : ℕ) → i < most_nodes → zeros_at cs i ≡ 0) t below (λ k u x cs z p i b. go k (below k u) x cs z i b (p i b) (eqb k i) refl) s bs size h).1
  where
    go : (k : ℕ) → k < most_nodes → (x : State) (cs : Bytes) → length cs ≡ cells_size → (i : ℕ) → i < most_nodes → zeros_at cs i ≡ 0 → (b : Bool) → eqb k i ≡ b
        → zeros_at (put cs (cell_place k) (cell x)) i ≡ 0
    go k bk x cs z i bi p true e =
        let ds : Bytes = put cs (cell_place k) (cell x) in
        subst (λ (n : ℕ). zeros_at ds n ≡ 0) (eqb→eq k i (of-yes (eqb k i) e)) (zeros-is ds k (put-size cs k x z bk) bk x (put-cell cs k x z bk))
    go k bk x cs z i bi p false e =
        (cell_same (put cs (cell_place k) (cell x)) cs i (put-size cs k x z bk) z bi (put-elsewhere cs k i x z bk e)).2 ∙ p

-- and none is stored from the bound of the numbers on
store_tail : (n : ℕ) → n ≤ most_nodes → (t : Tree) → Below n t → (s : State) (bs : Bytes) → length bs ≡ cells_size
    → drop (cell_place n) (store t s bs) ≡ drop (cell_place n) bs
unfolding cell_place
store_tail n most t below s bs size =
    (store-sized (λ cs. drop (cell_place n) cs ≡ drop (cell_place n) bs) t (below_more n most t below)
    (λ k u x cs z p. let b : k < n = below k u in drop-after cs (cell_place k) (cell x) (cell_place n) (omega (arith, cell-length x)) (omega (arith, cell-length x)) ∙ p)
    s bs size refl).1

zeros-up-to : (bs : Bytes) (n : ℕ) → ((i : ℕ) → i < n → zeros_at bs i ≡ 0) → T (zeros_up_to bs n)
unfolding zeros_up_to
zeros-up-to bs zero h = tt
zeros-up-to bs (suc n) h =
    and_intro (eqb (zeros_at bs n) 0) (zeros_up_to bs n) (subst (λ (m : ℕ). T (eqb m 0)) (sym (h n (omega arith))) (eqb_refl 0)) (zeros-up-to bs n (λ i l. h i (omega arith)))

module _ (n : ℕ) (most : n ≤ most_nodes) (t : Tree) (below : Below n t) where
  pub rest-fits : Distinct t → Sized t → (s : State) → AtRest t s → T (fits_under false t (saved_cells t s))
  rest-fits apart sized s rest =
      let b : Below most_nodes t = below_more n most t below in
      kept-fits (saved_cells t s) (cells-length t b s) b sized rest (cells-kept t apart b s)

  pub cells-zeros : (s : State) → T (zeros_up_to (saved_cells t s) n)
  unfolding saved_cells
  cells-zeros s =
      zeros-up-to (saved_cells t s) n
      (λ i l. store-zeros t (below_more n most t below) s (replicate cells_size zero) (length-replicate cells_size zero)
      (λ k b. unfold zeros_at in number-zeros (replicate cells_size zero) (cell_place k + 2) 2 (zeros-every cells_size)) i (omega arith))

  pub cells-tail : (s : State) → T (every (λ b. eqb b 0) (drop (cell_place n) (saved_cells t s)))
  unfolding saved_cells
  cells-tail s =
      subst (λ (zs : Bytes). T (every (λ b. eqb b 0) zs)) (sym (store_tail n most t below s (replicate cells_size zero) (length-replicate cells_size zero)))
      (every_drop (λ b. eqb b 0) (cell_place n) (replicate cells_size zero) (zeros-every cells_size))

-- ---- rule 12 of a policy

zeros-each : (bs : Bytes) (n : ℕ) → T (zeros_up_to bs n) → (i : ℕ) → i < n → zeros_at bs i ≡ 0
unfolding zeros_up_to
zeros-each bs zero h i l = absurd (omega arith)
zeros-each bs (suc n) h i l = ⊎_elim
    (λ (e : i ≡ n). subst (λ (k : ℕ). zeros_at bs k ≡ 0) (sym e) (eqb→eq (zeros_at bs n) 0 (and_left (eqb (zeros_at bs n) 0) (zeros_up_to bs n) h)))
    (λ (e : i < n). zeros-each bs n (and_right (eqb (zeros_at bs n) 0) (zeros_up_to bs n) h) i e)
    (eq-or-lt_of_le (omega arith))

-- the parts of the rule, of the cells
pub record Fitting (policy bs : Bytes) : Type 0 where
  pub nodes-fit : T (fits_under false (tree policy) bs)
  pub zeros : (i : ℕ) → i < node_count policy → zeros_at bs i ≡ 0
  pub rest-zero : T (every (λ b. eqb b 0) (drop (cell_place (node_count policy)) bs))

pub fitting : (policy bs : Bytes) → T (cells_fit policy bs) → Fitting policy bs
unfolding cells_fit
fitting policy bs h =
    let p = three (fits_under false (tree policy) bs) (zeros_up_to bs (node_count policy)) (every (λ b. eqb b 0) (drop (cell_place (node_count policy)) bs)) h in
    record { nodes-fit = p.0; zeros = zeros-each bs (node_count policy) p.1; rest-zero = p.2 }

-- cells that fit are at rest
cells_rest : (policy bs : Bytes) → T (cells_fit policy bs) → AtRest (tree policy) (load (tree policy) bs)
cells_rest policy bs h = fits-rest (tree policy) bs (fitting policy bs h).nodes-fit

-- the cells of a saved state at rest fit
cells-fit : (policy : Bytes) → node_count policy ≤ most_nodes → Below (node_count policy) (tree policy) → Distinct (tree policy) → Sized (tree policy)
    → (s : State) → AtRest (tree policy) s → T (cells_fit policy (saved_cells (tree policy) s))
unfolding cells_fit
cells-fit policy most below apart sized s rest =
    let n : ℕ = node_count policy in
    let t : Tree = tree policy in
    let bs : Bytes = saved_cells t s in
    let f : T (fits_under false t bs) = rest-fits n most t below apart sized s rest in
    and_intro (fits_under false t bs && zeros_up_to bs n) (every (λ b. eqb b 0) (drop (cell_place n) bs))
    (and_intro (fits_under false t bs) (zeros_up_to bs n) f (cells-zeros n most t below s)) (cells-tail n most t below s)

-- ---- the whole state: the bytes in front, and the cells

pub saved-cells : (t : Tree) (s : State) → cells (saved t s) ≡ saved_cells t s
unfolding cells saved ahead
saved-cells t s = refl

pub saved-length : (t : Tree) → Below most_nodes t → (s : State) → length (saved t s) ≡ state_size
unfolding saved ahead
saved-length t below s = omega (arith, cells-length t below s)

-- a saved state says how many of its leaves run
pub saved-count : (t : Tree) (s : State) → count_at (saved t s) ≡ running_leaves t s
unfolding count_at saved ahead number spelt
saved-count t s = omega arith

-- reading back a saved state gives the state that was saved
pub load-saved : (t : Tree) → Distinct t → Below most_nodes t → Sized t → (s : State) → AtRest t s → load t (cells (saved t s)) ≡ s
load-saved t apart below sized s rest = ap (λ (bs : Bytes). load t bs) (saved-cells t s) ∙ load_cells t apart below sized s rest

-- the two parts of a state that fits
pub fits-cells : (policy state : Bytes) → T (fits policy state) → T (cells_fit policy (cells state))
unfolding fits
fits-cells policy state h = and_left (cells_fit policy (cells state)) (count_fits (tree policy) state) h

fits-front : (policy state : Bytes) → T (fits policy state) → T (count_fits (tree policy) state)
unfolding fits
fits-front policy state h = and_right (cells_fit policy (cells state)) (count_fits (tree policy) state) h

-- a state that fits is at rest
pub fits-load : (policy state : Bytes) → T (fits policy state) → AtRest (tree policy) (load (tree policy) (cells state))
fits-load policy state h = cells_rest policy (cells state) (fits-cells policy state h)

-- a state that fits says how many of its leaves run
pub fits_count : (policy state : Bytes) → T (fits policy state) → count_at state ≡ running_leaves (tree policy) (load (tree policy) (cells state))
unfolding count_fits
fits_count policy state h =
    let n : ℕ = running_leaves (tree policy) (load (tree policy) (cells state)) in
    eqb→eq (count_at state) n (and_right (eqb (number state 0 count_place) 0) (eqb (count_at state) n) (fits-front policy state h))

-- the bytes in front of a state that fits are those that are saved with its count
pub fits-ahead : (policy state : Bytes) → Small state → length state ≡ state_size → T (fits policy state)
    → ahead (running_leaves (tree policy) (load (tree policy) (cells state))) ++ cells state ≡ state
unfolding count_fits ahead cells spell
fits-ahead policy state small size h =
    let n : ℕ = running_leaves (tree policy) (load (tree policy) (cells state)) in
    let z : number state 0 count_place ≡ 0 =
    eqb→eq (number state 0 count_place) 0 (and_left (eqb (number state 0 count_place) 0) (eqb (count_at state) n) (fits-front policy state h)) in
    ap₂ {C = Bytes} (λ (m k : ℕ). spell count_place m ++ (k ∷ cells state)) (sym z) (sym (fits_count policy state h))
    ∙ ap (λ (bs : Bytes). spell count_place (number state 0 count_place) ++ bs) (unfold count_at in byte-first state count_place (omega arith))
    ∙ number-first state small 0 count_place (omega arith)

-- "Opening, each action and closing keep it true."
count-saved : (t : Tree) → Distinct t → Below most_nodes t → Sized t → (s : State) → AtRest t s → T (count_fits t (saved t s))
unfolding count_fits
count-saved t apart below sized s rest =
    let n : ℕ = running_leaves t (load t (cells (saved t s))) in
    let e : count_at (saved t s) ≡ n = saved-count t s ∙ ap (running_leaves t) (sym (load-saved t apart below sized s rest)) in
    and_intro (eqb (number (saved t s) 0 count_place) 0) (eqb (count_at (saved t s)) n) (unfold saved ahead number spelt in tt)
    (subst (λ (m : ℕ). T (eqb (count_at (saved t s)) m)) e (eqb_refl (count_at (saved t s))))

-- a state at rest, saved, fits
pub fits-saved : (policy : Bytes) → node_count policy ≤ most_nodes → Below (node_count policy) (tree policy) → Distinct (tree policy) → Sized (tree policy)
    → (s : State) → AtRest (tree policy) s → T (fits policy (saved (tree policy) s))
unfolding fits
fits-saved policy most below apart sized s rest =
    let t : Tree = tree policy in
    and_intro (cells_fit policy (cells (saved t s))) (count_fits t (saved t s))
    (subst (λ (bs : Bytes). T (cells_fit policy bs)) (sym (saved-cells t s)) (cells-fit policy most below apart sized s rest))
    (count-saved t apart (below_more (node_count policy) most t below) sized s rest)
