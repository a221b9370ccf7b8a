-- What follows from a state's being at rest or between the phases, and how two sides settle into a node's state.
use Prim.Native.Nat.{ℕ, ◌≤◌}
use mathlib.Core.Path.{◌≡◌, refl, sym, ap, subst}
use mathlib.Core.Bool.{Bool, true, false, ◌&&◌, ◌||◌}
use mathlib.Core.List.{List}
use mathlib.Core.Logic.{⊎_elim}
use lib.Dec.{T}
use lib.ListN.{get_or}
use Rattle.actions.specs.Sets.{ActionSet}
use Rattle.actions.proofs.Tests.{and_intro, or_cases, or-false-left, or-false-right, true-not-false}
use Rattle.spec_policy.specs.Steps.{Step, halt, is_next}
use Rattle.spec_policy.specs.Tree.{Way, Join, and, or, Tree, leaf, trivial, unsatisfiable, node}
use Rattle.spec_check.specs.Modes.{idle}
use Rattle.spec_check.specs.Lawful.{reached_in}
use Rattle.spec_turns.specs.Status.{Status, running, ended, ended_left, ended_right, halted, dropped, is_running, has_ended, is_halted, is_decided, joined}
use Rattle.spec_turns.specs.State.{State, pair_state, status, asked, offset, counter, left_of, right_of, leaf_over, drop, pair_with, settled}
use Rattle.spec_turns.proofs.Rest.{Mid, rests, leaf-owes, trivial-owes}
use Rattle.spec_turns.specs.Rest.{gone, decided_by, AtRest, leaf-waits, leaf-ended, leaf-halted, trivial-ended, unsatisfiable-halted, pair_runs, pair-decided}
use Rattle.spec_turns.proofs.Rest.{unsatisfiable-owes, pair-owes, Over}
use Rattle.spec_turns.proofs.StatusLaws.{is-running}

-- ---- statuses

-- as `joined` chooses
choose : {A : Type 0} → Bool → A → A → A
choose true a b = a
choose false a b = b

-- A node's status is running or one that decides it.
joined-decides : (j : Join) (l r : Status) → is_running (joined j l r) ≡ false → T (decided_by j (joined j l r))
unfolding joined decided_by is_running choose
joined-decides j l r = go j
  where
    step : (j : Join) (p : Bool) (a b : Status) → T (decided_by j a) → (is_running b ≡ false → T (decided_by j b))
        → is_running (choose p a b) ≡ false → T (decided_by j (choose p a b))
    step j true a b h k e = h
    step j false a b h k e = k e

    go : (j : Join) → is_running (joined j l r) ≡ false → T (decided_by j (joined j l r))
    go and = step and (is_halted l || is_halted r) halted _ tt (step and (has_ended l && has_ended r) ended running tt (λ e. true-not-false refl e))
    go or =
        step or (has_ended l) ended_left _ tt
        (step or (has_ended r) ended_right _ tt (step or (is_halted l && is_halted r) halted running tt (λ e. true-not-false refl e)))

-- two decided sides decide their node
joined-decided : (j : Join) (l r : Status) → T (is_decided l) → T (is_decided r) → is_running (joined j l r) ≡ false
unfolding joined is_running is_decided choose
joined-decided j l r dl dr = go j
  where
    step : (p : Bool) (a b : Status) → is_running a ≡ false → (p ≡ false → is_running b ≡ false) → is_running (choose p a b) ≡ false
    step true a b h k = h
    step false a b h k = k refl

    -- of two cases, one that fails leaves the other
    first : (p q : Bool) → T (p || q) → q ≡ false → T p
    first p q h e = ⊎_elim (λ t. t) (λ t. absurd (subst T e t)) (or_cases p q h)

    second : (p q : Bool) → T (p || q) → p ≡ false → T q
    second p q h e = ⊎_elim (λ t. absurd (subst T e t)) (λ t. t) (or_cases p q h)

    go : (j : Join) → is_running (joined j l r) ≡ false
    go and = step (is_halted l || is_halted r) halted _ refl (λ e. step (has_ended l && has_ended r) ended running refl (λ e'. absurd (subst T e'
        (and_intro (has_ended l) (has_ended r) (first (has_ended l) (is_halted l) dl (or-false-left (is_halted l) (is_halted r) e))
        (first (has_ended r) (is_halted r) dr (or-false-right (is_halted l) (is_halted r) e))))))
    go or = step (has_ended l) ended_left _ refl (λ e. step (has_ended r) ended_right _ refl (λ e'. step (is_halted l && is_halted r) halted running refl (λ e''. absurd (subst T e''
        (and_intro (is_halted l) (is_halted r) (second (has_ended l) (is_halted l) dl e) (second (has_ended r) (is_halted r) dr e'))))))

-- the statuses that decide a node are decided
decided_by-decided : (j : Join) (s : Status) → T (decided_by j s) → T (is_decided s)
unfolding decided_by is_decided has_ended is_halted
decided_by-decided and running h = h
decided_by-decided and ended h = tt
decided_by-decided and ended_left h = tt
decided_by-decided and ended_right h = tt
decided_by-decided and halted h = tt
decided_by-decided and dropped h = h
decided_by-decided or running h = h
decided_by-decided or ended h = tt
decided_by-decided or ended_left h = tt
decided_by-decided or ended_right h = tt
decided_by-decided or halted h = tt
decided_by-decided or dropped h = h

pub decided-stops : (s : Status) → T (is_decided s) → is_running s ≡ false
unfolding is_decided has_ended is_halted is_running
decided-stops running h = absurd h
decided-stops ended h = refl
decided-stops ended_left h = refl
decided-stops ended_right h = refl
decided-stops halted h = refl
decided-stops dropped h = refl

-- ---- what a state's being so says of its parts

-- at rest and not running is decided: no node under a parent that runs is dropped
pub rest-decided : {t : Tree} {s : State} → AtRest t s → is_running (status s) ≡ false → T (is_decided (status s))
unfolding status is_running is_decided has_ended is_halted
rest-decided (leaf-waits n k) e = true-not-false refl e
rest-decided leaf-ended e = tt
rest-decided leaf-halted e = tt
rest-decided trivial-ended e = tt
rest-decided unsatisfiable-halted e = tt
rest-decided (pair_runs p q k) e = true-not-false refl e
rest-decided (pair-decided {j = j} {s = s} d p q) e = decided_by-decided j s d

-- no mark, at rest
pub mid-rest : {t : Tree} {s : State} → Mid t s → asked s ≡ false → AtRest t s
unfolding asked
mid-rest (rests h) e = h
mid-rest (leaf-owes n k) e = true-not-false refl e
mid-rest trivial-owes e = true-not-false refl e
mid-rest unsatisfiable-owes e = true-not-false refl e
mid-rest (pair-owes p q k) e = true-not-false refl e

pub rest-unasked : {t : Tree} {s : State} → AtRest t s → asked s ≡ false
unfolding asked
rest-unasked (leaf-waits n k) = refl
rest-unasked leaf-ended = refl
rest-unasked leaf-halted = refl
rest-unasked trivial-ended = refl
rest-unasked unsatisfiable-halted = refl
rest-unasked (pair_runs p q k) = refl
rest-unasked (pair-decided d p q) = refl

module _ {i c₀ : ℕ} {r : ActionSet} {code : List Step} where
  pub leaf-waiting : {s : State} → AtRest (leaf i r c₀ code) s → is_running (status s) ≡ true → T (is_next (get_or code (offset s) halt)) × (counter s ≤ c₀)
  unfolding status is_running offset counter
  leaf-waiting (leaf-waits n k) e = (n, k)
  leaf-waiting leaf-ended e = true-not-false e refl
  leaf-waiting leaf-halted e = true-not-false e refl

  pub leaf-owing : {s : State} → Mid (leaf i r c₀ code) s → asked s ≡ true → T (reached_in code idle (offset s)) × (counter s ≤ c₀)
  unfolding asked offset counter
  leaf-owing (rests h) e = true-not-false e (rest-unasked h)
  leaf-owing (leaf-owes n k) e = (n, k)

module _ {w : Way} {j : Join} {i : ℕ} {l r : Tree} where
  pub pair-running : {s : State} → AtRest (node w j i l r) s → is_running (status s) ≡ true → AtRest l (left_of s) × AtRest r (right_of s)
  unfolding status left_of right_of
  pair-running (pair_runs p q k) e = (p, q)
  pair-running (pair-decided {s = s} d p q) e = true-not-false e (decided-stops s (decided_by-decided j s d))

  pub pair-owing : {s : State} → Mid (node w j i l r) s → asked s ≡ true → Mid l (left_of s) × Mid r (right_of s)
  unfolding asked left_of right_of
  pair-owing (rests h) e = true-not-false e (rest-unasked h)
  pair-owing (pair-owes p q k) e = (p, q)

-- ---- dropping

drop-gone : (t : Tree) → drop (gone t) ≡ gone t
unfolding drop gone leaf_over
drop-gone (leaf i r c code) = refl
drop-gone (trivial i) = refl
drop-gone (unsatisfiable i) = refl
drop-gone (node w j i l r) = cc (drop-gone l, drop-gone r)

-- whatever can stand there, dropping leaves the same
pub drop-rest : {t : Tree} {s : State} → AtRest t s → drop s ≡ gone t
unfolding drop gone leaf_over
drop-rest (leaf-waits n k) = refl
drop-rest leaf-ended = refl
drop-rest leaf-halted = refl
drop-rest trivial-ended = refl
drop-rest unsatisfiable-halted = refl
drop-rest (pair_runs p q k) = cc (drop-rest p, drop-rest q)
drop-rest (pair-decided {l = l} {r = r} d p q) = cc (ap drop p, ap drop q, drop-gone l, drop-gone r)

pub drop-mid : {t : Tree} {s : State} → Mid t s → drop s ≡ gone t
unfolding drop gone leaf_over
drop-mid (rests h) = drop-rest h
drop-mid (leaf-owes n k) = refl
drop-mid trivial-owes = refl
drop-mid unsatisfiable-owes = refl
drop-mid (pair-owes p q k) = cc (drop-mid p, drop-mid q)

-- ---- settling

settled-cases : (P : State → Type 0) (j : Join) (m : Bool) (a b : State)
    → (is_running (joined j (status a) (status b)) ≡ true → P (pair_state (joined j (status a) (status b)) m a b))
    → (is_running (joined j (status a) (status b)) ≡ false → P (pair_state (joined j (status a) (status b)) false (drop a) (drop b))) → P (settled j m a b)
unfolding settled pair_with
settled-cases P j m a b = go (joined j (status a) (status b)) (is_running (joined j (status a) (status b)))
  where
    go : (s : Status) (v : Bool) → (v ≡ true → P (pair_state s m a b)) → (v ≡ false → P (pair_state s false (drop a) (drop b)))
        → P (elim v [ true ↦ pair_state s m a b | false ↦ pair_state s false (drop a) (drop b) ])
    go s true h k = h refl
    go s false h k = k refl

module _ (w : Way) (j : Join) (i : ℕ) (l r : Tree) where
  -- a node with a status that decides it, its sides dropped
  dropped-rest : (a b : State) → Mid l a → Mid r b → is_running (joined j (status a) (status b)) ≡ false
      → AtRest (node w j i l r) (pair_state (joined j (status a) (status b)) false (drop a) (drop b))
  dropped-rest a b p q e = pair-decided (joined-decides j (status a) (status b) e) (drop-mid p) (drop-mid q)

  -- a decided node is at rest, whatever its sides were
  pub settled-done : (m : Bool) (a b : State) → Mid l a → Mid r b → is_running (joined j (status a) (status b)) ≡ false → AtRest (node w j i l r) (settled j m a b)
  settled-done m a b p q e = settled-cases (AtRest (node w j i l r)) j m a b (λ e'. true-not-false e' e) (dropped-rest a b p q)

  pub settled-rest : (a b : State) → AtRest l a → AtRest r b → AtRest (node w j i l r) (settled j false a b)
  settled-rest a b p q =
      settled-cases (AtRest (node w j i l r)) j false a b
      (λ e. let k = is-running (joined j (status a) (status b)) e in
      subst (λ (s : Status). AtRest (node w j i l r) (pair_state s false a b)) (sym k) (pair_runs p q k))
      (dropped-rest a b (rests p) (rests q))

  pub settled-mid : (a b : State) → Mid l a → Mid r b → Mid (node w j i l r) (settled j true a b)
  settled-mid a b p q =
      settled-cases (Mid (node w j i l r)) j true a b
      (λ e. let k = is-running (joined j (status a) (status b)) e in
      subst (λ (s : Status). Mid (node w j i l r) (pair_state s true a b)) (sym k) (pair-owes p q k))
      (λ e. rests (dropped-rest a b p q e))

  -- two sides that are decided decide the node
  pub settled-over : (m : Bool) (a b : State) → Mid l a → Mid r b → is_running (joined j (status a) (status b)) ≡ false → Over (node w j i l r) (settled j m a b)
  unfolding status
  settled-over m a b p q e = record {
    rest = settled-done m a b p q e;
    decided = settled-cases (λ s. is_running (status s) ≡ false) j m a b (λ e'. e) (λ e'. e);
  }

  pub over-over : (m : Bool) (a b : State) → Over l a → Over r b → Over (node w j i l r) (settled j m a b)
  over-over m a b p q =
      settled-over m a b (rests p.rest) (rests q.rest)
      (joined-decided j (status a) (status b) (rest-decided p.rest p.decided) (rest-decided q.rest q.decided))
