-- The state that a memory holds, and what a phase is at its first stage.
use Prim.Native.Nat.{ℕ}
use mathlib.Core.Path.{◌≡◌, refl, sym, ap, ap₂, ◌∙◌}
use mathlib.Core.Bool.{Bool, true, false, ◌&&◌}
use Rattle.actions.specs.Sets.{Action, ActionSet, has}
use Rattle.actions.proofs.Tests.{and_first}
use Rattle.spec_policy.specs.Tree.{Way, parallel, sequential, Join, Tree, leaf, trivial, unsatisfiable, node, number_of, regulated}
use Rattle.spec_turns.specs.Status.{Status, ended, halted, dropped, is_running, joined}
use Rattle.spec_turns.specs.State.{State, leaf_state, pair_state, status, asked, left_of, right_of, leaf_over, drop, pair_with, settled}
use Rattle.spec_turns.specs.Process.{ran, lets, sups, accepts, suppresses, Out}
use Rattle.spec_turns.specs.Turn.{Phase, before, after, closing, Behaviour, quiet, emitted, still_asked, leaf_work, parallel_work, sequential_work, is_asked, if_asked, phase, fresh}
use Rattle.spec_turns.specs.Rest.{gone}
use Rattle.turn_paths.specs.Run.{Run, halts, goes, and_then, flat, unless_run, maybe, fed_after, fed_before, given_run, feed_run}
use Rattle.turn_paths.specs.Memory.{Cell, Mem, leaf_with, held, ran_of, par_right, par_left, own, ends, at_left, at_first}
use Rattle.turn_paths.specs.Choices.{asked_in}
use Rattle.turn_paths.proofs.Runs.{ext, ext₂, flat-then, flat-if, flat-unless, flat-feed}
use Rattle.spec_turns.proofs.StatusLaws.{is-running}
use Rattle.spec_turns.proofs.Walk.{fresh-runs}

-- ---- the state that a memory holds

-- a node's own status is the one in its cell
leaf-with-status : (b : Bool) (s : Status) (m : Bool) (o c : ℕ) → status (elim b [ true ↦ leaf_state s m o c | false ↦ leaf_over s ]) ≡ s
unfolding status leaf_over
leaf-with-status true s m o c = refl
leaf-with-status false s m o c = refl

pair-with-status : (b : Bool) (s : Status) (m : Bool) (l r : State) → status (elim b [ true ↦ pair_state s m l r | false ↦ pair_state s false (drop l) (drop r) ]) ≡ s
unfolding status
pair-with-status true s m l r = refl
pair-with-status false s m l r = refl

pub held-status : (t : Tree) (m : Mem) → status (held t m) ≡ (m (number_of t)).status
unfolding held number_of leaf_with pair_with
held-status (leaf i r c code) m = leaf-with-status (is_running (m i).status) (m i).status (m i).asked (m i).offset (m i).counter
held-status (trivial i) m = leaf-with-status (is_running (m i).status) (m i).status (m i).asked 0 0
held-status (unsatisfiable i) m = leaf-with-status (is_running (m i).status) (m i).status (m i).asked 0 0
held-status (node w j i l r) m = pair-with-status (is_running (m i).status) (m i).status (m i).asked (held l m) (held r m)

-- a mark is read only where the node runs
leaf-with-asked : (b : Bool) (s : Status) (m : Bool) (o c : ℕ) → asked (elim b [ true ↦ leaf_state s m o c | false ↦ leaf_over s ]) ≡ b && m
unfolding asked leaf_over
leaf-with-asked true s m o c = refl
leaf-with-asked false s m o c = refl

pair-with-asked : (b : Bool) (s : Status) (m : Bool) (l r : State) → asked (elim b [ true ↦ pair_state s m l r | false ↦ pair_state s false (drop l) (drop r) ]) ≡ b && m
unfolding asked
pair-with-asked true s m l r = refl
pair-with-asked false s m l r = refl

pub held-asked : (t : Tree) (m : Mem) → asked (held t m) ≡ is_running (m (number_of t)).status && (m (number_of t)).asked
unfolding held number_of leaf_with pair_with
held-asked (leaf i r c code) m = leaf-with-asked (is_running (m i).status) (m i).status (m i).asked (m i).offset (m i).counter
held-asked (trivial i) m = leaf-with-asked (is_running (m i).status) (m i).status (m i).asked 0 0
held-asked (unsatisfiable i) m = leaf-with-asked (is_running (m i).status) (m i).status (m i).asked 0 0
held-asked (node w j i l r) m = pair-with-asked (is_running (m i).status) (m i).status (m i).asked (held l m) (held r m)

pub asked-in : (r : ActionSet) (ph : Phase) (t : Tree) (m : Mem) → is_asked r ph (held t m) ≡ asked_in r ph (m (number_of t))
unfolding is_asked asked_in
asked-in r (before a) t m = ap (λ (s : Status). is_running s && has r a) (held-status t m)
asked-in r after t m = held-asked t m
asked-in r closing t m = ap is_running (held-status t m)

-- a node that is asked runs
asked-runs : (r : ActionSet) (ph : Phase) (x : Cell) → asked_in r ph x ≡ true → is_running x.status ≡ true
unfolding asked_in
asked-runs r (before a) x e = and_first (is_running x.status) (has r a) e
asked-runs r after x e = and_first (is_running x.status) x.asked e
asked-runs r closing x e = e

pub asked-running : (r : ActionSet) (ph : Phase) (t : Tree) (m : Mem) → is_asked r ph (held t m) ≡ true → is_running (m (number_of t)).status ≡ true
asked-running r ph t m e = asked-runs r ph (m (number_of t)) (sym (asked-in r ph t m) ∙ e)

-- the two sides of a node that runs
module _ (w : Way) (j : Join) (i : ℕ) (l r : Tree) (m : Mem) (e : is_running (m i).status ≡ true) where
  pub left-held : left_of (held (node w j i l r) m) ≡ held l m
  unfolding held pair_with left_of
  left-held = rw (e, pair_with)

  pub right-held : right_of (held (node w j i l r) m) ≡ held r m
  unfolding held pair_with right_of
  right-held = rw (e, pair_with)

-- ---- dropped states: all of a tree drops to the same

leaf-with-drop : (b : Bool) (s : Status) (m : Bool) (o c : ℕ) → drop (elim b [ true ↦ leaf_state s m o c | false ↦ leaf_over s ]) ≡ leaf_state dropped false 0 0
unfolding drop leaf_over
leaf-with-drop true s m o c = refl
leaf-with-drop false s m o c = refl

pub drop-twice : (s : State) → drop (drop s) ≡ drop s
unfolding drop leaf_over
drop-twice (leaf_state s m o c) = refl
drop-twice (pair_state s m l r) = ap₂ (pair_state dropped false) (drop-twice l) (drop-twice r)

pair-with-drop : (b : Bool) (s : Status) (m : Bool) (l r : State)
    → drop (elim b [ true ↦ pair_state s m l r | false ↦ pair_state s false (drop l) (drop r) ]) ≡ pair_state dropped false (drop l) (drop r)
unfolding drop
pair-with-drop true s m l r = refl
pair-with-drop false s m l r = ap₂ (pair_state dropped false) (drop-twice l) (drop-twice r)

pub drop-held : (t : Tree) (m : Mem) → drop (held t m) ≡ gone t
unfolding held leaf_with pair_with gone
drop-held (leaf i r c code) m = leaf-with-drop (is_running (m i).status) (m i).status (m i).asked (m i).offset (m i).counter
drop-held (trivial i) m = leaf-with-drop (is_running (m i).status) (m i).status (m i).asked 0 0
drop-held (unsatisfiable i) m = leaf-with-drop (is_running (m i).status) (m i).status (m i).asked 0 0
drop-held (node w j i l r) m =
    pair-with-drop (is_running (m i).status) (m i).status (m i).asked (held l m) (held r m) ∙ ap₂ (pair_state dropped false) (drop-held l m) (drop-held r m)

pub drop-fresh : (t : Tree) → drop (fresh t) ≡ gone t
unfolding fresh gone drop leaf_over
drop-fresh (leaf i r c code) = refl
drop-fresh (trivial i) = refl
drop-fresh (unsatisfiable i) = refl
drop-fresh (node w j i l r) = ap₂ (pair_state dropped false) (drop-fresh l) (drop-fresh r)

-- a decided node, whatever lies beneath
pub pair-with-over : (s : Status) (m : Bool) (l r : State) → is_running s ≡ false → pair_with s m l r ≡ pair_state s false (drop l) (drop r)
unfolding pair_with
pair-with-over s m l r e = rw (e, pair_with)

-- ---- the left side that waits: only its status matters, and what it drops to

module _ (l l' : State) (es : status l ≡ status l') (ed : drop l ≡ drop l') where
  unless-left : (j : Join) (m u : Bool) (r : State) (p : Run) → unless_run j m u l r p ≡ unless_run j m u l' r p
  unfolding unless_run settled
  unless-left j m u r p = on (is_running (joined j (status l) (status r))) refl ∙ ap at-status es
    where
      at-status : Status → Run
      at-status s = elim (is_running (joined j s (status r))) [ true ↦ p | false ↦ halts (record { state = pair_with (joined j s (status r)) m l' r; suppressed = u }) ]

      on : (b : Bool) → is_running (joined j (status l) (status r)) ≡ b
          → ◌≡◌ {A = Run} (elim b [ true ↦ p | false ↦ halts (record { state = pair_with (joined j (status l) (status r)) m l r; suppressed = u }) ])
          (elim b [ true ↦ p | false ↦ halts (record { state = pair_with (joined j (status l) (status r)) m l' r; suppressed = u }) ])
      on true e = refl
      on false e = ap (λ (s : State). halts (record { state = s; suppressed = u }))
          (pair-with-over (joined j (status l) (status r)) m l r e ∙ ap (λ (d : State). pair_state (joined j (status l) (status r)) false d (drop r)) ed
          ∙ sym (pair-with-over (joined j (status l) (status r)) m l' r e))

  module _ (j : Join) (rs : ActionSet) (right : Phase → State → Run) where
    given-left : (b : Action) (s : State) {k k' : State → Run} → ((t : State) → k t ≡ k' t) → given_run j rs right l b s k ≡ given_run j rs right l' b s k'
    unfolding given_run fed_before fed_after
    given-left b s {k} {k'} h =
        ap₂ (λ (p q : Run). elim (is_running (status s) && has rs b) [ true ↦ p | false ↦ q ])
        (ap (and_then (right (before b) s)) (ext (λ x. ap (maybe (emitted j x) (lets b)) (ap (and_then (right after x.state)) (ext (λ y.
        unless-left j false false y.state (k y.state) ∙ ap (unless_run j false false l' y.state) (h y.state)))))))
        (ap (goes (lets b)) (h s))

    pub feed-left : (p : Run) (s : State) (k : Out → State → Run) → feed_run j rs right l p s k ≡ feed_run j rs right l' p s k
    unfolding feed_run
    feed-left (halts x) s k = refl
    feed-left (goes (ran i o) p) s k = ap (goes (ran i o)) (feed-left p s k)
    feed-left (goes (lets b) p) s k = given-left b s (λ t. feed-left p t k)
    feed-left (goes (sups a) p) s k = ap (goes (sups a)) (feed-left p s k)
    feed-left (goes (accepts a) p) s k = ap (goes (accepts a)) (feed-left p s k)
    feed-left (goes (suppresses a) p) s k = ap (goes (suppresses a)) (feed-left p s k)

-- ---- a node that is asked, and one that is not

if-not : (r : ActionSet) (work : Behaviour) (ph : Phase) (s : State) → is_asked r ph s ≡ false → if_asked r work ph s ≡ quiet s
unfolding if_asked
if-not r work ph s e = rw (e, if_asked)

if-asked : (r : ActionSet) (work : Behaviour) (ph : Phase) (s : State) → is_asked r ph s ≡ true → if_asked r work ph s ≡ work ph s
unfolding if_asked
if-asked r work ph s e = rw (e, if_asked)

-- what a node does where it is asked
unfoldable pub works : Tree → Behaviour
works (leaf i r c code) = leaf_work i code
works (trivial i) = λ ph s. quiet (leaf_over ended)
works (unsatisfiable i) = λ ph s. quiet (leaf_over halted)
works (node parallel j i l r) = parallel_work j (regulated l) (regulated r) (phase l) (phase r)
works (node sequential j i l r) = sequential_work j (regulated r) (phase l) (phase r)

phase-works : (t : Tree) → phase t ≡ if_asked (regulated t) (works t)
unfolding phase regulated works
phase-works (leaf i r c code) = refl
phase-works (trivial i) = refl
phase-works (unsatisfiable i) = refl
phase-works (node parallel j i l r) = refl
phase-works (node sequential j i l r) = refl

phase-idle : (t : Tree) (ph : Phase) (s : State) → is_asked (regulated t) ph s ≡ false → phase t ph s ≡ quiet s
phase-idle t ph s e = ap (λ (f : Behaviour). f ph s) (phase-works t) ∙ if-not (regulated t) (works t) ph s e

pub asked-works : (t : Tree) (ph : Phase) (s : State) → is_asked (regulated t) ph s ≡ true → ran_of t ph s ≡ flat (works t ph s)
unfolding ran_of
asked-works t ph s e = ap (λ (f : Behaviour). flat (f ph s)) (phase-works t) ∙ ap flat (if-asked (regulated t) (works t) ph s e)

pub idle : (t : Tree) (ph : Phase) (s : State) → is_asked (regulated t) ph s ≡ false → ran_of t ph s ≡ halts (record { state = s; suppressed = false })
unfolding ran_of quiet flat
idle t ph s e = ap flat (phase-idle t ph s e)

-- A left side that is asked runs, and one that is not lets nothing out: so what waits may stand for it.
pub left-fresh : (j : Join) (rs : ActionSet) (right : Phase → State → Run) (l : Tree) (m : Mem) (ph ph' : Phase) (s : State)
    → at_left j rs right (held l m) ph' (ran_of l ph (held l m)) s ≡ at_left j rs right (fresh l) ph' (ran_of l ph (held l m)) s
unfolding at_left feed_run
left-fresh j rs right l m ph ph' s = on (is_asked (regulated l) ph (held l m)) refl
  where
    on : (b : Bool) → is_asked (regulated l) ph (held l m) ≡ b
        → feed_run j rs right (held l m) (ran_of l ph (held l m)) s (ends j rs right ph') ≡ feed_run j rs right (fresh l) (ran_of l ph (held l m)) s (ends j rs right ph')
    on true e =
        feed-left (held l m) (fresh l) (held-status l m ∙ is-running (m (number_of l)).status (asked-running (regulated l) ph l m e) ∙ sym (fresh-runs l))
        (drop-held l m ∙ sym (drop-fresh l)) j rs right (ran_of l ph (held l m)) s (ends j rs right ph')
    on false e = rw (idle l ph (held l m) e)

-- ---- the work at its first stage

module _ (j : Join) (rs : ActionSet) (left right : Behaviour) (s : State) where
  work-before : (a : Action) → flat (sequential_work j rs left right (before a) s)
      ≡ at_left j rs (λ ph t. flat (right ph t)) (left_of s) (before a) (flat (left (before a) (left_of s))) (right_of s)
  unfolding sequential_work at_left ends own flat
  work-before a =
      flat-feed j rs right (left_of s) (left (before a) (left_of s)) (right_of s) _
      ∙ ap (feed_run j rs (λ ph t. flat (right ph t)) (left_of s) (flat (left (before a) (left_of s))) (right_of s)) (ext₂ (λ x t.
      flat-unless j true x.suppressed x.state t _
      ∙ ap (unless_run j true x.suppressed x.state t) (flat-if x.suppressed _ _
      ∙ ap (λ (p : Run). elim x.suppressed [ true ↦ halts (record { state = settled j true x.state t; suppressed = true }) | false ↦ p ])
      (flat-then (right (before a) t) _))))

  work-after : flat (sequential_work j rs left right after s)
      ≡ at_first j rs (λ ph t. flat (right ph t)) (left_of s) (flat (right after (right_of s))) (flat (left after (left_of s)))
  unfolding sequential_work at_first at_left ends flat quiet
  work-after =
      flat-then (right after (right_of s)) _
      ∙ ap (and_then (flat (right after (right_of s)))) (ext (λ y. flat-unless j false false (left_of s) y.state _
      ∙ ap (unless_run j false false (left_of s) y.state) (flat-feed j rs right (left_of s) (left after (left_of s)) y.state _)))

  work-closing : flat (sequential_work j rs left right closing s)
      ≡ at_left j rs (λ ph t. flat (right ph t)) (left_of s) closing (flat (left closing (left_of s))) (right_of s)
  unfolding sequential_work at_left ends own flat quiet
  work-closing =
      flat-feed j rs right (left_of s) (left closing (left_of s)) (right_of s) _
      ∙ ap (feed_run j rs (λ ph t. flat (right ph t)) (left_of s) (flat (left closing (left_of s))) (right_of s)) (ext₂ (λ x t.
      flat-unless j false false x.state t _ ∙ ap (unless_run j false false x.state t) (flat-then (right closing t) _)))

  work-parallel : (ls : ActionSet) (ph : Phase)
      → flat (parallel_work j ls rs left right ph s) ≡ par_left j (still_asked ph) (flat (left ph (left_of s))) (flat (right ph (right_of s)))
  unfolding parallel_work par_left par_right flat
  work-parallel ls ph = refl

-- ---- a node with two sides begins so, where it is asked

module _ (j : Join) (i : ℕ) (l r : Tree) (m : Mem) where
  module _ (ph : Phase) (e : is_asked (regulated (node parallel j i l r)) ph (held (node parallel j i l r) m) ≡ true) where
    pub begins-parallel : ran_of (node parallel j i l r) ph (held (node parallel j i l r) m)
        ≡ par_left j (still_asked ph) (ran_of l ph (held l m)) (ran_of r ph (held r m))
    unfolding ran_of works number_of
    begins-parallel =
        let g : is_running (m i).status ≡ true = asked-running (regulated (node parallel j i l r)) ph (node parallel j i l r) m e in
        asked-works (node parallel j i l r) ph (held (node parallel j i l r) m) e
        ∙ work-parallel j (regulated r) (phase l) (phase r) (held (node parallel j i l r) m) (regulated l) ph
        ∙ ap₂ (λ (x y : State). par_left j (still_asked ph) (flat (phase l ph x)) (flat (phase r ph y)))
        (left-held parallel j i l r m g) (right-held parallel j i l r m g)

  abbrev here : Tree
  here = node sequential j i l r

  module _ (a : Action) (e : is_asked (regulated here) (before a) (held here m) ≡ true) where
    pub begins-before : ran_of (node sequential j i l r) (before a) (held (node sequential j i l r) m)
        ≡ at_left j (regulated r) (ran_of r) (fresh l) (before a) (ran_of l (before a) (held l m)) (held r m)
    unfolding ran_of works number_of
    begins-before =
        let g : is_running (m i).status ≡ true = asked-running (regulated here) (before a) here m e in
        asked-works here (before a) (held here m) e ∙ work-before j (regulated r) (phase l) (phase r) (held here m) a
        ∙ ap₂ (λ (x y : State). at_left j (regulated r) (ran_of r) x (before a) (flat (phase l (before a) x)) y)
        (left-held sequential j i l r m g) (right-held sequential j i l r m g)
        ∙ left-fresh j (regulated r) (ran_of r) l m (before a) (before a) (held r m)

  module _ (e : is_asked (regulated here) closing (held here m) ≡ true) where
    pub begins-closing : ran_of (node sequential j i l r) closing (held (node sequential j i l r) m)
        ≡ at_left j (regulated r) (ran_of r) (fresh l) closing (ran_of l closing (held l m)) (held r m)
    unfolding ran_of works number_of
    begins-closing =
        let g : is_running (m i).status ≡ true = asked-running (regulated here) closing here m e in
        asked-works here closing (held here m) e ∙ work-closing j (regulated r) (phase l) (phase r) (held here m)
        ∙ ap₂ (λ (x y : State). at_left j (regulated r) (ran_of r) x closing (flat (phase l closing x)) y)
        (left-held sequential j i l r m g) (right-held sequential j i l r m g)
        ∙ left-fresh j (regulated r) (ran_of r) l m closing closing (held r m)

  module _ (e : is_asked (regulated here) after (held here m) ≡ true) where
    pub begins-after : ran_of (node sequential j i l r) after (held (node sequential j i l r) m)
        ≡ at_first j (regulated r) (ran_of r) (held l m) (ran_of r after (held r m)) (ran_of l after (held l m))
    unfolding ran_of works number_of
    begins-after =
        let g : is_running (m i).status ≡ true = asked-running (regulated here) after here m e in
        asked-works here after (held here m) e ∙ work-after j (regulated r) (phase l) (phase r) (held here m)
        ∙ ap₂ (λ (x y : State). at_first j (regulated r) (ran_of r) x (flat (phase r after y)) (flat (phase l after x)))
        (left-held sequential j i l r m g) (right-held sequential j i l r m g)
