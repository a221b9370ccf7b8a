-- A node's phase from those of its sides, where it stands in the tree.
use Prim.Native.Nat.{ℕ}
use mathlib.Core.Path.{◌≡◌, refl, sym, ap, ap₂, ◌∙◌, subst}
use mathlib.Core.Bool.{Bool, true, false, ◌&&◌, ◌||◌, not}
use mathlib.Core.List.{List, [], ◌∷◌, ◌++◌}
use lib.Dec.{eqb, eqb_refl}
use Rattle.actions.specs.Sets.{Action, ActionSet}
use Rattle.actions.proofs.Tests.{yes_of, or-false-left, true-not-false, and_first, and_second}
use Rattle.spec_policy.specs.Tree.{Way, parallel, sequential, Join, Tree, node, regulated, number_of}
use Rattle.spec_check.specs.Lawful.{holds, Numbered}
use Rattle.spec_turns.specs.Status.{Status, is_running, is_halted, joined}
use Rattle.spec_turns.specs.State.{State, pair_state, status, drop, pair_with, settled}
use Rattle.spec_turns.specs.Process.{Item, Out}
use Rattle.spec_turns.specs.Turn.{Phase, before, after, closing, still_asked, judged, is_asked, fresh}
use Rattle.spec_turns.proofs.Walk.{fresh-runs}
use Rattle.turn_paths.specs.Run.{Run, halts, and_then, unless_run, feed_run}
use Rattle.turn_paths.specs.Memory.{Mem, held, ran_of, par_right, par_left, own, ends, at_left, at_first}
use Rattle.turn_paths.specs.Choices.{KeptBut, Settled, goes_on, end_sup}
use Rattle.turn_paths.proofs.Runs.{unless-running, unless-decided}
use Rattle.turn_paths.proofs.Begin.{held-status, drop-held, drop-fresh, pair-with-over, idle, left-fresh, begins-parallel, begins-before, begins-closing, begins-after}
use Rattle.turn_paths.proofs.Frames.{own-number, outside, outside-left, outside-right, held_same, not-right-of-left, not-left-of-right, held-l-own, held-r-own}
use Rattle.turn_paths.specs.Paths.{Feeder, Outside, follows, feeds, feeders, within, Shows, Ended, done, stopped, Decided, cut_short, If, Stops, GoesOn, rights, is_stop, Apart, Turned, LeftOver}
use Rattle.turn_paths.proofs.PathLaws.{shows_same, shows_then, shows-as, shows-from, within_same, stops-map}

-- ---- a sequential node's choices (as in memory/proofs/Steps)

module _ (j : Join) (rs : ActionSet) (right : Phase → State → Run) where
  -- the right side's own part, by its end
  own_is : (ph : Phase) (x : State) (q : Run)
      → own j rs right ph x q ≡ and_then q (λ y. halts (record { state = settled j (still_asked ph) x y.state; suppressed = end_sup ph y.suppressed }))
  unfolding own still_asked end_sup
  own_is (before a) x q = refl
  own_is after x q = refl
  own_is closing x q = refl

  module _ (x : Out) (t : State) where
    suppressed-ends : (a : Action) (u : Bool) (p : Run) → goes_on (before a) true u ≡ false
        → ◌≡◌ {A = Run} (elim u [ true ↦ halts (record { state = settled j true x.state t; suppressed = true }) | false ↦ p ])
        (halts (record { state = settled j true x.state t; suppressed = u }))
    unfolding goes_on
    suppressed-ends a true p g = refl
    suppressed-ends a false p g = true-not-false refl g

    -- the left side's end ends the phase
    ends-over : (ph : Phase) → goes_on ph (is_running (joined j (status x.state) (status t))) x.suppressed ≡ false
        → ends j rs right ph x t ≡ halts (record { state = settled j (still_asked ph) x.state t; suppressed = end_sup ph x.suppressed })
    unfolding ends still_asked end_sup goes_on
    ends-over (before a) g = on (is_running (joined j (status x.state) (status t))) refl
      where
        on : (v : Bool) → is_running (joined j (status x.state) (status t)) ≡ v
            → ends j rs right (before a) x t ≡ halts (record { state = settled j true x.state t; suppressed = x.suppressed })
        on true e =
            unless-running j true x.suppressed x.state t _ e
            ∙ suppressed-ends a x.suppressed _ (ap (λ (v : Bool). goes_on (before a) v x.suppressed) (sym e) ∙ g)
        on false e = unless-decided j true x.suppressed x.state t _ e
    ends-over after g = refl
    ends-over closing g = unless-decided j false false x.state t _ g

    -- or the right side has its own part
    ends_on : (ph : Phase) → goes_on ph (is_running (joined j (status x.state) (status t))) x.suppressed ≡ true
        → ends j rs right ph x t ≡ own j rs right ph x.state (right ph t)
    unfolding ends goes_on
    ends_on (before a) g =
        unless-running j true x.suppressed x.state t _ (and_first (is_running (joined j (status x.state) (status t))) (not x.suppressed) g)
        ∙ on x.suppressed (and_second (is_running (joined j (status x.state) (status t))) (not x.suppressed) g)
      where
        on : (u : Bool) → not u ≡ true → ◌≡◌ {A = Run} (elim u [ true ↦ halts (record { state = settled j true x.state t; suppressed = true }) | false ↦ own j rs right (before a) x.state (right (before a) t) ])
            (own j rs right (before a) x.state (right (before a) t))
        on true f = true-not-false f refl
        on false f = refl
    ends_on after g = true-not-false g refl
    ends_on closing g = unless-running j false false x.state t _ g

noded-mark : (s : Status) (a b : Bool) (x y : State) → (is_running s ≡ true → a ≡ b) → pair_with s a x y ≡ pair_with s b x y
unfolding pair_with
noded-mark s a b x y h = on (is_running s) h
  where
    on : (c : Bool) → (c ≡ true → a ≡ b)
        → ◌≡◌ {A = State} (elim c [ true ↦ pair_state s a x y | false ↦ pair_state s false (drop x) (drop y) ]) (elim c [ true ↦ pair_state s b x y | false ↦ pair_state s false (drop x) (drop y) ])
    on true f = ap (λ (z : Bool). pair_state s z x y) (f refl)
    on false f = refl

or-true-left : (p q : Bool) → p ≡ true → p || q ≡ true
or-true-left p q e = rw e

or_true_right : (p q : Bool) → q ≡ true → p || q ≡ true
or_true_right true q e = refl
or_true_right false q e = e

-- ---- a node that is not asked

pub turned-idle : (fs : List Feeder) (t : Tree) (ph : Phase) (m : Mem) → is_asked (regulated t) ph (held t m) ≡ false → Turned fs t ph m m [] (done false)
unfolding GoesOn
turned-idle fs t ph m e = record { runs = λ c ec. shows_same (ap (within c m) (idle t ph (held t m) e)); kept = λ i o r s. refl }

-- ---- a node n with the sides l and r, beneath the nodes fs

module _ (j : Join) {n : ℕ} {l r : Tree} (sd : Numbered n l r) (fs : List Feeder) where
  joined-held : (m : Mem) → joined j (status (held l m)) (status (held r m)) ≡ joined j (m (number_of l)).status (m (number_of r)).status
  joined-held m = ap₂ (joined j) (held-status l m) (held-status r m)

  -- what the node holds once its status is written is what its sides settle into
  settles : (w : Way) {m m' : Mem} {mark : Bool} → Settled n (joined j (m (number_of l)).status (m (number_of r)).status) mark m m'
      → held (node w j n l r) m' ≡ settled j mark (held l m) (held r m)
  unfolding held settled
  settles w {m} {m'} {mark} st =
      let s : Status = joined j (m (number_of l)).status (m (number_of r)).status in
      ap₂ (pair_with (m' n).status (m' n).asked) (held-l-own sd st.others) (held-r-own sd st.others)
      ∙ ap (λ (q : Status). pair_with q (m' n).asked (held l m) (held r m)) st.status
      ∙ noded-mark s (m' n).asked mark (held l m) (held r m) st.asked
      ∙ ap (λ (q : Status). pair_with q mark (held l m) (held r m)) (sym (joined-held m))

  module _ (w : Way) (ap-node : Apart (node w j n l r) fs) where
    above : rights fs n ≡ false
    unfolding number_of
    above = ap-node.rights n (own-number (node w j n l r))

    -- a write of the node's own cell
    own-within : {m m' : Mem} → KeptBut n m m' → (c : Outside) → feeders c ≡ fs → (p : Run) → within c m' p ≡ within c m p
    own-within {m} {m'} k c ec p =
        within_same c m m' (λ i e. k i (λ q. true-not-false (subst (λ (gs : List Feeder). rights gs i ≡ true) ec e) (subst (λ (o : ℕ). rights fs o ≡ false) (sym q) above))) p

    -- cells of a side's, and what another side's phase leaves of them
    left-apart : (i : ℕ) → holds l i ≡ true → rights fs i ≡ false
    unfolding holds
    left-apart i e = ap-node.rights i (or_true_right (eqb n i) (holds l i || holds r i) (or-true-left (holds l i) (holds r i) e))

    right-apart : (i : ℕ) → holds r i ≡ true → rights fs i ≡ false
    unfolding holds
    right-apart i e = ap-node.rights i (or_true_right (eqb n i) (holds l i || holds r i) (or_true_right (holds l i) (holds r i) e))

    held-after-left : {ph : Phase} {m m' : Mem} {xs : List Item} {u : Bool} → Turned fs l ph m m' xs (done u) → held r m' ≡ held r m
    unfolding is_stop
    held-after-left {ph} {m} {m'} h = held_same r m m' (λ i e. h.kept i (not-left-of-right sd i e) (right-apart i e) refl)

    held-after-right : {ph : Phase} {m m' : Mem} {xs : List Item} {u : Bool} → Turned fs r ph m m' xs (done u) → held l m' ≡ held l m
    unfolding is_stop
    held-after-right {ph} {m} {m'} h = held_same l m m' (λ i e. h.kept i (not-right-of-left sd i e) (left-apart i e) refl)

  -- ---- parallel

  module _ (apart : Apart (node parallel j n l r) fs) (ph : Phase) (m : Mem) (a : is_asked (regulated (node parallel j n l r)) ph (held (node parallel j n l r) m) ≡ true) where
    par-into : (c : Outside) → within c m (ran_of (node parallel j n l r) ph (held (node parallel j n l r) m))
        ≡ within (follows (λ x. par_right j (still_asked ph) x.state x.suppressed (ran_of r ph (held r m))) c) m (ran_of l ph (held l m))
    unfolding within par_left
    par-into c = ap (within c m) (begins-parallel j n l r m ph a)

    pub par-stop-left : {m₁ : Mem} {xs : List Item} {q : ℕ} → Turned fs l ph m m₁ xs (stopped q) → Turned fs (node parallel j n l r) ph m m₁ xs (stopped q)
    unfolding GoesOn Stops feeders
    par-stop-left {m₁} {xs} {q} h = record {
      runs = λ c ec. stops-map q c m₁ _ _ (λ p g. shows-from (par-into c) g) (h.runs (follows _ c) ec);
      kept = λ i o e s. h.kept i (outside-left parallel j n l r i o) e s;
    }

    module _ {m₁ : Mem} {xs : List Item} {u : Bool} (g : Turned fs l ph m m₁ xs (done u)) where
      par-first : (c : Outside) → feeders c ≡ fs → Shows (within c m (ran_of (node parallel j n l r) ph (held (node parallel j n l r) m))) xs
          (within (follows (λ y. halts (judged (settled j (still_asked ph) (held l m₁) y.state) (u || y.suppressed))) c) m₁ (ran_of r ph (held r m₁)))
      unfolding GoesOn within and_then par_right feeders
      par-first c ec =
          shows-as (shows-from (par-into c) (g.runs (follows (λ x. par_right j (still_asked ph) x.state x.suppressed (ran_of r ph (held r m))) c) ec))
          (ap (λ (s : State). within c m₁ (and_then (ran_of r ph s) (λ y. halts (judged (settled j (still_asked ph) (held l m₁) y.state) (u || y.suppressed)))))
          (sym (held-after-left parallel apart g)))

      pub par-stop-right : {m₂ : Mem} {ys : List Item} {q : ℕ} → Turned fs r ph m₁ m₂ ys (stopped q)
          → Turned fs (node parallel j n l r) ph m m₂ (xs ++ ys) (stopped q)
      unfolding GoesOn Stops feeders is_stop
      par-stop-right {m₂} {ys} {q} h = record {
        runs = λ c ec. stops-map q c m₂ _ _ (λ p y. shows_then (par-first c ec) y) (h.runs (follows _ c) ec);
        kept = λ i o e s. h.kept i (outside-right parallel j n l r i o) e s ∙ g.kept i (outside-left parallel j n l r i o) e refl;
      }

      pub par-done : {m₂ m₃ : Mem} {ys : List Item} {v : Bool} → Turned fs r ph m₁ m₂ ys (done v)
          → Settled n (joined j (m₂ (number_of l)).status (m₂ (number_of r)).status) (still_asked ph) m₂ m₃
          → Turned fs (node parallel j n l r) ph m m₃ (xs ++ ys) (done (not (is_halted (m₃ n).status) && (u || v)))
      unfolding GoesOn within and_then feeders judged is_stop number_of
      par-done {m₂} {m₃} {ys} {v} h st = record {
        runs = λ c ec. shows-as (shows_then (par-first c ec) (h.runs (follows _ c) ec))
            (ap (λ (s : State). within c m₂ (halts (judged (settled j (still_asked ph) s (held r m₂)) (u || v)))) (sym (held-after-right parallel apart h))
            ∙ ap (λ (s : State). within c m₂ (halts (judged s (u || v)))) (sym (settles parallel st))
            ∙ ap (λ (q : Status). within c m₂ (halts (record { state = held (node parallel j n l r) m₃; suppressed = not (is_halted q) && (u || v) }))) (held-status (node parallel j n l r) m₃)
            ∙ sym (own-within parallel apart st.others c ec _));
        kept = λ i o e s. st.others i (outside parallel j n l r i o) ∙ h.kept i (outside-right parallel j n l r i o) e refl ∙ g.kept i (outside-left parallel j n l r i o) e refl;
      }

  -- ---- sequential

  abbrev here : Feeder
  here = record { number = n; join = j; left = l; right = r }

  abbrev seq : Tree
  seq = node sequential j n l r

  -- the node is at its left side, whose phase is to come
  pub record AtLeft (ph : Phase) (m₀ m : Mem) (xs : List Item) : Type 0 where
    pub runs : (c : Outside) → feeders c ≡ fs → Shows (within c m₀ (ran_of seq ph (held seq m₀))) xs
        (within (feeds here (ends j (regulated r) (ran_of r) ph) c) m (ran_of l ph (held l m)))
    pub kept : (i : ℕ) → holds seq i ≡ false → rights fs i ≡ false → m i ≡ m₀ i

  -- before the verdict and at closing the left side goes first
  pub starts-before : (a : Action) (m : Mem) → is_asked (regulated seq) (before a) (held seq m) ≡ true → AtLeft (before a) m m []
  unfolding within at_left
  starts-before a m e = record { runs = λ c ec. shows_same (ap (within c m) (begins-before j n l r m a e)); kept = λ i o q. refl }

  pub starts-closing : (m : Mem) → is_asked (regulated seq) closing (held seq m) ≡ true → AtLeft closing m m []
  unfolding within at_left
  starts-closing m e = record { runs = λ c ec. shows_same (ap (within c m) (begins-closing j n l r m e)); kept = λ i o q. refl }

  -- a stop: at this node, and further up
  cut-short : (m : Mem) → Decided here m → held seq m ≡ settled j false (fresh l) (held r m)
  unfolding held settled
  cut-short m d =
      let e : joined j (status (fresh l)) (status (held r m)) ≡ (m n).status = ap₂ (joined j) (fresh-runs l) (held-status r m) ∙ sym d.status in
      pair-with-over (m n).status (m n).asked (held l m) (held r m) d.over
      ∙ ap (λ (x : State). pair_state (m n).status false x (drop (held r m))) (drop-held l m ∙ sym (drop-fresh l))
      ∙ sym (pair-with-over (m n).status false (fresh l) (held r m) d.over)
      ∙ ap (λ (s : Status). pair_with s false (fresh l) (held r m)) (sym e)

  module _ {ph : Phase} {m₀ m : Mem} {xs : List Item} (g : AtLeft ph m₀ m xs) where
    kept-left : {m₁ : Mem} {ys : List Item} {x : Ended} → Turned (here ∷ fs) l ph m m₁ ys x
        → (i : ℕ) → holds seq i ≡ false → rights fs i ≡ false → is_stop x i ≡ false → m₁ i ≡ m₀ i
    unfolding rights
    kept-left h i o e s =
        h.kept i (outside-left sequential j n l r i o) (no-either (holds r i) (rights fs i) (outside-right sequential j n l r i o) e) s ∙ g.kept i o e
      where
        no-either : (p q : Bool) → p ≡ false → q ≡ false → p || q ≡ false
        no-either p q x y = rw (x, y)

    pub seq-stopped-here : {m₁ : Mem} {ys : List Item} → Turned (here ∷ fs) l ph m m₁ ys (stopped n)
        → Turned fs seq ph m₀ m₁ (xs ++ ys) (done false)
    unfolding GoesOn Stops feeders cut_short is_stop holds
    seq-stopped-here {m₁} {ys} h = record {
      runs = λ c ec. at_own c ec;
      kept = λ i o e s. kept-left h i o e (no_self i o);
    }
      where
        no_self : (i : ℕ) → holds seq i ≡ false → eqb n i ≡ false
        no_self i o = or-false-left (eqb n i) (holds l i || holds r i) o

        P : Outside → Run → Type 0
        P c = Shows (within (feeds here (ends j (regulated r) (ran_of r) ph) c) m (ran_of l ph (held l m))) ys

        opened : (c : Outside) → (b : Bool) → b ≡ true → If b (Decided here m₁ × P c (within c m₁ (halts (cut_short here m₁)))) (Stops n c m₁ (P c)) → Decided here m₁ × P c (within c m₁ (halts (cut_short here m₁)))
        opened c true e h = h
        opened c false e h = absurd (true-not-false e refl)

        at_own : (c : Outside) → feeders c ≡ fs → Shows (within c m₀ (ran_of seq ph (held seq m₀))) (xs ++ ys) (within c m₁ (halts (record { state = held seq m₁; suppressed = false })))
        at_own c ec =
            let d = opened c (eqb n n) (yes_of (eqb n n) (eqb_refl n)) (h.runs (feeds here (ends j (regulated r) (ran_of r) ph) c) (ap (λ (gs : List Feeder). here ∷ gs) ec)) in
            shows-as (shows_then (g.runs c ec) d.1) (ap (λ (s : State). within c m₁ (halts (record { state = s; suppressed = false }))) (sym (cut-short m₁ d.0)))

    pub seq-stopped-above : {m₁ : Mem} {ys : List Item} {q : ℕ} → eqb n q ≡ false → Turned (here ∷ fs) l ph m m₁ ys (stopped q)
        → Turned fs seq ph m₀ m₁ (xs ++ ys) (stopped q)
    unfolding GoesOn Stops feeders
    seq-stopped-above {m₁} {ys} {q} ne h = record {
      runs = λ c ec. stops-map q c m₁ _ _ (λ p y. shows_then (g.runs c ec) y)
          (opened c (eqb n q) ne (h.runs (feeds here (ends j (regulated r) (ran_of r) ph) c) (ap (λ (gs : List Feeder). here ∷ gs) ec)));
      kept = λ i o e s. kept-left h i o e s;
    }
      where
        P : Outside → Run → Type 0
        P c = Shows (within (feeds here (ends j (regulated r) (ran_of r) ph) c) m (ran_of l ph (held l m))) ys

        opened : (c : Outside) → (b : Bool) → b ≡ false → If b (Decided here m₁ × P c (within c m₁ (halts (cut_short here m₁)))) (Stops q c m₁ (P c)) → Stops q c m₁ (P c)
        opened c true e h = absurd (true-not-false refl e)
        opened c false e h = h

    pub seq-left : {m₁ : Mem} {ys : List Item} {u : Bool} → Turned (here ∷ fs) l ph m m₁ ys (done u) → LeftOver j sd fs ph m₀ m₁ (xs ++ ys) u
    unfolding GoesOn within feed_run feeders is_stop
    seq-left {m₁} {ys} {u} h = record {
      runs = λ c ec. shows_then (g.runs c ec) (h.runs (feeds here (ends j (regulated r) (ran_of r) ph) c) (ap (λ (gs : List Feeder). here ∷ gs) ec));
      kept = λ i o e. kept-left h i o e refl;
    }

  -- ---- what follows the left side's end

  module _ (apart : Apart seq fs) {ph : Phase} {m₀ m : Mem} {xs : List Item} {u : Bool} (g : LeftOver j sd fs ph m₀ m xs u) where
    read : {v : Bool} → goes_on ph (is_running (joined j (m (number_of l)).status (m (number_of r)).status)) u ≡ v
        → goes_on ph (is_running (joined j (status (held l m)) (status (held r m)))) u ≡ v
    read e = ap (λ (s : Status). goes_on ph (is_running s) u) (joined-held m) ∙ e

    pub seq-over : {m₁ : Mem} → goes_on ph (is_running (joined j (m (number_of l)).status (m (number_of r)).status)) u ≡ false
        → Settled n (joined j (m (number_of l)).status (m (number_of r)).status) (still_asked ph) m m₁ → Turned fs seq ph m₀ m₁ xs (done (end_sup ph u))
    unfolding GoesOn is_stop
    seq-over {m₁} e st = record {
      runs = λ c ec. shows-as (g.runs c ec)
          (ap (within c m) (ends-over j (regulated r) (ran_of r) (record { state = held l m; suppressed = u }) (held r m) ph (read e)
          ∙ ap (λ (s : State). halts (record { state = s; suppressed = end_sup ph u })) (sym (settles sequential st))) ∙ sym (own-within sequential apart st.others c ec _));
      kept = λ i o q s. st.others i (outside sequential j n l r i o) ∙ g.kept i o q;
    }

    -- the right side's own part
    module _ (e : goes_on ph (is_running (joined j (m (number_of l)).status (m (number_of r)).status)) u ≡ true) where
      own-into : (c : Outside) → feeders c ≡ fs → Shows (within c m₀ (ran_of seq ph (held seq m₀))) xs
          (within (follows (λ y. halts (record { state = settled j (still_asked ph) (held l m) y.state; suppressed = end_sup ph y.suppressed })) c) m (ran_of r ph (held r m)))
      unfolding within
      own-into c ec =
          shows-as (g.runs c ec) (ap (within c m) (ends_on j (regulated r) (ran_of r) (record { state = held l m; suppressed = u }) (held r m) ph (read e)
          ∙ own_is j (regulated r) (ran_of r) ph (held l m) (ran_of r ph (held r m))))

      pub seq-own-stopped : {m₁ : Mem} {ys : List Item} {q : ℕ} → Turned fs r ph m m₁ ys (stopped q) → Turned fs seq ph m₀ m₁ (xs ++ ys) (stopped q)
      unfolding GoesOn Stops feeders
      seq-own-stopped {m₁} {ys} {q} h = record {
        runs = λ c ec. stops-map q c m₁ _ _ (λ p y. shows_then (own-into c ec) y) (h.runs (follows _ c) ec);
        kept = λ i o z s. h.kept i (outside-right sequential j n l r i o) z s ∙ g.kept i o z;
      }

      pub seq-own : {m₁ m₂ : Mem} {ys : List Item} {v : Bool} → Turned fs r ph m m₁ ys (done v)
          → Settled n (joined j (m₁ (number_of l)).status (m₁ (number_of r)).status) (still_asked ph) m₁ m₂ → Turned fs seq ph m₀ m₂ (xs ++ ys) (done (end_sup ph v))
      unfolding GoesOn within and_then feeders is_stop
      seq-own {m₁} {m₂} {ys} {v} h st = record {
        runs = λ c ec. shows-as (shows_then (own-into c ec) (h.runs (follows _ c) ec))
            (ap (λ (s : State). within c m₁ (halts (record { state = settled j (still_asked ph) s (held r m₁); suppressed = end_sup ph v }))) (sym (held-after-right sequential apart h))
            ∙ ap (λ (s : State). within c m₁ (halts (record { state = s; suppressed = end_sup ph v }))) (sym (settles sequential st))
            ∙ sym (own-within sequential apart st.others c ec _));
        kept = λ i o z s. st.others i (outside sequential j n l r i o) ∙ h.kept i (outside-right sequential j n l r i o) z refl ∙ g.kept i o z;
      }

  -- ---- after the verdict the right side goes first

  module _ (apart : Apart seq fs) (m : Mem) (a : is_asked (regulated seq) after (held seq m) ≡ true) where
    first_on : Out → Run
    first_on y = unless_run j false false (held l m) y.state (at_left j (regulated r) (ran_of r) (held l m) after (ran_of l after (held l m)) y.state)

    first-into : (c : Outside) → within c m (ran_of seq after (held seq m)) ≡ within (follows first_on c) m (ran_of r after (held r m))
    unfolding within at_first first_on
    first-into c = ap (within c m) (begins-after j n l r m a)

    pub seq-first-stopped : {m₁ : Mem} {xs : List Item} {q : ℕ} → Turned fs r after m m₁ xs (stopped q) → Turned fs seq after m m₁ xs (stopped q)
    unfolding GoesOn Stops feeders
    seq-first-stopped {m₁} {xs} {q} h = record {
      runs = λ c ec. stops-map q c m₁ _ _ (λ p y. shows-from (first-into c) y) (h.runs (follows first_on c) ec);
      kept = λ i o z s. h.kept i (outside-right sequential j n l r i o) z s;
    }

    module _ {m₁ : Mem} {xs : List Item} {u : Bool} (h : Turned fs r after m m₁ xs (done u)) where
      first-over : (c : Outside) → feeders c ≡ fs → Shows (within c m (ran_of seq after (held seq m))) xs
          (within c m₁ (unless_run j false false (held l m₁) (held r m₁) (at_left j (regulated r) (ran_of r) (held l m₁) after (ran_of l after (held l m₁)) (held r m₁))))
      unfolding GoesOn within and_then feeders first_on
      first-over c ec =
          shows-as (shows-from (first-into c) (h.runs (follows first_on c) ec))
          (ap (λ (s : State). within c m₁ (unless_run j false false s (held r m₁) (at_left j (regulated r) (ran_of r) s after (ran_of l after s) (held r m₁)))) (sym (held-after-right sequential apart h)))

      pub seq-first-over : {m₂ : Mem} → is_running (joined j (m₁ (number_of l)).status (m₁ (number_of r)).status) ≡ false
          → Settled n (joined j (m₁ (number_of l)).status (m₁ (number_of r)).status) false m₁ m₂ → Turned fs seq after m m₂ xs (done false)
      unfolding GoesOn is_stop
      seq-first-over {m₂} e st = record {
        runs = λ c ec. shows-as (first-over c ec) (ap (within c m₁) (unless-decided j false false (held l m₁) (held r m₁) _ (ap is_running (joined-held m₁) ∙ e)
            ∙ ap (λ (s : State). halts (record { state = s; suppressed = false })) (sym (settles sequential st))) ∙ sym (own-within sequential apart st.others c ec _));
        kept = λ i o z s. st.others i (outside sequential j n l r i o) ∙ h.kept i (outside-right sequential j n l r i o) z refl;
      }

      pub seq-first-on : is_running (joined j (m₁ (number_of l)).status (m₁ (number_of r)).status) ≡ true → AtLeft after m m₁ xs
      unfolding within at_left is_stop
      seq-first-on e = record {
        runs = λ c ec. shows-as (first-over c ec) (ap (within c m₁) (unless-running j false false (held l m₁) (held r m₁) _ (ap is_running (joined-held m₁) ∙ e)
            ∙ left-fresh j (regulated r) (ran_of r) l m₁ after after (held r m₁)));
        kept = λ i o z. h.kept i (outside-right sequential j n l r i o) z refl;
      }
