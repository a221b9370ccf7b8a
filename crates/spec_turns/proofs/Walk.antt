-- The one walk of the turn rules over a lawful tree: in every phase each node's items stay within its effect set and its own
-- leaves, no side of a parallel node touches what the other regulates, and the state stays one that the tree can be in. Assumes
-- nothing.
use Prim.Native.Nat.{ℕ, zero, suc, ◌-◌, ◌≤◌}
use native.Mathlib.Omega.{arith}
use native.Mathlib.Nat.{le_refl}
use mathlib.Core.Path.{◌≡◌, refl, sym, ◌∙◌, ap, subst}
use mathlib.Core.Bool.{Bool, true, false, ◌&&◌, ◌||◌, not}
use mathlib.Core.List.{List}
use mathlib.Core.Logic.{inl, inr, ⊎_elim}
use lib.Dec.{T, eqb, eqb→eq, eqb_refl, not_T}
use lib.ListN.{length, get_or}
use Rattle.actions.specs.Sets.{Action, ActionSet, EMPTY, has, meets}
use Rattle.actions.proofs.Tests.{yes_of, of-yes, and_left, and_right, or_left, or_right, true-not-false}
use Rattle.actions.proofs.SetLaws.{has-union-left, has-union-right, meets-apart}
use Rattle.spec_policy.specs.Steps.{Step, next, ok, sup, ins, acase, spend, end, halt, is_next}
use Rattle.spec_policy.specs.Tree.{Way, parallel, sequential, Join, and, or, Tree, leaf, trivial, unsatisfiable, node, regulated}
use Rattle.spec_check.specs.Modes.{Mode, idle, pending, closing as shutting, is_idle, is_pending, reached_by, marked, marks}
use Rattle.spec_check.specs.Possible.{possible_at}
use Rattle.spec_check.specs.Interference.{effects}
use Rattle.spec_check.specs.Lawful.{reached_in, Sub, Follows, LawfulLeaf, holds, Disjoint, Spared, Lawful}
use Rattle.spec_turns.specs.Status.{running, ended, halted, is_running, has_ended, is_halted, joined}
use Rattle.spec_turns.specs.State.{State, leaf_state, status, asked, offset, counter, left_of, right_of, leaf_over}
use Rattle.spec_turns.specs.Process.{Item, ran, lets, sups, accepts, suppresses, touches, Out, Process, both, outcome}
use Rattle.spec_turns.specs.Turn.{before, after, closing, Behaviour, quiet, affords, which, stepping, goes, take_of, done_of, leaf_work, still_asked, judged, parallel_work, sequential_work, is_asked}
use Rattle.spec_turns.specs.Turn.{if_asked, phase, fresh, Request, opening, offer, close, verdict, call}
use Rattle.spec_turns.proofs.Rest.{Mid, rests, leaf-owes, trivial-owes, unsatisfiable-owes, pair-owes, Over}
use Rattle.spec_turns.specs.Rest.{AtRest, leaf-waits, leaf-ended, leaf-halted, trivial-ended, unsatisfiable-halted}
use Rattle.spec_turns.proofs.Safe.{All, spares, elsewhere, no_verdict, Spare, Safe}
use Rattle.spec_turns.proofs.Fine.{inside, any, Fine, weaken, fine-any, fine-outs, fine-stop, fine-does, fine-then, fine-if, fine-perhaps, fine-unless, Good, good-weaken, fine-feed}
use Rattle.spec_turns.proofs.States.{mid-rest, leaf-waiting, leaf-owing, pair-running, pair-owing, settled-done, settled-rest, settled-mid, settled-over, over-over}

-- the items that a tree may have as its own
abbrev pub its : Tree → Item → Bool
its t = inside (effects t) (holds t)

-- an outcome's state
abbrev pub RestOut : Tree → Out → Type 0
RestOut t x = AtRest t x.state

abbrev pub MidOut : Tree → Out → Type 0
MidOut t x = Mid t x.state

abbrev pub OverOut : Tree → Out → Type 0
OverOut t x = Over t x.state

-- ---- a node that is asked, or not

-- what a node of the tree t does where it is asked; r is what it regulates
pub record Works (f : Item → Bool) (t : Tree) (r : ActionSet) (b : Behaviour) : Type 0 where
  pub pre : (a : Action) (s : State) → AtRest t s → is_running (status s) ≡ true → T (has r a) → Fine f (MidOut t) (b (before a) s)
  pub post : (s : State) → Mid t s → asked s ≡ true → Fine f (RestOut t) (b after s)
  pub shut : (s : State) → AtRest t s → is_running (status s) ≡ true → Fine f (OverOut t) (b closing s)

-- a node that is not asked stays as it is
good-asked : (f : Item → Bool) (t : Tree) (r : ActionSet) (b : Behaviour) → Works f t r b → Good f (AtRest t) (Mid t) (Over t) (if_asked r b)
unfolding if_asked is_asked quiet
good-asked f t r b w = record {
  pre = λ a s h. fine-if f (MidOut t) (is_running (status s) && has r a) _ _
      (λ e. let u = of-yes (is_running (status s) && has r a) e in
      w.pre a s h (yes_of (is_running (status s)) (and_left (is_running (status s)) (has r a) u)) (and_right (is_running (status s)) (has r a) u))
      (λ e. fine-stop f (MidOut t) _ (rests h));
  post = λ s h. fine-if f (RestOut t) (asked s) _ _ (w.post s h) (λ e. fine-stop f (RestOut t) _ (mid-rest h e));
  shut = λ s h. fine-if f (OverOut t) (is_running (status s)) _ _ (w.shut s h)
      (λ e. fine-stop f (OverOut t) _ (record { rest = h; decided = e }));
}

-- ---- a leaf

module _ (i c₀ : ℕ) (r : ActionSet) (code : List Step) where
  abbrev leaf_tree : Tree
  leaf_tree = leaf i r c₀ code

  f : Item → Bool
  f = its leaf_tree

  own-step : (o : ℕ) → T (f (ran i o))
  unfolding f inside holds
  own-step o = eqb_refl i

  -- how a leaf may stop that goes on in a mode
  LeafOut : Mode → Out → Type 0
  LeafOut idle x = RestOut leaf_tree x
  LeafOut pending x = MidOut leaf_tree x
  LeafOut shutting x = OverOut leaf_tree x

  over-out : (m : Mode) (x : Out) → OverOut leaf_tree x → LeafOut m x
  unfolding LeafOut
  over-out idle x h = h.rest
  over-out pending x h = rests h.rest
  over-out shutting x h = h

  ended-over : Over leaf_tree (leaf_over ended)
  unfolding leaf_over status is_running
  ended-over = record { rest = leaf-ended; decided = refl }

  halted-over : Over leaf_tree (leaf_over halted)
  unfolding leaf_over status is_running
  halted-over = record { rest = leaf-halted; decided = refl }

  -- a next stands only where the leaf may wait
  waits-out : (m : Mode) (o c : ℕ) → m ≡ idle → T (is_next (get_or code o halt)) → c ≤ c₀ → LeafOut m (record { state = leaf_state running false o c; suppressed = false })
  unfolding LeafOut
  waits-out m o c e h k = subst (λ (v : Mode). LeafOut v (record { state = leaf_state running false o c; suppressed = false })) (sym e) (leaf-waits h k)

  -- ok and sup stand only where an action is pending
  owes-out : (m : Mode) (t c : ℕ) (u : Bool) → m ≡ pending → T (reached_in code idle t) → c ≤ c₀ → LeafOut m (record { state = leaf_state running true t c; suppressed = u })
  unfolding LeafOut
  owes-out m t c u e h k = subst (λ (v : Mode). LeafOut v (record { state = leaf_state running true t c; suppressed = u })) (sym e) (leaf-owes h k)

  -- the pending action is a possible one
  Possible : Mode → Action → ℕ → Type 0
  Possible m a o = m ≡ pending → T (has (possible_at r code o) a)

  which-case : (P : ℕ → Type 0) (b : Bool) (y z : ℕ) → (b ≡ true → P y) → (b ≡ false → P z) → P (which b y z)
  unfolding which
  which-case P true y z p q = p refl
  which-case P false y z p q = q refl

  spent : (b : Bool) (c u : ℕ) → c ≤ c₀ → which b (c - u) c ≤ c₀
  spent b c u k = which-case (λ x. x ≤ c₀) b (c - u) c (λ e. omega arith) (λ e. k)

  fine-step : (a : Action) (m : Mode) (go : ℕ → ℕ → Process) (o c : ℕ) (k : Step) → get_or code o halt ≡ k → Follows r code m o k → Possible m a o → c ≤ c₀
      → ((o' c' : ℕ) → T (reached_in code m o') → Possible m a o' → c' ≤ c₀ → Fine f (LeafOut m) (go o' c')) → Fine f (LeafOut m) (stepping i a go o c k)
  unfolding stepping quiet Follows Possible Sub f inside effects is_next
  fine-step a m go o c (next t d) e h p n g =
      fine-stop f (LeafOut m) _ (waits-out m o c h.0 (subst (λ (s : Step). T (is_next s)) (sym e) tt) n)
  fine-step a m go o c (ok t) e h p n g =
      fine-does f (LeafOut m) (ran i o) (own-step o) (fine-stop f (LeafOut m) _ (owes-out m t c false h.0 h.1 n))
  fine-step a m go o c (sup t) e h p n g =
      fine-does f (LeafOut m) (ran i o) (own-step o) (fine-does f (LeafOut m) (sups a) (h.2 a (p h.0))
      (fine-stop f (LeafOut m) _ (owes-out m t c true h.0 h.1 n)))
  fine-step a m go o c (ins b t) e h p n g =
      fine-does f (LeafOut m) (ran i o) (own-step o) (fine-does f (LeafOut m) (lets b) h.2 (g t c h.0 (λ e'. h.1 a (p e')) n))
  fine-step a m go o c (acase s y z) e h p n g =
      fine-does f (LeafOut m) (ran i o) (own-step o)
      (which-case (λ o'. Fine f (LeafOut m) (go o' c)) (has s a) y z
      (λ e'. g y c h.1 (λ e''. h.3 a (p e'') e') n) (λ e'. g z c h.2 (λ e''. h.4 a (p e'') e') n))
  fine-step a m go o c (spend u y z) e h p n g =
      fine-does f (LeafOut m) (ran i o) (own-step o)
      (which-case (λ o'. Fine f (LeafOut m) (go o' (which (affords c u) (c - u) c))) (affords c u) y z
      (λ e'. g y _ h.0 (λ e''. h.2 a (p e'')) (spent (affords c u) c u n)) (λ e'. g z _ h.1 (λ e''. h.3 a (p e'')) (spent (affords c u) c u n)))
  fine-step a m go o c end e h p n g = fine-does f (LeafOut m) (ran i o) (own-step o) (fine-stop f (LeafOut m) _ (over-out m _ ended-over))
  fine-step a m go o c halt e h p n g = fine-does f (LeafOut m) (ran i o) (own-step o) (fine-stop f (LeafOut m) _ (over-out m _ halted-over))

  module _ (law : LawfulLeaf r code) where
    fine-goes : (a : Action) (m : Mode) (fuel o c : ℕ) → T (reached_in code m o) → Possible m a o → c ≤ c₀ → Fine f (LeafOut m) (goes i code a fuel o c)
    unfolding goes quiet
    fine-goes a m zero o c h p n = fine-stop f (LeafOut m) _ (over-out m _ halted-over)
    fine-goes a m (suc fuel) o c h p n =
        fine-step a m (goes i code a fuel) o c (get_or code o halt) refl (law.flow m o h) p n (λ o' c' h' p' n'. fine-goes a m fuel o' c' h' p' n')

    -- where the leaf waits, its next leads on
    next-leads : (k : Step) (o : ℕ) → T (is_next k) → Follows r code idle o k
        → T (reached_in code pending (take_of k)) × Sub r (possible_at r code (take_of k)) × T (reached_in code shutting (done_of k))
    unfolding Follows is_next take_of done_of
    next-leads (next t d) o t' h = (h.1, h.3, h.2)
    next-leads (ok t) o t' h = absurd t'
    next-leads (sup t) o t' h = absurd t'
    next-leads (ins b t) o t' h = absurd t'
    next-leads (acase s y z) o t' h = absurd t'
    next-leads (spend u y z) o t' h = absurd t'
    next-leads end o t' h = absurd t'
    next-leads halt o t' h = absurd t'

    led : (o : ℕ) → T (is_next (get_or code o halt))
        → T (reached_in code pending (take_of (get_or code o halt))) × Sub r (possible_at r code (take_of (get_or code o halt))) × T (reached_in code shutting (done_of (get_or code o halt)))
    unfolding reached_in reached_by is_idle
    led o h = next-leads (get_or code o halt) o h (law.flow idle o (or_right (marked idle o (marks code)) (is_next (get_or code o halt)) h))

    leaf-works : Works f leaf_tree r (leaf_work i code)
    unfolding leaf_work LeafOut Possible Sub is_pending
    leaf-works = record {
      pre = λ a s h e t. let n = leaf-waiting h e in let w = led (offset s) n.0 in
          fine-does f (LeafOut pending) (ran i (offset s)) (own-step (offset s))
          (fine-goes a pending (suc (length code)) (take_of (get_or code (offset s) halt)) (counter s) w.0 (λ e'. w.1 a t) n.1);
      post = λ s h e. let n = leaf-owing h e in
          fine-goes 0 idle (suc (length code)) (offset s) (counter s) n.0 (λ e'. true-not-false (ap is_pending e') refl) n.1;
      shut = λ s h e. let n = leaf-waiting h e in let w = led (offset s) n.0 in
          fine-does f (LeafOut shutting) (ran i (offset s)) (own-step (offset s))
          (fine-goes 0 shutting (suc (length code)) (done_of (get_or code (offset s) halt)) (counter s) w.2 (λ e'. true-not-false (ap is_pending e') refl) n.1);
    }

-- ---- two sides

module _ (w : Way) (j : Join) (i : ℕ) (l r : Tree) where
  from-left : (x : Item) → T (its l x) → T (its (node w j i l r) x)
  unfolding inside effects holds
  from-left (ran n o) h = or_right (eqb i n) (holds l n || holds r n) (or_left (holds l n) (holds r n) h)
  from-left (lets b) h = has-union-left (effects l) (effects r) b h
  from-left (sups a) h = has-union-left (effects l) (effects r) a h
  from-left (accepts a) h = h
  from-left (suppresses a) h = h

  from-right : (x : Item) → T (its r x) → T (its (node w j i l r) x)
  unfolding inside effects holds
  from-right (ran n o) h = or_right (eqb i n) (holds l n || holds r n) (or_right (holds l n) (holds r n) h)
  from-right (lets b) h = has-union-right (effects l) (effects r) b h
  from-right (sups a) h = has-union-right (effects l) (effects r) a h
  from-right (accepts a) h = h
  from-right (suppresses a) h = h

-- ---- a parallel node

-- a side whose effects do not meet a set leaves the set alone
spares-other : (t : Tree) (r : ActionSet) → T (not (meets (effects t) r)) → (x : Item) → T (its t x) → T (spares r x)
unfolding inside spares touches
spares-other t r d (ran i o) h = tt
spares-other t r d (lets b) h = meets-apart (effects t) r d b h
spares-other t r d (sups a) h = meets-apart (effects t) r d a h
spares-other t r d (accepts a) h = tt
spares-other t r d (suppresses a) h = tt

other-leaf : (t : Tree) (n : ℕ) → holds t n ≡ false → (x : Item) → T (its t x) → T (elsewhere n x)
unfolding inside elsewhere
other-leaf t n z (ran i o) h = not_T (eqb i n) (λ u. subst T (ap (holds t) (eqb→eq i n u) ∙ z) h)
other-leaf t n z (lets b) h = tt
other-leaf t n z (sups a) h = tt
other-leaf t n z (accepts a) h = tt
other-leaf t n z (suppresses a) h = tt

pub own-no-verdict : (t : Tree) (x : Item) → T (its t x) → T (no_verdict x)
unfolding inside no_verdict
own-no-verdict t (ran i o) h = tt
own-no-verdict t (lets b) h = tt
own-no-verdict t (sups a) h = tt
own-no-verdict t (accepts a) h = h
own-no-verdict t (suppresses a) h = h

module _ (j : Join) (i : ℕ) (l r : Tree) (dl : T (not (meets (effects l) (regulated r)))) (dr : T (not (meets (effects r) (regulated l))))
    (dn : Disjoint (holds l) (holds r)) where
  abbrev pair : Tree
  pair = node parallel j i l r

  fine-both : (P P' Q : Out → Type 0) (p q : Process) (g : Out → Out → Process) → Fine (its l) P p → Fine (its r) P' q
      → ((x y : Out) → P x → P' y → Fine (its pair) Q (g x y)) → Fine (its pair) Q (both (regulated l) (regulated r) p q g)
  unfolding All Safe outcome Disjoint
  fine-both P P' Q p q g a b k =
      let h = k (outcome p) (outcome q) a.outs b.outs in
      let s : Spare (regulated l) (regulated r) p q = record {
        left = weaken (its l) (spares (regulated r)) (spares-other l (regulated r) dl) p a.all;
        right = weaken (its r) (spares (regulated l)) (spares-other r (regulated l) dr) q b.all;
        leaves = λ m. ⊎_elim (λ z. inl (weaken (its l) (elsewhere m) (other-leaf l m z) p a.all)) (λ z. inr (weaken (its r) (elsewhere m) (other-leaf r m z) q b.all)) (dn m);
        no-verdict = weaken (its l) no_verdict (own-no-verdict l) p a.all;
      } in
      record {
        all = (weaken (its l) (its pair) (from-left parallel j i l r) p a.all, weaken (its r) (its pair) (from-right parallel j i l r) q b.all, h.all);
        safe = (s, a.safe, b.safe, h.safe);
        outs = h.outs;
      }

  parallel-works : (R : ActionSet) (left right : Behaviour) → Good (its l) (AtRest l) (Mid l) (Over l) left → Good (its r) (AtRest r) (Mid r) (Over r) right
      → Works (its pair) pair R (parallel_work j (regulated l) (regulated r) left right)
  unfolding parallel_work still_asked judged
  parallel-works R left right gl gr = record {
    pre = λ a s h e t. let k = pair-running h e in
        fine-both (MidOut l) (MidOut r) (MidOut pair) _ _ _ (gl.pre a (left_of s) k.0) (gr.pre a (right_of s) k.1)
        (λ x y p q. fine-stop (its pair) (MidOut pair) _ (settled-mid parallel j i l r x.state y.state p q));
    post = λ s h e. let k = pair-owing h e in
        fine-both (RestOut l) (RestOut r) (RestOut pair) _ _ _ (gl.post (left_of s) k.0) (gr.post (right_of s) k.1)
        (λ x y p q. fine-stop (its pair) (RestOut pair) _ (settled-rest parallel j i l r x.state y.state p q));
    shut = λ s h e. let k = pair-running h e in
        fine-both (OverOut l) (OverOut r) (OverOut pair) _ _ _ (gl.shut (left_of s) k.0) (gr.shut (right_of s) k.1)
        (λ x y p q. fine-stop (its pair) (OverOut pair) _ (over-over parallel j i l r false x.state y.state p q));
  }

-- ---- a sequential node

module _ (f : Item → Bool) (j : Join) (i : ℕ) (l r : Tree) (left right : Behaviour)
    (gl : Good f (AtRest l) (Mid l) (Over l) left) (gr : Good f (AtRest r) (Mid r) (Over r) right) (R : ActionSet) where
  abbrev chain : Tree
  chain = node sequential j i l r

  seq-pre : (a : Action) (s : State) → AtRest l (left_of s) → AtRest r (right_of s) → Fine f (MidOut chain) (sequential_work j R left right (before a) s)
  unfolding sequential_work
  seq-pre a s hl hr =
      let g = gl.pre a (left_of s) hl in
      let x = outcome (left (before a) (left_of s)) in
      fine-feed f (AtRest r) (Mid r) (Over r) j R right gr (MidOut chain) (left_of s)
      (λ t q e. rests (settled-done sequential j i l r false (left_of s) t (rests hl) (rests q) e))
      (left (before a) (left_of s)) (right_of s) _ g.all hr
      (λ t q. fine-unless f (MidOut chain) j true x.suppressed x.state t _
      (λ e. rests (settled-done sequential j i l r true x.state t g.outs (rests q) e))
      (fine-if f (MidOut chain) x.suppressed _ _
      (λ e. fine-stop f (MidOut chain) _ (settled-mid sequential j i l r x.state t g.outs (rests q)))
      (λ e. fine-then f (MidOut r) (MidOut chain) (right (before a) t) _ (gr.pre a t q)
      (λ y k. fine-stop f (MidOut chain) _ (settled-mid sequential j i l r x.state y.state g.outs k)))))

  -- the left side waits between the phases while the right side goes first
  seq_post : (s : State) → Mid l (left_of s) → Mid r (right_of s) → Fine f (RestOut chain) (sequential_work j R left right after s)
  unfolding sequential_work quiet
  seq_post s hl hr =
      let g = gl.post (left_of s) hl in
      fine-then f (RestOut r) (RestOut chain) (right after (right_of s)) _ (gr.post (right_of s) hr)
      (λ y q. fine-unless f (RestOut chain) j false false (left_of s) y.state _
      (settled-done sequential j i l r false (left_of s) y.state hl (rests q))
      (fine-feed f (AtRest r) (Mid r) (Over r) j R right gr (RestOut chain) (left_of s)
      (λ t q' e. settled-done sequential j i l r false (left_of s) t hl (rests q') e)
      (left after (left_of s)) y.state _ g.all q
      (λ t q'. fine-stop f (RestOut chain) _ (settled-rest sequential j i l r (outcome (left after (left_of s))).state t g.outs q'))))

  seq-shut : (s : State) → AtRest l (left_of s) → AtRest r (right_of s) → Fine f (OverOut chain) (sequential_work j R left right closing s)
  unfolding sequential_work quiet
  seq-shut s hl hr =
      let g = gl.shut (left_of s) hl in
      let x = outcome (left closing (left_of s)) in
      fine-feed f (AtRest r) (Mid r) (Over r) j R right gr (OverOut chain) (left_of s)
      (λ t q e. settled-over sequential j i l r false (left_of s) t (rests hl) (rests q) e)
      (left closing (left_of s)) (right_of s) _ g.all hr
      (λ t q. fine-unless f (OverOut chain) j false false x.state t _
      (settled-over sequential j i l r false x.state t (rests g.outs.rest) (rests q))
      (fine-then f (OverOut r) (OverOut chain) (right closing t) _ (gr.shut t q)
      (λ y k. fine-stop f (OverOut chain) _ (over-over sequential j i l r false x.state y.state g.outs k))))

  sequential-works : (S : ActionSet) → Works f chain S (sequential_work j R left right)
  sequential-works S = record {
    pre = λ a s h e t. let k = pair-running h e in seq-pre a s k.0 k.1;
    post = λ s h e. let k = pair-owing h e in seq_post s k.0 k.1;
    shut = λ s h e. let k = pair-running h e in seq-shut s k.0 k.1;
  }

-- ---- any tree

-- a node that is decided as soon as it is asked
at_once : (f : Item → Bool) (t : Tree) (r : ActionSet) (s : State) → Over t s → Works f t r (λ ph s₀. quiet s)
unfolding quiet
at_once f t r s h = record {
  pre = λ a s₀ k e u. fine-stop f (MidOut t) _ (rests h.rest);
  post = λ s₀ k e. fine-stop f (RestOut t) _ h.rest;
  shut = λ s₀ k e. fine-stop f (OverOut t) _ h;
}

-- Every node of a lawful tree: from a state at rest the phase before the verdict leads between the phases, the phase after it leads
-- back, and closing leads to a decided state; meanwhile all items are the tree's own and parallel sides leave each other alone.
pub good : (t : Tree) → Lawful t → Good (inside (effects t) (holds t)) (AtRest t) (Mid t) (Over t) (phase t)
unfolding Lawful Spared phase f leaf_over status is_running
good (leaf i r c code) law = good-asked (its (leaf i r c code)) (leaf i r c code) r (leaf_work i code) (leaf-works i c r code law)
good (trivial i) law =
    good-asked (its (trivial i)) (trivial i) EMPTY _ (at_once (its (trivial i)) (trivial i) EMPTY (leaf_over ended) (record { rest = trivial-ended; decided = refl }))
good (unsatisfiable i) law =
    good-asked (its (unsatisfiable i)) (unsatisfiable i) EMPTY _
    (at_once (its (unsatisfiable i)) (unsatisfiable i) EMPTY (leaf_over halted) (record { rest = unsatisfiable-halted; decided = refl }))
good (node parallel j i l r) law =
    good-asked (its (node parallel j i l r)) (node parallel j i l r) (regulated (node parallel j i l r)) _
    (parallel-works j i l r law.2.0 law.2.1 law.3.sides (regulated (node parallel j i l r)) (phase l) (phase r) (good l law.0) (good r law.1))
good (node sequential j i l r) law =
    let g : Item → Bool = its (node sequential j i l r) in
    good-asked g (node sequential j i l r) (regulated (node sequential j i l r)) _
    (sequential-works g j i l r (phase l) (phase r)
    (good-weaken (its l) g (AtRest l) (Mid l) (Over l) (phase l) (from-left sequential j i l r) (good l law.0))
    (good-weaken (its r) g (AtRest r) (Mid r) (Over r) (phase r) (from-right sequential j i l r) (good r law.1))
    (regulated r) (regulated (node sequential j i l r)))

-- ---- the calls

-- nothing is decided before the opening: a side not yet opened counts as running
pub fresh-runs : (t : Tree) → status (fresh t) ≡ running
unfolding fresh status
fresh-runs (leaf i r c code) = refl
fresh-runs (trivial i) = refl
fresh-runs (unsatisfiable i) = refl
fresh-runs (node w j i l r) = refl

runs-together : (j : Join) (a b : State) → status a ≡ running → status b ≡ running → joined j (status a) (status b) ≡ running
unfolding joined has_ended is_halted
runs-together and a b p q = rw (p, q)
runs-together or a b p q = rw (p, q)

pub fresh-mid : (t : Tree) → Lawful t → Mid t (fresh t)
unfolding Lawful fresh
fresh-mid (leaf i r c code) law = leaf-owes law.first (le_refl c)
fresh-mid (trivial i) law = trivial-owes
fresh-mid (unsatisfiable i) law = unsatisfiable-owes
fresh-mid (node w j i l r) law = pair-owes (fresh-mid l law.0) (fresh-mid r law.1) (runs-together j (fresh l) (fresh r) (fresh-runs l) (fresh-runs r))

-- Opening asks nothing of the state that was there.
pub opening-fine : (t : Tree) → Lawful t → (s : State) → Fine any (λ x. AtRest t x.state) (call t opening s)
unfolding call
opening-fine t law s = fine-any (its t) (RestOut t) _ ((good t law).post (fresh t) (fresh-mid t law))

-- Every call on a lawful tree in a state at rest is safe, and leaves a state at rest.
pub call-fine : (t : Tree) → Lawful t → (q : Request) (s : State) → AtRest t s → Fine any (λ x. AtRest t x.state) (call t q s)
unfolding call any quiet
call-fine t law opening s h = opening-fine t law s
call-fine t law (offer a) s h =
    fine-if any (RestOut t) (is_asked (regulated t) (before a) s) _ _
    (λ e. fine-then any (MidOut t) (RestOut t) (phase t (before a) s) _
    (fine-any (its t) (MidOut t) _ ((good t law).pre a s h))
    (λ x k. fine-perhaps any (RestOut t) _ (verdict x.suppressed a) tt
    (fine-any (its t) (RestOut t) _ ((good t law).post x.state k))))
    (λ e. fine-does any (RestOut t) (accepts a) tt (fine-stop any (RestOut t) _ h))
call-fine t law close s h =
    fine-any (its t) (RestOut t) _
    (fine-outs (its t) (OverOut t) (RestOut t) _ (λ x k. k.rest) ((good t law).shut s h))

-- Closing decides the root.
pub close-over : (t : Tree) → Lawful t → (s : State) → AtRest t s → Over t (outcome (call t close s)).state
unfolding call
close-over t law s h = ((good t law).shut s h).outs
