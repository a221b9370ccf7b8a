-- What a call may cost, whatever is counted: single steps, inserts or verdicts.
use Prim.Native.Nat.{ℕ, zero, suc, ◌+◌, ◌*◌, ◌≤◌, zero-le}
use native.Mathlib.Nat.{le_refl, le_trans, add-le-add, add-mul, mul-suc, mul-le-mul_right}
use native.Mathlib.Omega.{arith}
use mathlib.Core.Path.{◌≡◌, refl, sym, ap₂, ◌∙◌, subst}
use mathlib.Core.Bool.{Bool, true, false, ◌&&◌, not}
use mathlib.Core.List.{List, [], ◌∷◌}
use lib.ListN.{length, get_or}
use Rattle.actions.specs.Sets.{Action, ActionSet, EMPTY, has}
use Rattle.spec_policy.specs.Lists.{one}
use Rattle.spec_policy.specs.Steps.{Step, halt, is_next, is_ins}
use Rattle.spec_policy.specs.Tree.{parallel, sequential, Join, Tree, leaf, trivial, unsatisfiable, node, regulated}
use Rattle.spec_check.specs.Spread.{ins_count, spread_of, spread}
use Rattle.spec_check.specs.Lawful.{LawfulLeaf, Lawful}
use Rattle.spec_turns.specs.Status.{is_running, is_halted, joined}
use Rattle.spec_turns.specs.State.{State, pair_state, status, asked, offset, counter, left_of, right_of, drop, pair_with, settled}
use Rattle.spec_turns.specs.Process.{Item, ran, lets, sups, accepts, suppresses, Out, Process, stop, does, both, outcome}
use Rattle.spec_turns.specs.Turn.{Phase, before, after, closing, Behaviour, quiet, take_of, done_of, leaf_work, parallel_work, judged, emitted, given}
use Rattle.spec_turns.specs.Turn.{feed, sequential_work, is_asked, if_asked, phase, fresh, Request, opening, offer, close, verdict, call}
use Rattle.laws_turns.proofs.Count.{weight, weight-then, weight-if, weight-unless}
use Rattle.laws_turns.specs.Counts.{worth, count}
use Rattle.laws_turns.proofs.Count.{weight-perhaps, none_if, none-le, owing, owing-le, price, prices, ahead, goes-le}

-- ---- a bounded behaviour

-- A single step counts u, an insert v, a verdict z.
module _ (u v z : ℕ) where
  -- what a process costs, with what its outcome still owes
  unfoldable pub lot : (State → ℕ) → Process → ℕ
  lot K p = weight (worth u v z) (λ x. K x.state) p

  -- At most C in a turn and in a closing; of that at most K after the verdict, by the state that the phase before it left.
  pub record Bounded (C : ℕ) (K : State → ℕ) (b : Behaviour) : Type 0 where
    pub cap : (s : State) → K s ≤ C
    pub pre : (a : Action) (s : State) → lot K (b (before a) s) ≤ C
    pub post : (s : State) → lot K (b after s) ≤ K s
    pub shut : (s : State) → lot K (b closing s) ≤ C

module _ (u v z : ℕ) where
  lot-quiet : (K : State → ℕ) (s : State) → lot u v z K (quiet s) ≤ K s
  unfolding lot weight count outcome quiet
  lot-quiet K s = omega arith

  due-owed : (d : State → ℕ) (s : State) → asked s ≡ true → d s ≤ owing d s
  unfolding owing none_if
  due-owed d s e = subst (λ (b : Bool). d s ≤ none_if (not b) (d s)) (sym e) (le_refl (d s))

  -- work that is bounded is so where it is only done if asked, and then a node owes only where it is marked
  bounded-if : (C : ℕ) (d : State → ℕ) (r : ActionSet) (b : Behaviour) → ((s : State) → d s ≤ C) → ((a : Action) (s : State) → lot u v z (owing d) (b (before a) s) ≤ C)
      → ((s : State) → lot u v z (owing d) (b after s) ≤ d s) → ((s : State) → lot u v z (owing d) (b closing s) ≤ C) → Bounded u v z C (owing d) (if_asked r b)
  unfolding if_asked is_asked lot
  bounded-if C d r b most pre post shut =
      let w = worth u v z in
      let f : Out → ℕ = λ x. owing d x.state in
      let cap : (s : State) → owing d s ≤ C = λ s. le_trans (owing-le d s) (most s) in
      record {
        cap = cap;
        pre = λ a s. weight-if w f (is_running (status s) && has r a) _ _ C (λ e. pre a s) (λ e. le_trans (lot-quiet (owing d) s) (cap s));
        post = λ s. weight-if w f (asked s) _ _ (owing d s) (λ e. le_trans (post s) (due-owed d s e)) (λ e. lot-quiet (owing d) s);
        shut = λ s. weight-if w f (is_running (status s)) _ _ C (λ e. shut s) (λ e. le_trans (lot-quiet (owing d) s) (cap s));
      }

  -- ---- a leaf

  -- past the last step stands a halt
  ahead-most : (code : List Step) (o : ℕ) → ahead u v code o ≤ u + prices u v code
  unfolding ahead price is_next is_ins one none_if prices
  ahead-most [] o = omega arith
  ahead-most (k ∷ code) zero = omega (arith, none-le (is_next k) (prices u v (k ∷ code)))
  ahead-most (k ∷ code) (suc o) = omega (arith, ahead-most code o)

  bounded-leaf : (i : ℕ) (r : ActionSet) (code : List Step) → LawfulLeaf r code
      → Bounded u v z (2 * u + prices u v code) (owing (λ s. ahead u v code (offset s))) (if_asked r (leaf_work i code))
  unfolding leaf_work lot weight count outcome worth
  bounded-leaf i r code law =
      bounded-if (2 * u + prices u v code) (λ s. ahead u v code (offset s)) r (leaf_work i code) (λ s. omega (arith, ahead-most code (offset s)))
      (λ a s. omega (arith, goes-le u v z i code law a (suc (length code)) (take_of (get_or code (offset s) halt)) (counter s), ahead-most code (take_of (get_or code (offset s) halt))))
      (λ s. omega (arith, goes-le u v z i code law 0 (suc (length code)) (offset s) (counter s)))
      (λ s. omega (arith, goes-le u v z i code law 0 (suc (length code)) (done_of (get_or code (offset s) halt)) (counter s), ahead-most code (done_of (get_or code (offset s) halt))))

  -- ---- a node: what it owes goes by its two sides

  settled-owes : (D : State → State → ℕ) (j : Join) (m : Bool) (a b : State) → owing (λ s. D (left_of s) (right_of s)) (settled j m a b) ≤ none_if (not m) (D a b)
  unfolding settled pair_with owing asked left_of right_of none_if
  settled-owes D j m a b = go (is_running (joined j (status a) (status b)))
    where
      go : (t : Bool)
          → owing (λ s. D (left_of s) (right_of s)) (elim t [
            | true ↦ pair_state (joined j (status a) (status b)) m a b
            | false ↦ pair_state (joined j (status a) (status b)) false (drop a) (drop b)
          ]) ≤ none_if (not m) (D a b)
      go true = le_refl (none_if (not m) (D a b))
      go false = zero-le

  module _ (C U : ℕ) (K M : State → ℕ) (left right : Behaviour) (bl : Bounded u v z C K left) (br : Bounded u v z U M right) (j : Join) where
    both-le : (x y : ActionSet) (m : Bool) (p q : Process) (g : Out → Out → Bool)
        → lot u v z (owing (λ s. K (left_of s) + M (right_of s))) (both x y p q (λ a b. stop (judged (settled j m a.state b.state) (g a b)))) ≤ lot u v z K p + lot u v z M q
    unfolding judged lot weight count outcome
    both-le x y m p q g =
        let a = (outcome p).state in
        let b = (outcome q).state in
        omega (arith, settled-owes (λ a b. K a + M b) j m a b, none-le (not m) (K a + M b))

    bounded-parallel : (x y r : ActionSet) → Bounded u v z (C + U) (owing (λ s. K (left_of s) + M (right_of s))) (if_asked r (parallel_work j x y left right))
    unfolding parallel_work
    bounded-parallel x y r =
        bounded-if (C + U) (λ s. K (left_of s) + M (right_of s)) r (parallel_work j x y left right)
        (λ s. add-le-add (bl.cap (left_of s)) (br.cap (right_of s)))
        (λ a s. le_trans (both-le x y _ _ _ _) (add-le-add (bl.pre a (left_of s)) (br.pre a (right_of s))))
        (λ s. le_trans (both-le x y _ _ _ _) (add-le-add (bl.post (left_of s)) (br.post (right_of s))))
        (λ s. le_trans (both-le x y _ _ _ _) (add-le-add (bl.shut (left_of s)) (br.shut (right_of s))))

    -- In a sequential node each insert of the left, of which there are at most S, is a turn of the right.
    module _ (S : ℕ) (L : State → ℕ) (il : Bounded 0 1 0 S L left) where
      abbrev due : State → State → ℕ
      due a b = M b + (K a + L a * U)

      abbrev owed : State → ℕ
      owed = owing (λ s. due (left_of s) (right_of s))

      abbrev whole : Out → ℕ
      whole x = owed x.state

      abbrev part : Out → ℕ
      part x = M x.state

      abbrev w : Item → ℕ
      w = worth u v z

      abbrev most : ℕ
      most = C + suc S * U

      settled-none : (n : ℕ) (a b : State) → owed (settled j false a b) ≤ n
      unfolding none_if
      settled-none n a b = le_trans (settled-owes due j false a b) zero-le

      settled-some : (a b : State) → owed (settled j true a b) ≤ due a b
      unfolding none_if
      settled-some a b = settled-owes due j true a b

      module _ (r : ActionSet) (l : State) where
        given-le : (b : Action) (s : State) (k : State → Process) (n : ℕ) → ((t : State) → lot u v z owed (k t) ≤ n) → lot u v z owed (given j r right l b s k) ≤ v + (U + n)
        unfolding given lot weight count outcome worth
        given-le b s k n h =
            weight-if w whole (is_running (status s) && has r b) _ _ (v + (U + n))
            (λ e. le_trans
            (weight-then w whole part (right (before b) s) _ U (n + v) (br.pre b s) (λ x. le_trans
            (weight-perhaps w whole (emitted j x) (lets b) _ (part x + n)
            (weight-then w whole part (right after x.state) _ (part x) n (br.post x.state) (λ y.
            weight-unless w whole j false false l y.state _ (part y + n) (settled-none (part y + n) l y.state) (omega (arith, h y.state)))))
            (omega arith)))
            (omega arith))
            (λ e. omega (arith, h s))

        -- the inserts of a process
        abbrev ins : Process → ℕ
        ins = count (worth 0 1 0)

        feed-le : (p : Process) (s : State) (k : Out → State → Process) (n : ℕ) → ((t : State) → lot u v z owed (k (outcome p) t) ≤ n)
            → lot u v z owed (feed j r right l p s k) ≤ count w p + (ins p * U + n)
        unfolding feed lot weight count outcome worth
        feed-le (stop x) s k n h = omega (arith, h s)
        feed-le (does (ran i o) p) s k n h = omega (arith, feed-le p s k n h)
        feed-le (does (lets b) p) s k n h =
            omega (arith, given-le b s (λ t. feed j r right l p t k) (count w p + (ins p * U + n)) (λ t. feed-le p t k n h), add-mul 1 (ins p) U)
        feed-le (does (sups a) p) s k n h = omega (arith, feed-le p s k n h)
        feed-le (does (accepts a) p) s k n h = omega (arith, feed-le p s k n h)
        feed-le (does (suppresses a) p) s k n h = omega (arith, feed-le p s k n h)
        feed-le (both x y p q g) s k n h =
            let m = count w (g (outcome p) (outcome q)) + (ins (g (outcome p) (outcome q)) * U + n) in
            omega (
              arith,
              feed-le p s (λ x t. feed j r right l q t (λ y t'. feed j r right l (g x y) t' k)) (count w q + (ins q * U + m))
                  (λ t. feed-le q t (λ y t'. feed j r right l (g (outcome p) y) t' k) m (λ t'. feed-le (g (outcome p) (outcome q)) t' k n h)),
              add-mul (ins p + ins q) (ins (g (outcome p) (outcome q))) U,
              add-mul (ins p) (ins q) U,
            )

      -- at most S inserts, of which o are to come
      turns-le : (n o : ℕ) → n + o ≤ S → n * U + o * U ≤ S * U
      turns-le n o h = omega (arith, mul-le-mul_right U h, add-mul n o U)

      module _ (r : ActionSet) where
        seq-pre : (a : Action) (s : State) → lot u v z owed (sequential_work j r left right (before a) s) ≤ most
        unfolding sequential_work lot weight count outcome
        seq-pre a s =
            let p = left (before a) (left_of s) in
            let x = outcome p in
            let n = U + (K x.state + L x.state * U) in
            le_trans (feed-le r (left_of s) p (right_of s) _ n (λ t.
            let stops : owed (settled j true x.state t) ≤ n = omega (arith, settled-some x.state t, br.cap t) in
            weight-unless w whole j true x.suppressed x.state t _ n stops
            (weight-if w whole x.suppressed _ _ n (λ e. omega arith)
            (λ e. weight-then w whole part (right (before a) t) _ U (K x.state + L x.state * U) (br.pre a t) (λ y. omega (arith, settled-some x.state y.state))))))
            (omega (arith, bl.pre a (left_of s), turns-le (count (worth 0 1 0) p) (L x.state) (il.pre a (left_of s)), add-mul 1 S U))

        seq_post : (s : State) → lot u v z owed (sequential_work j r left right after s) ≤ due (left_of s) (right_of s)
        unfolding sequential_work lot weight count outcome quiet
        seq_post s =
            let p = left after (left_of s) in
            let few : count (worth 0 1 0) p ≤ L (left_of s) = omega (arith, il.post (left_of s)) in
            weight-then w whole part (right after (right_of s)) _ (M (right_of s)) (K (left_of s) + L (left_of s) * U) (br.post (right_of s)) (λ y.
            weight-unless w whole j false false (left_of s) y.state _ _ (settled-none _ (left_of s) y.state)
            (le_trans (feed-le r (left_of s) p y.state _ 0 (λ t. omega (arith, settled-none 0 (outcome p).state t)))
            (omega (arith, bl.post (left_of s), mul-le-mul_right U few))))

        seq-shut : (s : State) → lot u v z owed (sequential_work j r left right closing s) ≤ most
        unfolding sequential_work lot weight count outcome quiet
        seq-shut s =
            let p = left closing (left_of s) in
            let x = (outcome p).state in
            let few : count (worth 0 1 0) p ≤ S = omega (arith, il.shut (left_of s)) in
            le_trans (feed-le r (left_of s) p (right_of s) _ (U + 0) (λ t.
            weight-unless w whole j false false x t _ (U + 0) (settled-none (U + 0) x t)
            (weight-then w whole part (right closing t) _ U 0 (br.shut t) (λ y. omega (arith, settled-none 0 x y.state)))))
            (omega (arith, bl.shut (left_of s), mul-le-mul_right U few, add-mul 1 S U))

        bounded-sequential : (r' : ActionSet) → Bounded u v z most owed (if_asked r' (sequential_work j r left right))
        bounded-sequential r' =
            bounded-if most (λ s. due (left_of s) (right_of s)) r' (sequential_work j r left right)
            (λ s. omega (arith, bl.cap (left_of s), br.cap (right_of s), mul-le-mul_right U (il.cap (left_of s)), add-mul 1 S U))
            seq-pre
            seq_post
            seq-shut

-- ---- trees

-- What a turn, an opening or a closing may cost, from any state. A leaf runs each step at most once; a next has no price, so the one that
-- is left stands beside them, and so does the halt past the last step, where the state does not fit.
unfoldable pub cost : Tree → ℕ → ℕ → ℕ
cost (leaf i r c code) u v = 2 * u + prices u v code
cost (trivial i) u v = 0
cost (unsatisfiable i) u v = 0
cost (node parallel j i l r) u v = cost l u v + cost r u v
cost (node sequential j i l r) u v = cost l u v + suc (spread l) * cost r u v

-- what the phase after the verdict may cost
unfoldable pub due-after : Tree → ℕ → ℕ → State → ℕ
due-after (leaf i r c code) u v s = ahead u v code (offset s)
due-after (trivial i) u v s = 0
due-after (unsatisfiable i) u v s = 0
due-after (node parallel j i l r) u v s = owing (due-after l u v) (left_of s) + owing (due-after r u v) (right_of s)
due-after (node sequential j i l r) u v s =
    owing (due-after r u v) (right_of s) + (owing (due-after l u v) (left_of s) + owing (due-after l 0 1) (left_of s) * cost r u v)

-- the inserts alone: the spread
ins-prices : (code : List Step) → prices 0 1 code ≡ ins_count code
unfolding prices price ins_count
ins-prices [] = refl
ins-prices (k ∷ code) = omega (arith, none-le (is_next k) 0, ins-prices code)

sequential-spread : (m n : ℕ) → m + suc m * n ≡ spread_of sequential m n
unfolding spread_of
sequential-spread m n = omega (arith, mul-suc (1 + m) n, add-mul 1 m n, add-mul 1 m (1 + n))

pub cost-spread : (t : Tree) → cost t 0 1 ≡ spread t
unfolding cost spread spread_of
cost-spread (leaf i r c code) = omega (arith, ins-prices code)
cost-spread (trivial i) = refl
cost-spread (unsatisfiable i) = refl
cost-spread (node parallel j i l r) = ap₂ (λ (m n : ℕ). m + n) (cost-spread l) (cost-spread r)
cost-spread (node sequential j i l r) = ap₂ (λ (m n : ℕ). m + suc (spread l) * n) (cost-spread l) (cost-spread r) ∙ sequential-spread (spread l) (spread r)

bounded-plain : (u v z : ℕ) (s : State) → Bounded u v z 0 (owing (λ t. 0)) (if_asked EMPTY (λ ph t. quiet s))
unfolding lot weight count outcome quiet
bounded-plain u v z s =
    let none : 0 + owing (λ t. 0) s ≤ 0 = omega (arith, owing-le (λ t. 0) s) in
    bounded-if u v z 0 (λ t. 0) EMPTY (λ ph t. quiet s) (λ t. zero-le) (λ a t. none) (λ t. none) (λ t. none)

pub bounded : (t : Tree) → Lawful t → (u v z : ℕ) → Bounded u v z (cost t u v) (owing (due-after t u v)) (phase t)
unfolding phase cost due-after Lawful
bounded (leaf i r c code) h u v z = bounded-leaf u v z i r code h
bounded (trivial i) h u v z = bounded-plain u v z _
bounded (unsatisfiable i) h u v z = bounded-plain u v z _
bounded (node parallel j i l r) h u v z =
    bounded-parallel u v z (cost l u v) (cost r u v) (owing (due-after l u v)) (owing (due-after r u v)) (phase l) (phase r)
    (bounded l h.0 u v z) (bounded r h.1 u v z) j (regulated l) (regulated r) (regulated (node parallel j i l r))
bounded (node sequential j i l r) h u v z =
    let inserts : Bounded 0 1 0 (spread l) (owing (due-after l 0 1)) (phase l) =
    subst (λ (n : ℕ). Bounded 0 1 0 n (owing (due-after l 0 1)) (phase l)) (cost-spread l) (bounded l h.0 0 1 0) in
    bounded-sequential u v z (cost l u v) (cost r u v) (owing (due-after l u v)) (owing (due-after r u v)) (phase l) (phase r)
    (bounded l h.0 u v z) (bounded r h.1 u v z) j (spread l) (owing (due-after l 0 1)) inserts (regulated r) (regulated (node sequential j i l r))

module _ (u v z : ℕ) (t : Tree) (law : Lawful t) where
  -- a phase alone, and the two phases of a turn
  pub phase-cost : (ph : Phase) (s : State) → count (worth u v z) (phase t ph s) ≤ cost t u v
  unfolding lot weight
  phase-cost (before a) s = omega (arith, (bounded t law u v z).pre a s)
  phase-cost after s = omega (arith, (bounded t law u v z).post s, (bounded t law u v z).cap s)
  phase-cost closing s = omega (arith, (bounded t law u v z).shut s)

  pub turn-cost : (a : Action) (s : State)
      → count (worth u v z) (phase t (before a) s) + count (worth u v z) (phase t after (outcome (phase t (before a) s)).state) ≤ cost t u v
  unfolding lot weight
  turn-cost a s = omega (arith, (bounded t law u v z).pre a s, (bounded t law u v z).post (outcome (phase t (before a) s)).state)

  -- ---- calls

  verdict-worth : (b : Bool) (a : Action) → worth u v z (verdict b a) ≡ z
  unfolding worth verdict
  verdict-worth true a = refl
  verdict-worth false a = refl

  call-le : (q : Request) (s : State) → lot u v z (owing (due-after t u v)) (call t q s) ≤ cost t u v + z
  unfolding call is_asked lot weight count outcome worth quiet
  call-le opening s = omega (arith, (bounded t law u v z).post (fresh t), (bounded t law u v z).cap (fresh t))
  call-le (offer a) s =
      let w = worth u v z in
      let f : Out → ℕ = λ x. owing (due-after t u v) x.state in
      weight-if w f (is_running (status s) && has (regulated t) a) _ _ (cost t u v + z)
      (λ e. weight-then w f f (phase t (before a) s) _ (cost t u v) z ((bounded t law u v z).pre a s) (λ x. le_trans
      (weight-perhaps w f (not (is_halted (status x.state))) (verdict x.suppressed a) _ (f x) ((bounded t law u v z).post x.state))
      (omega (arith, verdict-worth x.suppressed a))))
      (λ e. omega (arith, (bounded t law u v z).cap s))
  call-le close s = omega (arith, (bounded t law u v z).shut s)

  pub call-cost : (q : Request) (s : State) → count (worth u v z) (call t q s) ≤ cost t u v + z
  unfolding lot weight
  call-cost q s = omega (arith, call-le q s)
