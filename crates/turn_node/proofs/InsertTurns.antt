-- An insert's way up and down again, where the file has the nodes.
use Prim.Native.Nat.{ℕ, suc, ◌+◌, ◌*◌, ◌-◌, ◌≤◌, ◌<◌, ◌%◌, ◌/◌}
use native.Mathlib.Omega.{arith}
use mathlib.Core.Path.{◌≡◌, refl, sym, ap, ap₂, ◌∙◌, subst, subst₂}
use mathlib.Core.Bool.{Bool, true, false, ◌&&◌, ◌||◌}
use mathlib.Core.List.{List, [], ◌∷◌, ◌++◌}
use mathlib.Core.Logic.{◌⊎◌, inl, inr}
use lib.Dec.{ltb, leb, eqb}
use lib.ListN.{length, get_or, set, length-set}
use lib.Seq.{get_or-set_other}
use borrow.Author.Tests.{ne_eqb, le-leb, lt-ltb}
use Rattle.actions.specs.Sets.{Action, EMPTY, is_action, single, union, has}
use Rattle.actions.proofs.SetLaws.{has-empty, has-single, has-union}
use Rattle.actions.proofs.Tests.{true-not-false}
use Rattle.spec_policy.specs.Bytes.{Bytes}
use Rattle.spec_policy.specs.Lists.{among}
use Rattle.spec_policy.specs.Tree.{tree_at, number_of}
use Rattle.spec_check.proofs.Numbers.{number_at}
use Rattle.spec_turns.specs.Status.{running, is_running, joined}
use Rattle.spec_turns.specs.Process.{Item, lets}
use Rattle.spec_turns.specs.Turn.{Phase, before, after, is_asked}
use Rattle.spec_trace.proofs.TallyLaws.{steps-lets}
use Rattle.turn_paths.specs.Memory.{Mem}
use Rattle.turn_paths.specs.Choices.{emits}
use Rattle.turn_paths.specs.Paths.{Feeder, Ended, done, stopped, Clear, is_stop, GoesOn, Turned, Rose}
use Rattle.turn_paths.specs.Beneath.{size}
use Rattle.turn_paths.specs.Rising.{takes, Half, Skips, Rising, starts, lets_on, Owes, nothing, first}
use Rattle.turn_paths.proofs.Runs.{ext}
use Rattle.turn_paths.proofs.Frames.{same_or_not, eqb_same}
use Rattle.turn_paths.proofs.RisingLaws.{skip, lets-out, given-stopped, stays-in, after-stopped, settled_on, settled-stops}
use Rattle.turn_memory.specs.Words.{Words, count_place, told_place, told_count, word_count, memory_of, pushed}
use Rattle.turn_memory.specs.Phases.{phase_of}
use Rattle.turn_memory.proofs.CellLaws.{view-same, view-only}
use Rattle.turn_memory.proofs.ToldLaws.{told-say}
use Rattle.turn_sides.specs.Sides.{right_at, join_at}
use Rattle.turn_sides.proofs.StatusBytes.{phase-before}
use Rattle.turn_tables.specs.Tables.{as_feeder, path_at}
use Rattle.turn_tables.proofs.TableLaws.{path-same}
use Rattle.turn_ends.specs.Ends.{ended, waiting_gives, Rereads, Reread}
use Rattle.turn_place.specs.Places.{Asked, Keeps, Stands, Sequential, Finds}
use Rattle.turn_place.proofs.LeafPlaces.{low}
use Rattle.turn_place.proofs.Ways.{stands_on}
use Rattle.turn_place.proofs.SidePlaces.{way, way-kept, standing}
use Rattle.turn_node.specs.Turns.{lets_in, Turns, TurnsAt, Emits, Feeds, Ascends, none, more, Owing, Settling, Settles}
use Rattle.turn_node.proofs.Parts.{stop-of, done-of, Moved, keeps-none, moved_none, moved_then, moved-own, turns-moved, to-emits}
use Rattle.turn_node.proofs.PairTurns.{at_right}
use Rattle.turn_node.proofs.OnWay.{OnWay, feeds, on-way, owing-feeds}

-- words that keep the tables
pub feeds-on : {policy : Bytes} {ws ws' : Words} {n k : ℕ} → Keeps ws ws' → Feeds policy ws n k → Feeds policy ws' n k
feeds-on {policy} {ws} {ws'} {n} {k} kp f = record {
  stands = stands_on f.stands kp;
  pair = f.pair;
  lower = f.lower;
  fewer = omega (arith, f.fewer, way-kept policy k kp, way-kept policy n kp);
}

-- ---- a node's part once an insert is through above it

module _ {policy : Bytes} {ws : Words} {i : ℕ} (h : Stands policy ws i) (k : Sequential policy i) {y : ℕ} (m : ℕ) {ws₁ : Words} (ey : y ≡ right_at policy i) {counting : Bool} {cs cs₁ : List ℕ} (t : TurnsAt counting policy cs cs₁ y after ws ws₁ m) where
  pub settles-stopped : 2 ≤ m → Settles counting policy cs cs₁ i ws ws₁ (ended m)
  settles-stopped g =
      let t₁ = at_right h k m ey keeps-none (stop-of m g) t in
      subst (Settles counting policy cs cs₁ i ws ws₁) (sym (stop-of m g)) (record {
        items = t₁.items;
        settles = λ cl p q. after-stopped cl p q t₁.turned;
        told = t₁.told;
        keeps = t₁.keeps;
        steps = t₁.steps;
      })

  by_number : {v : Bool} → is_running (waiting_gives policy i ws₁) ≡ v → is_running (joined (join_at policy i) running (memory_of ws₁ (number_of (tree_at policy (right_at policy i)))).status) ≡ v
  by_number e = ap (λ (n : ℕ). is_running (joined (join_at policy i) running (memory_of ws₁ n).status)) (number_at policy (right_at policy i)) ∙ e

  pub settles-read : m < 2 → (q : ℕ) {ws₂ : Words} → Reread policy i ws₁ ws₂ q → Settles counting policy cs cs₁ i ws ws₂ (ended q)
  settles-read g q {ws₂} r =
      let t₁ = at_right h k m ey keeps-none (done-of m g) t in
      let mv = moved-own (low h) (turns-moved t₁) r.only in
      record {
        items = t₁.items;
        settles = λ {b} {fs} {m₀} {m₁} {xs} {ys} {ns} cl p z. on (ended q) r.reads cl p z t₁.turned;
        told = mv.told;
        keeps = mv.keeps;
        steps = mv.steps;
      }
    where
      on : (x : Ended) → Rereads policy i ws₁ ws₂ x → {b : Action} {fs : List Feeder} {m₀ m₁ : Mem} {xs ys zs : List Item} {ns : List ℕ} → Clear fs
          → Rising b fs m₀ (as_feeder policy i ∷ path_at policy ws i) m₁ xs ns → Half (as_feeder policy i) (path_at policy ws i) b m₁ (memory_of ws) ys
          → Turned (path_at policy ws i) (tree_at policy (right_at policy i)) after (memory_of ws) (memory_of ws₁) zs (done (eqb m 1)) → Settling b fs m₀ (memory_of ws₂) ((xs ++ ys) ++ zs) ns x
      on (done u) rr {b} {fs} {m₀} {xs = xs} {ys} {zs} {ns} cl p z tt₁ =
          subst (λ (vs : Words). Owes b fs m₀ (memory_of vs) ((xs ++ ys) ++ zs) ns) (sym rr.1) (settled_on cl p z tt₁ (by_number rr.0))
      on (stopped n) rr {b} {fs} {m₀} {xs = xs} {ys} {zs} cl p z tt₁ =
          subst (λ (v : ℕ). Rose fs b m₀ (memory_of ws₂) ((xs ++ ys) ++ zs) (stopped v)) (sym rr.0)
          (settled-stops cl p z tt₁ (λ j ne. view-only r.only j ne) (by_number rr.1)
          (rr.2 ∙ ap (λ (n : ℕ). joined (join_at policy i) running (memory_of ws₁ n).status) (sym (number_at policy (right_at policy i)))))

-- ---- an insert is let out

module _ (ws : Words) (b : Action) where
  abbrev at : ℕ
  at = told_place + told_count ws / 8

  pushed-others : (k : ℕ) → (k ≡ count_place → ⊥) → ((32 ≤ k) × (k < 64) → ⊥) → get_or (pushed ws b) k 0 ≡ get_or ws k 0
  unfolding pushed
  pushed-others k ne l =
      let w : ℕ = get_or ws at 0 % 72057594037927936 * 256 + b in
      get_or-set_other (set ws at w) count_place k (told_count ws + 1) 0 ne ∙ get_or-set_other ws at k w 0 (λ e. l (omega (arith, e), omega (arith, e)))

  -- the cells and the tables are as they were
  pushed-view : memory_of (pushed ws b) ≡ memory_of ws
  pushed-view = ext (λ k. view-same ws (pushed ws b) k (λ l. pushed-others k (λ e. absurd (omega (arith, e, l))) (λ z. absurd (omega (arith, z, l)))))

  pushed-keeps : Keeps ws (pushed ws b)
  unfolding pushed
  pushed-keeps = record {
    sized = length-set (set ws at (get_or ws at 0 % 72057594037927936 * 256 + b)) count_place (told_count ws + 1) ∙ length-set ws at (get_or ws at 0 % 72057594037927936 * 256 + b);
    tables = λ k l. pushed-others k (λ e. absurd (omega (arith, e, l))) (λ z. absurd (omega (arith, z, l)));
  }

  pushed-moved : {counting : Bool} {policy : Bytes} {cs : List ℕ} → b < 256 → length ws ≡ word_count → Moved counting policy cs cs ws (pushed ws b) (lets b ∷ [])
  unfolding lets_in
  pushed-moved {counting} {policy} {cs} hb size = record { told = told-say ws b hb size; steps = sym (steps-lets counting policy b cs); keeps = pushed-keeps }

-- ---- the way up

or-true : (d : Bool) → (d || true) ≡ true
or-true true = refl
or-true false = refl

eqb_swap : (a b : ℕ) → eqb a b ≡ eqb b a
eqb_swap a b = on (same_or_not a b)
  where
    on : (a ≡ b) ⊎ (a ≡ b → ⊥) → eqb a b ≡ eqb b a
    on (inl e) = ap₂ eqb e (sym e)
    on (inr f) = ne_eqb a b f ∙ sym (ne_eqb b a (λ e. f (sym e)))

or-false : (d : Bool) → (d || false) ≡ d
or-false true = refl
or-false false = refl

-- From node n an insert has come to node `at`, and the nodes of the set have let it on.
pub record Climbed (counting : Bool) (policy : Bytes) (cs₀ cs : List ℕ) (b : Action) (ws₀ ws : Words) (n at fed : ℕ) : Type 0 where
  pub items : List Item
  pub owed : List ℕ
  pub rising : Rising b (path_at policy ws₀ n) (memory_of ws₀) (path_at policy ws₀ at) (memory_of ws) items owed
  pub ascends : Ascends n at owed
  pub members : (q : ℕ) → has fed q ≡ among q owed
  pub below : at ≤ n
  pub stands : Stands policy ws₀ at
  pub moved : Moved counting policy cs₀ cs ws₀ ws items

pub climbed-here : {policy : Bytes} {ws : Words} {n : ℕ} {counting : Bool} {cs : List ℕ} (b : Action) → Stands policy ws n → Climbed counting policy cs cs b ws ws n n EMPTY
unfolding among
climbed-here b h = record {
  items = [];
  owed = [];
  rising = starts;
  ascends = none;
  members = λ q. has-empty q;
  below = omega arith;
  stands = h;
  moved = moved_none;
}

ascends-less : {n p q : ℕ} {ns : List ℕ} → q ≤ p → Ascends n p ns → Ascends n q ns
ascends-less l none = none
ascends-less {q = q} l (more {q = r} a b c) = more {p = q} {q = r} (omega (arith, l, a)) b c

module _ {policy : Bytes} {b : Action} {ws₀ ws : Words} {n at fed : ℕ} (h : Stands policy ws₀ n) {counting : Bool} {cs₀ cs : List ℕ} (r : Climbed counting policy cs₀ cs b ws₀ ws n at fed) where
  clear : Clear (path_at policy ws₀ n)
  clear = (standing h).clear

  pub stands-now : Stands policy ws at
  stands-now = stands_on r.stands r.moved.keeps

  same-path : (i : ℕ) → path_at policy ws i ≡ path_at policy ws₀ i
  same-path i = path-same policy ws₀ ws r.moved.keeps.tables i

  -- no node further up takes it: it is let out
  pub lets-it-out : Skips b (memory_of ws) (path_at policy ws at) [] → b < 256 → Owing counting policy cs₀ cs (path_at policy ws₀ n) b ws₀ (pushed ws b) n at fed
  lets-it-out s hb =
      let mv = moved_then r.moved (pushed-moved ws b hb (r.moved.keeps.sized ∙ h.sized)) in
      record {
        items = r.items ++ (lets b ∷ []);
        owed = r.owed;
        owes = subst (λ (m : Mem). Owes b (path_at policy ws₀ n) (memory_of ws₀) m (r.items ++ (lets b ∷ [])) r.owed) (sym (pushed-view ws b))
            (lets-out clear r.rising (subst (λ (fs : List Feeder). Skips b (memory_of ws) fs []) (same-path at) s));
        ascends = r.ascends;
        members = λ q l. r.members q;
        told = mv.told;
        keeps = mv.keeps;
        steps = mv.steps;
      }

  -- node p takes it
  module _ {p : ℕ} (s : Skips b (memory_of ws) (path_at policy ws at) (as_feeder policy p ∷ path_at policy ws p)) (a : takes (as_feeder policy p) b (memory_of ws) ≡ true) (lp : p < at) where
    comes : Rising b (path_at policy ws₀ n) (memory_of ws₀) (as_feeder policy p ∷ path_at policy ws₀ p) (memory_of ws) r.items r.owed
    comes = skip clear r.rising (subst₂ (λ (fs gs : List Feeder). Skips b (memory_of ws) fs (as_feeder policy p ∷ gs)) (same-path at) (same-path p) s)

    at-taker : Feeds policy ws₀ n p
    at-taker = feeds p (on-way h comes) refl

    pub taker-stands : Stands policy ws p
    taker-stands = stands_on at-taker.stands r.moved.keeps

    pub taker-pair : Sequential policy p
    taker-pair = at-taker.pair

    -- its right side is beneath fewer nodes than the insert had above it
    pub taker-less : size (tree_at policy (right_at policy p)) + way policy ws p ≤ way policy ws₀ n
    taker-less = omega (arith, at-taker.fewer, way-kept policy p r.moved.keeps)

    -- and is asked about it
    pub taker-asked : b < 64 → {y : ℕ} → y ≡ right_at policy p → Asked policy ws y (phase_of b)
    unfolding is_asked
    taker-asked lb {y} ey = subst (λ (x : ℕ). Asked policy ws x (phase_of b)) (sym ey) (subst (Asked policy ws (right_at policy p)) (sym (phase-before b lb)) a)

    module _ {y : ℕ} (m : ℕ) {ws₁ : Words} (lb : b < 64) (ey : y ≡ right_at policy p) {cs₁ : List ℕ} (t : TurnsAt counting policy cs cs₁ y (phase_of b) ws ws₁ m) where
      its-turn : {e : Ended} → ended m ≡ e → Turns counting policy cs cs₁ (path_at policy ws₀ p) (tree_at policy (right_at policy p)) (before b) ws ws₁ e
      its-turn {e} q =
          subst (λ (ph : Phase). Turns counting policy cs cs₁ (path_at policy ws₀ p) (tree_at policy (right_at policy p)) ph ws ws₁ e) (phase-before b lb) (at_right at-taker.stands taker-pair m ey r.moved.keeps q t)

      pub taken-stopped : 2 ≤ m → Emits counting policy cs₀ cs₁ (path_at policy ws₀ n) b ws₀ ws₁ (ended m)
      taken-stopped g =
          let u = its-turn (stop-of m g) in
          subst (λ (e : Ended). Emits counting policy cs₀ cs₁ (path_at policy ws₀ n) b ws₀ ws₁ e) (sym (stop-of m g)) (to-emits (given-stopped clear comes a u.turned) (moved_then r.moved (turns-moved u)))

      module _ (g : m < 2) where
        to-status : {v : Bool} → emits (join_at policy p) (memory_of ws₁ (right_at policy p)).status (eqb m 1) ≡ v → emits (join_at policy p) (memory_of ws₁ (number_of (tree_at policy (right_at policy p)))).status (eqb m 1) ≡ v
        to-status e = ap (λ (j : ℕ). emits (join_at policy p) (memory_of ws₁ j).status (eqb m 1)) (number_at policy (right_at policy p)) ∙ e

        ascends-on : Ascends n p (p ∷ r.owed)
        ascends-on = more {p = p} {q = p} (omega arith) (omega (arith, lp, r.below)) (ascends-less (omega (arith, lp)) r.ascends)

        members-on : (fed' : ℕ) → fed' ≡ union fed (single p) → (q : ℕ) → has fed' q ≡ among q (p ∷ r.owed)
        unfolding among is_action
        members-on fed' e q =
            ap (λ (s : ℕ). has s q) e ∙ has-union fed (single p) q ∙ ap₂ (λ (u v : Bool). u || v) (r.members q) (has-single p q)
            ∙ on (leb p 63) (among q r.owed) (eqb p q) (eqb q p) (le-leb p 63 (omega (arith, lp, r.below, low h))) (eqb_swap p q)
          where
            on : (a b c d : Bool) → a ≡ true → c ≡ d → (b || (a && c)) ≡ (d || b)
            on a true c d x z = sym (or-true d)
            on a false c d x z = ap₂ (λ (u v : Bool). u && v) x z ∙ sym (or-false d)

        pub stays-there : emits (join_at policy p) (memory_of ws₁ (right_at policy p)).status (eqb m 1) ≡ false → (fed' : ℕ) → fed' ≡ union fed (single p) → Owing counting policy cs₀ cs₁ (path_at policy ws₀ n) b ws₀ ws₁ n p fed'
        stays-there e fed' ef =
            let u = its-turn (done-of m g) in
            let mv = moved_then r.moved (turns-moved u) in
            record {
              items = r.items ++ u.items;
              owed = p ∷ r.owed;
              owes = stays-in clear comes a u.turned (to-status e);
              ascends = ascends-on;
              members = λ q l. members-on fed' ef q;
              told = mv.told;
              keeps = mv.keeps;
              steps = mv.steps;
            }

        pub goes_further : emits (join_at policy p) (memory_of ws₁ (right_at policy p)).status (eqb m 1) ≡ true → (fed' : ℕ) → fed' ≡ union fed (single p) → Climbed counting policy cs₀ cs₁ b ws₀ ws₁ n p fed'
        goes_further e fed' ef =
            let u = its-turn (done-of m g) in record {
              items = r.items ++ u.items;
              owed = p ∷ r.owed;
              rising = lets_on comes a u.turned (to-status e);
              ascends = ascends-on;
              members = members-on fed' ef;
              below = omega (arith, lp, r.below);
              stands = at-taker.stands;
              moved = moved_then r.moved (turns-moved u);
            }

-- ---- and down again

-- the next of those that owe, by number
module _ {policy : Bytes} {ws₁ ws : Words} {n at fed : ℕ} {b : Action} {ws₀ : Words} (h : Stands policy ws₁ n) (kp : Keeps ws₁ ws) {counting : Bool} {cs₀ cs : List ℕ} (o : Owing counting policy cs₀ cs (path_at policy ws₁ n) b ws₀ ws n at fed) where
  -- this node owes nothing
  pub passes-by : has fed at ≡ false → Owing counting policy cs₀ cs (path_at policy ws₁ n) b ws₀ ws n (at + 1) fed
  unfolding among
  passes-by e = record {
    items = o.items;
    owed = o.owed;
    owes = o.owes;
    ascends = on o.owed o.ascends (sym (o.members at (omega arith)) ∙ e);
    members = λ q l. o.members q (omega (arith, l));
    told = o.told;
    keeps = o.keeps;
    steps = o.steps;
  }
    where
      on : (ns : List ℕ) → Ascends n at ns → among at ns ≡ false → Ascends n (at + 1) ns
      on [] none f = none
      on (q ∷ ns) (more a l c) f = more {p = at + 1} {q = q} (further (same_or_not at q)) l c
        where
          further : (at ≡ q) ⊎ (at ≡ q → ⊥) → at + 1 ≤ q
          further (inl z) = true-not-false (among-here z) f
            where
              among-here : at ≡ q → (eqb at q || among at ns) ≡ true
              among-here z = ap (λ (v : Bool). v || among at ns) (subst (λ (x : ℕ). eqb at x ≡ true) z (eqb_same at))
          further (inr z) = omega (arith, a, z)

  -- this node is the first of them
  module _ (e : has fed at ≡ true) where
    -- what was owed, with this node first
    record First : Type 0 where
      rest : List ℕ
      xs : List Item
      ys : List Item
      m₁ : Mem
      is : o.items ≡ xs ++ ys
      rising : Rising b (path_at policy ws₁ n) (memory_of ws₀) (as_feeder policy at ∷ path_at policy ws at) m₁ xs rest
      half : Half (as_feeder policy at) (path_at policy ws at) b m₁ (memory_of ws) ys
      ascends : Ascends n (at + 1) rest
      members : (q : ℕ) → at + 1 ≤ q → has fed q ≡ among q rest

    firstly : First
    unfolding among
    firstly = on o.items refl o.owed o.owes o.ascends o.members
      where
        head-is : {q : ℕ} {ns : List ℕ} → at ≤ q → Ascends n (suc q) ns → (eqb at q || among at ns) ≡ true → at ≡ q
        head-is {q} {ns} l c f = by (same_or_not at q)
          where
            none_of : (p : ℕ) (ks : List ℕ) → at < p → Ascends n p ks → among at ks ≡ false
            none_of p [] l none = refl
            none_of p (k ∷ ks) l (more a b d) = ap₂ (λ (u v : Bool). u || v) (ne_eqb at k (λ z. absurd (omega (arith, z, l, a)))) (none_of (suc k) ks (omega (arith, l, a)) d)

            by : (at ≡ q) ⊎ (at ≡ q → ⊥) → at ≡ q
            by (inl z) = z
            by (inr z) = absurd (true-not-false f (ap₂ (λ (u v : Bool). u || v) (ne_eqb at q z) (none_of (suc q) ns (omega (arith, l)) c)))

        on : (xs : List Item) → o.items ≡ xs → (ns : List ℕ) → Owes b (path_at policy ws₁ n) (memory_of ws₀) (memory_of ws) xs ns → Ascends n at ns → ((q : ℕ) → at ≤ q → has fed q ≡ among q ns) → First
        on xs ex [] w none me = absurd (true-not-false e (me at (omega arith)))
        on xs ex (q ∷ ns) (first {f = f} {gs = gs} {m₁ = m₁} {xs = us} {ys = vs} p z) (more a l c) me =
            let here = head-is a c (sym (me at (omega arith)) ∙ e) in
            let w = on-way h p in
            record {
              rest = ns;
              xs = us;
              ys = vs;
              m₁ = m₁;
              is = ex;
              rising = subst₂ (λ (g : Feeder) (hs : List Feeder). Rising b (path_at policy ws₁ n) (memory_of ws₀) (g ∷ hs) m₁ us ns) (w.is ∙ ap (as_feeder policy) (at-node w here)) (w.rest ∙ ap (path_at policy ws₁) (at-node w here) ∙ sym (path-same policy ws₁ ws kp.tables at)) p;
              half = subst₂ (λ (g : Feeder) (hs : List Feeder). Half g hs b m₁ (memory_of ws) vs) (w.is ∙ ap (as_feeder policy) (at-node w here)) (w.rest ∙ ap (path_at policy ws₁) (at-node w here) ∙ sym (path-same policy ws₁ ws kp.tables at)) z;
              ascends = subst (λ (x : ℕ). Ascends n x ns) (omega (arith, here)) c;
              members = λ k lk. me k (omega (arith, lk)) ∙ ap (λ (v : Bool). v || among k ns) (ne_eqb k f.number (λ q. absurd (omega (arith, q, here, lk))));
            }
          where
            at-node : (w : OnWay policy ws₁ n f gs) → at ≡ f.number → w.node ≡ at
            at-node w here = sym (here ∙ ap (λ (g : Feeder). g.number) w.is)

    module _ {ws₂ : Words} (q : ℕ) {cs₂ : List ℕ} (s : Settles counting policy cs cs₂ at ws ws₂ (ended q)) where
      moved_on : {x : Ended} → (u : Settles counting policy cs cs₂ at ws ws₂ x) → Moved counting policy cs₀ cs₂ ws₀ ws₂ (o.items ++ u.items)
      moved_on u = moved_then (record { told = o.told; keeps = o.keeps; steps = o.steps }) (record { told = u.told; keeps = u.keeps; steps = u.steps })

      -- it has done its part
      pub settles_on : q < 2 → Owing counting policy cs₀ cs₂ (path_at policy ws₁ n) b ws₀ ws₂ n (at + 1) fed
      settles_on g =
          let f = firstly in
          let u = subst (Settles counting policy cs cs₂ at ws ws₂) (done-of q g) s in
          let mv = moved_on u in
          record {
            items = o.items ++ u.items;
            owed = f.rest;
            owes = subst (λ (l : List Item). Owes b (path_at policy ws₁ n) (memory_of ws₀) (memory_of ws₂) (l ++ u.items) f.rest) (sym f.is) (u.settles (standing h).clear f.rising f.half);
            ascends = f.ascends;
            members = f.members;
            told = mv.told;
            keeps = mv.keeps;
            steps = mv.steps;
          }

      -- or a node above was decided
      pub settles-stop : 2 ≤ q → Emits counting policy cs₀ cs₂ (path_at policy ws₁ n) b ws₀ ws₂ (ended q)
      settles-stop g =
          let f = firstly in
          let u = subst (Settles counting policy cs cs₂ at ws ws₂) (stop-of q g) s in
          subst (λ (x : Ended). Emits counting policy cs₀ cs₂ (path_at policy ws₁ n) b ws₀ ws₂ x) (sym (stop-of q g))
          (to-emits (subst (λ (l : List Item). Rose (path_at policy ws₁ n) b (memory_of ws₀) (memory_of ws₂) (l ++ u.items) (stopped (q - 2))) (sym f.is) (u.settles (standing h).clear f.rising f.half)) (moved_on u))

-- nothing is owed any more
rose-quiet : {fs : List Feeder} {b : Action} {m m' : Mem} {xs : List Item} {u : Bool} → Rose fs b m m' xs (done u) → Rose fs b m m' xs (done false)
unfolding GoesOn is_stop
rose-quiet r = record { runs = λ c ec p. r.runs c ec p; kept = λ i z s. r.kept i z refl }

pub all_settled : {fs : List Feeder} {b : Action} {ws₀ ws : Words} {n at fed : ℕ} {counting : Bool} {policy : Bytes} {cs₀ cs : List ℕ} → n ≤ at → Owing counting policy cs₀ cs fs b ws₀ ws n at fed → Emits counting policy cs₀ cs fs b ws₀ ws (ended 0)
unfolding ended
all_settled {fs} {b} {ws₀} {ws} {n} {at} l o = to-emits (on o.items o.owed o.ascends o.owes) (record { told = o.told; keeps = o.keeps; steps = o.steps })
  where
    on : (xs : List Item) (ns : List ℕ) → Ascends n at ns → Owes b fs (memory_of ws₀) (memory_of ws) xs ns → Rose fs b (memory_of ws₀) (memory_of ws) xs (done false)
    on xs [] none (nothing r) = rose-quiet r
    on xs (q ∷ ns) (more a c d) w = absurd (omega (arith, l, a, c))

-- ---- both

-- the nodes that owe stand in the file
pub fed-stand : {policy : Bytes} {b : Action} {ws₀ ws : Words} {n top fed : ℕ} {counting : Bool} {cs₀ cs : List ℕ} → Stands policy ws₀ n → Owing counting policy cs₀ cs (path_at policy ws₀ n) b ws₀ ws n top fed
    → (k : ℕ) → top ≤ k → k < n → has fed k ≡ true → Feeds policy ws n k
fed-stand {policy} {ws = ws} {n} h o k lk ln e = feeds-on o.keeps (owing-feeds h k o.owes (sym (o.members k lk) ∙ e))

-- the way down, once the words have changed on the way up
pub all_the_way : {counting : Bool} {cs cs₁ cs₂ : List ℕ} (policy : Bytes) {b : Action} {ws ws₁ ws₂ : Words} {n top fed : ℕ} {x : Ended} → Owing counting policy cs cs₁ (path_at policy ws n) b ws ws₁ n top fed
    → (Owing counting policy cs cs₁ (path_at policy ws₁ n) b ws ws₁ n top fed → Emits counting policy cs cs₂ (path_at policy ws₁ n) b ws ws₂ x) → Emits counting policy cs cs₂ (path_at policy ws n) b ws ws₂ x
all_the_way {counting} {cs} {cs₁} {cs₂} policy {b} {ws} {ws₁} {ws₂} {n} {top} {fed} {x} o f =
    let e = path-same policy ws ws₁ o.keeps.tables n in
    subst (λ (fs : List Feeder). Emits counting policy cs cs₂ fs b ws ws₂ x) e (f (subst (λ (fs : List Feeder). Owing counting policy cs cs₁ fs b ws ws₁ n top fed) (sym e) o))

-- which node takes it next, as the code tells it
pub found_none : (policy : Bytes) (ws : Words) (i r : ℕ) (b : Action) → r ≡ 31 → Finds policy ws i b (ltb r 31) r → Skips b (memory_of ws) (path_at policy ws i) []
found_none policy ws i r b e f = subst (λ (x : ℕ). Finds policy ws i b (ltb x 31) x) e f

pub found_some : (policy : Bytes) (ws : Words) (i r : ℕ) (b : Action) → (r ≡ 31 → ⊥) → r ≤ 31 → Finds policy ws i b (ltb r 31) r → Finds policy ws i b true r
found_some policy ws i r b ne l f = subst (λ (v : Bool). Finds policy ws i b v r) (lt-ltb r 31 (omega (arith, ne, l))) f
