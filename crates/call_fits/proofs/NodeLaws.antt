-- Rule 12 of one node, its parent left aside, from what the code reads of its record.
use Prim.Native.Nat.{ℕ}
use mathlib.Core.Path.{◌≡◌, refl, sym, ap, ◌∙◌}
use mathlib.Core.Bool.{Bool, true, false, ◌&&◌, ◌||◌, not, beq}
use mathlib.Core.List.{List, [], ◌∷◌}
use lib.Dec.{eqb}
use borrow.Author.Tests.{ne_eqb, eq-eqb, eqb-true}
use Rattle.actions.specs.Sets.{ActionSet}
use Rattle.actions.proofs.Tests.{and-true, and_assoc, and_first, and_second}
use Rattle.spec_policy.specs.Bytes.{Bytes}
use Rattle.spec_policy.specs.Lists.{among}
use Rattle.spec_policy.specs.Steps.{Step}
use Rattle.spec_policy.specs.Tree.{Way, Join, and, or, Tree, leaf, trivial, unsatisfiable, node, number_of}
use Rattle.spec_turns.specs.Status.{status_of, is_running, has_ended, is_halted}
use Rattle.spec_turns.specs.Saved.{status_at, dropped_with, is_running_at, statuses, undecided, bare, waits_at, fits_under}
use Rattle.call_fits.specs.Alone.{fits_alone}
use Rattle.call_fits.proofs.StatusLaws.{or-three}
use Rattle.spec_turns.proofs.StatusLaws.{running-one}

-- ---- a node and its parent

same-as : (b : Bool) → beq b b ≡ true
same-as true = refl
same-as false = refl

module _ (bs : Bytes) where
  -- not dropped with its parent, or dropped without
  apart : (gone : Bool) (t : Tree) → beq (eqb (status_at bs (number_of t)) 6) gone ≡ false → fits_under gone t bs ≡ false
  unfolding fits_under number_of dropped_with
  apart gone (leaf i s c code) e = rw e
  apart gone (trivial i) e = rw e
  apart gone (unsatisfiable i) e = rw e
  apart gone (node w j i l r) e = rw e

  -- a node fits under a parent where it fits by itself and is dropped with the parent
  pub under : (gone : Bool) (t : Tree) → fits_under gone t bs ≡ (beq (eqb (status_at bs (number_of t)) 6) gone && fits_alone t bs)
  unfolding fits_alone
  under gone t = go (eqb (status_at bs (number_of t)) 6) gone refl
    where
      go : (d g : Bool) → eqb (status_at bs (number_of t)) 6 ≡ d → fits_under g t bs ≡ (beq (eqb (status_at bs (number_of t)) 6) g && fits_alone t bs)
      go true true e = rw e
      go false false e = rw e
      go true false e = apart false t (rw e) ∙ rw e
      go false true e = apart true t (rw e) ∙ rw e

-- ---- a leaf

module _ (bs : Bytes) (i : ℕ) (set : ActionSet) (start : ℕ) (code : List Step) (s : ℕ) (e : s ≡ status_at bs i) where
  abbrev w : Bool
  w = waits_at code start bs i

  -- by its status byte
  leaf-by : (beq (eqb s 6) (eqb s 6) && among s (1 ∷ 2 ∷ 5 ∷ 6 ∷ []) && elim (is_running (status_of s)) [ true ↦ w | false ↦ bare bs i ])
      ≡ fits_alone (leaf i set start code) bs
  unfolding fits_under fits_alone number_of dropped_with is_running_at
  leaf-by =
      ap (λ (x : ℕ). beq (eqb x 6) (eqb x 6) && among x (1 ∷ 2 ∷ 5 ∷ 6 ∷ []) && elim (is_running (status_of x)) [ true ↦ w | false ↦ bare bs i ]) e

  pub leaf-running : (b : Bool) → s ≡ 1 → b ≡ w → b ≡ fits_alone (leaf i set start code) bs
  unfolding among status_of is_running
  leaf-running b h f =
      f
      ∙ ap (λ (x : ℕ). beq (eqb x 6) (eqb x 6) && among x (1 ∷ 2 ∷ 5 ∷ 6 ∷ []) && elim (is_running (status_of x)) [ true ↦ w | false ↦ bare bs i ]) (sym h)
      ∙ leaf-by

  pub leaf-over : (b : Bool) → (s ≡ 1 → ⊥) → b ≡ bare bs i → ((eqb s 2 || eqb s 5 || eqb s 6) && b) ≡ fits_alone (leaf i set start code) bs
  unfolding among
  leaf-over b h f =
      let r : is_running (status_of s) ≡ false = sym (running-one s) ∙ ne_eqb s 1 h in
      let o : fits_alone (leaf i set start code) bs ≡ ((eqb s 2 || (eqb s 5 || (eqb s 6 || false))) && bare bs i) =
      sym (rw (same-as (eqb s 6), ne_eqb s 1 h, r) at leaf-by) in
      (λ k. or-three (eqb s 2) (eqb s 5) (eqb s 6) k && f k) ∙ sym o

-- ---- a trivial or unsatisfiable node

by_itself : (p q b : Bool) → ((p || q) && b) ≡ (beq q q && (p || (q || false)) && b)
by_itself true true b = refl
by_itself true false b = refl
by_itself false true b = refl
by_itself false false b = refl

module _ (bs : Bytes) (i s : ℕ) (e : s ≡ status_at bs i) (b : Bool) (f : b ≡ bare bs i) where
  -- o is the status that is not the dropped one
  constant_by : (o : ℕ) → ((eqb s o || eqb s 6) && b)
      ≡ (beq (eqb (status_at bs i) 6) (eqb (status_at bs i) 6) && among (status_at bs i) (o ∷ 6 ∷ []) && bare bs i)
  unfolding among
  constant_by o = (λ k. (eqb (e k) o || eqb (e k) 6) && f k) ∙ by_itself (eqb (status_at bs i) o) (eqb (status_at bs i) 6) (bare bs i)

  pub trivial-alone : {o : ℕ} → o ≡ 2 → ((eqb s o || eqb s 6) && b) ≡ fits_alone (trivial i) bs
  unfolding fits_under fits_alone number_of dropped_with
  trivial-alone h = ap (λ (o : ℕ). (eqb s o || eqb s 6) && b) h ∙ constant_by 2

  pub unsatisfiable-alone : {o : ℕ} → o ≡ 5 → ((eqb s o || eqb s 6) && b) ≡ fits_alone (unsatisfiable i) bs
  unfolding fits_under fits_alone number_of dropped_with
  unsatisfiable-alone h = ap (λ (o : ℕ). (eqb s o || eqb s 6) && b) h ∙ constant_by 5

-- ---- a pair

-- what a pair asks of its sides' status bytes
abbrev sides : Join → Bool → ℕ → ℕ → Bool
sides j running l r = (not running || undecided j (status_of l) (status_of r)) && beq (eqb l 6) (not running) && beq (eqb r 6) (not running)

not_same : (b : Bool) → not b ≡ beq b false
not_same true = refl
not_same false = refl

is_same : (b : Bool) → b ≡ beq b true
is_same true = refl
is_same false = refl

-- those of a node that runs, as the code tests them
abbrev running_sides : Join → ℕ → ℕ → Bool
running_sides j l r = undecided j (status_of l) (status_of r) && not (eqb l 6) && not (eqb r 6)

sides-running : (j : Join) (l r : ℕ) → running_sides j l r ≡ sides j true l r
sides-running j l r = λ k. undecided j (status_of l) (status_of r) && not_same (eqb l 6) k && not_same (eqb r 6) k

sides-over : (j : Join) (l r : ℕ) → (eqb l 6 && eqb r 6) ≡ sides j false l r
sides-over j l r = λ k. is_same (eqb l 6) k && is_same (eqb r 6) k

pub sides-run : (j : Join) (l r : ℕ) → (eqb l 1 && eqb r 1) ≡ true → (eqb l 1 && eqb r 1) ≡ running_sides j l r
unfolding undecided status_of is_halted has_ended
sides-run j l r e =
    let el : l ≡ 1 = eqb-true l 1 (and_first (eqb l 1) (eqb r 1) e) in
    let er : r ≡ 1 = eqb-true r 1 (and_second (eqb l 1) (eqb r 1) e) in
    e ∙ both j ∙ λ k. running_sides j (sym el k) (sym er k)
  where
    both : (j : Join) → true ≡ running_sides j 1 1
    both and = refl
    both or = refl

arranged : (e a b c l r x y : Bool) → e ≡ true → (a && b && (c && l && r) && x && y) ≡ (e && a && b && c && (l && x) && (r && y))
arranged e a b c l r x y h = by a b c l r x y ∙ ap (λ (q : Bool). q && a && b && c && (l && x) && (r && y)) (sym h)
  where
    by : (a b c l r x y : Bool) → (a && b && (c && l && r) && x && y) ≡ (a && b && c && (l && x) && (r && y))
    by false b c l r x y = refl
    by true false c l r x y = refl
    by true true false l r x y = refl
    by true true true false r x y = refl
    by true true true true true x y = refl
    by true true true true false true y = refl
    by true true true true false false y = refl

module _ (bs : Bytes) (j : Join) (i left right s a b : ℕ) (es : s ≡ status_at bs i) (ea : a ≡ status_at bs left) (eb : b ≡ status_at bs right) where
  module _ (st ba si x y : Bool) (est : st ≡ among s (statuses j)) (eba : ba ≡ bare bs i) (esi : si ≡ sides j (eqb s 1) a b) where
    pub pair-alone : (w : Way) (l r : Tree) → number_of l ≡ left → number_of r ≡ right → x ≡ fits_alone l bs → y ≡ fits_alone r bs
        → (st && ba && si && x && y) ≡ fits_alone (node w j i l r) bs
    unfolding fits_under fits_alone number_of dropped_with is_running_at
    pair-alone w l r nl nr ex ey =
        let la : a ≡ status_at bs (number_of l) = ea ∙ ap (status_at bs) (sym nl) in
        let rb : b ≡ status_at bs (number_of r) = eb ∙ ap (status_at bs) (sym nr) in
        let at : Bool = is_running (status_of (status_at bs i)) in
        let d : Bool = beq (eqb (status_at bs i) 6) (eqb (status_at bs i) 6) in
        let u : Bool = not at || undecided j (status_of (status_at bs (number_of l))) (status_of (status_at bs (number_of r))) in
        let run : eqb s 1 ≡ at = ap (λ (n : ℕ). eqb n 1) es ∙ running-one (status_at bs i) in
        (λ k. (est ∙ ap (λ (n : ℕ). among n (statuses j)) es) k && eba k && (esi ∙ λ h. sides j (run h) (la h) (rb h)) k && ex k && ey k)
        ∙ arranged d (among (status_at bs i) (statuses j)) (bare bs i) u (beq (eqb (status_at bs (number_of l)) 6) (not at))
        (beq (eqb (status_at bs (number_of r)) 6) (not at)) (fits_alone l bs) (fits_alone r bs) (same-as (eqb (status_at bs i) 6))
        ∙ λ k. d && among (status_at bs i) (statuses j) && bare bs i && u && sym (under bs (not at) l) k && sym (under bs (not at) r) k

-- ---- a pair, as the code goes through it

runs : (j : Join) → among 1 (statuses j) ≡ true
unfolding among statuses
runs and = refl
runs or = refl

module _ (bs : Bytes) (j : Join) (i left right s a b : ℕ) (es : s ≡ status_at bs i) (ea : a ≡ status_at bs left) (eb : b ≡ status_at bs right)
    (ba : Bool) (eba : ba ≡ bare bs i) (x y : Bool) where
  pub pair-laden : ba ≡ false → (w : Way) (l r : Tree) → number_of l ≡ left → number_of r ≡ right → x ≡ fits_alone l bs → y ≡ fits_alone r bs
      → false ≡ fits_alone (node w j i l r) bs
  pair-laden e w l r nl nr ex ey =
      sym (off (among s (statuses j))) ∙ pair-alone bs j i left right s a b es ea eb (among s (statuses j)) ba (sides j (eqb s 1) a b) x y refl eba refl w l r nl nr ex ey
    where
      off : (st : Bool) → (st && ba && sides j (eqb s 1) a b && x && y) ≡ false
      off true = ap (λ (t : Bool). t && sides j (eqb s 1) a b && x && y) e
      off false = refl

  module _ (full : ba ≡ true) where
    pub pair_runs : {si : Bool} → s ≡ 1 → si ≡ running_sides j a b → (w : Way) (l r : Tree) → number_of l ≡ left → number_of r ≡ right → x ≡ fits_alone l bs → y ≡ fits_alone r bs
        → (si && x && y) ≡ fits_alone (node w j i l r) bs
    pair_runs {si} e esi w l r nl nr ex ey =
        ap (λ (t : Bool). true && t && si && x && y) (sym full)
        ∙ pair-alone bs j i left right s a b es ea eb true ba si x y (sym (ap (λ (n : ℕ). among n (statuses j)) e ∙ runs j)) eba
        (esi ∙ sides-running j a b ∙ ap (λ (t : Bool). sides j t a b) (sym (eq-eqb s 1 e))) w l r nl nr ex ey

    pub pair-over : {st : Bool} → (s ≡ 1 → ⊥) → st ≡ among s (statuses j) → (w : Way) (l r : Tree) → number_of l ≡ left → number_of r ≡ right
        → x ≡ fits_alone l bs → y ≡ fits_alone r bs → (st && eqb a 6 && eqb b 6 && x && y) ≡ fits_alone (node w j i l r) bs
    pair-over {st} e est w l r nl nr ex ey =
        ap (λ (t : Bool). t && x && y) (sym (and_assoc st (eqb a 6) (eqb b 6)))
        ∙ ap (λ (t : Bool). t && (eqb a 6 && eqb b 6) && x && y) (sym (and-true st) ∙ ap (λ (t : Bool). st && t) (sym full))
        ∙ pair-alone bs j i left right s a b es ea eb st ba (eqb a 6 && eqb b 6) x y est eba (sides-over j a b ∙ ap (λ (t : Bool). sides j t a b) (sym (ne_eqb s 1 e)))
        w l r nl nr ex ey
