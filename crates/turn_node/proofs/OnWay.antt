-- The nodes that an insert from node n comes to are those of the file: each stands beneath the rest of the way.
use Prim.Native.Nat.{ℕ, ◌+◌, ◌≤◌, ◌<◌}
use native.Mathlib.Omega.{arith}
use mathlib.Core.Path.{◌≡◌, refl, sym, ap, ◌∙◌, subst}
use mathlib.Core.Bool.{Bool, true, false, ◌||◌}
use mathlib.Core.List.{List, [], ◌∷◌}
use lib.Dec.{ltb, eqb}
use borrow.Author.Tests.{ltb-true, eqb-true}
use Rattle.actions.specs.Sets.{Action}
use Rattle.actions.proofs.Tests.{true-not-false}
use Rattle.spec_policy.specs.Bytes.{Bytes}
use Rattle.spec_policy.specs.Lists.{among}
use Rattle.spec_turns.specs.Process.{Item}
use Rattle.turn_paths.specs.Memory.{Mem}
use Rattle.turn_paths.specs.Paths.{Feeder}
use Rattle.turn_paths.specs.Beneath.{size, ahead}
use Rattle.turn_paths.specs.Rising.{Rising, starts, passes, lets_on, Owes, nothing, first}
use Rattle.turn_memory.specs.Words.{Words}
use Rattle.turn_tables.specs.Tables.{feeder_at, as_feeder, risen, climb, path_at}
use Rattle.turn_place.specs.Places.{Stands, Sequential}
use Rattle.turn_node.specs.Turns.{Feeds}
use Rattle.turn_place.proofs.Ways.{path-next, up_from}
use Rattle.turn_place.proofs.SidePlaces.{right-lower-here}

-- the way up has come to beneath these nodes, which are those above some node
record From (policy : Bytes) (ws : Words) (n : ℕ) (gs : List Feeder) : Type 0 where
  node : ℕ
  fewer : ahead gs ≤ ahead (path_at policy ws n)
  rest : gs ≡ path_at policy ws node
  stands : Stands policy ws node

-- the next of them is node p
pub record OnWay (policy : Bytes) (ws : Words) (n : ℕ) (f : Feeder) (gs : List Feeder) : Type 0 where
  pub node : ℕ
  pub fewer : size f.right + ahead gs ≤ ahead (path_at policy ws n)
  pub is : f ≡ as_feeder policy node
  pub rest : gs ≡ path_at policy ws node
  pub stands : Stands policy ws node
  pub pair : Sequential policy node

head_or : Feeder → List Feeder → Feeder
head_or g [] = g
head_or g (f ∷ fs) = f

tail_of : List Feeder → List Feeder
tail_of [] = []
tail_of (f ∷ fs) = fs

is_some : List Feeder → Type 0
is_some [] = ⊥
is_some (f ∷ fs) = Unit {0}

-- a way up that is not empty has a next node
some_next : (policy : Bytes) (ws : Words) (i : ℕ) {f : Feeder} {gs : List Feeder} → f ∷ gs ≡ path_at policy ws i → feeder_at ws i < 31
unfolding climb risen is_some
some_next policy ws i {f} {gs} e = on (ltb (feeder_at ws i) 31) refl (subst is_some e tt)
  where
    on : (b : Bool) → ltb (feeder_at ws i) 31 ≡ b → is_some (risen b (as_feeder policy (feeder_at ws i)) (climb 30 policy ws (feeder_at ws i))) → feeder_at ws i < 31
    on true q h = ltb-true (feeder_at ws i) 31 q
    on false q h = absurd h

-- that node
pub feeds : {policy : Bytes} {ws : Words} {n : ℕ} {f : Feeder} {gs : List Feeder} (k : ℕ) → OnWay policy ws n f gs → k ≡ f.number → Feeds policy ws n k
feeds {policy} {ws} {n} {f} k o e =
    subst (λ (j : ℕ). Feeds policy ws n j) (sym (e ∙ ap (λ (g : Feeder). g.number) o.is)) (record {
      stands = o.stands;
      pair = o.pair;
      lower = right-lower-here o.stands o.pair;
      fewer = omega (arith, o.fewer, ap (λ (g : Feeder). size g.right) o.is, ap ahead o.rest);
    })

module _ {policy : Bytes} {ws : Words} where
  next_of : {f : Feeder} {gs : List Feeder} → {n : ℕ} → From policy ws n (f ∷ gs) → OnWay policy ws n f gs
  unfolding head_or tail_of ahead
  next_of {f} {gs} h =
      let l = some_next policy ws h.node h.rest in
      let u = up_from h.stands l in
      let e : f ∷ gs ≡ as_feeder policy (feeder_at ws h.node) ∷ path_at policy ws (feeder_at ws h.node) = h.rest ∙ path-next h.stands.passed h.stands.tabled.linked h.stands.inside l in
      record { node = feeder_at ws h.node; fewer = omega (arith, h.fewer); is = ap (head_or f) e; rest = ap tail_of e; stands = u.stands; pair = u.pair }

  from_next : {n : ℕ} {f : Feeder} {gs : List Feeder} → OnWay policy ws n f gs → From policy ws n gs
  from_next o = record { node = o.node; fewer = omega (arith, o.fewer); rest = o.rest; stands = o.stands }

  module _ {n : ℕ} (h : Stands policy ws n) {b : Action} {m₀ : Mem} where
    from : {gs : List Feeder} {m : Mem} {xs : List Item} {ns : List ℕ} → Rising b (path_at policy ws n) m₀ gs m xs ns → From policy ws n gs
    from starts = record { node = n; fewer = omega arith; rest = refl; stands = h }
    from (passes p a) = from_next (next_of (from p))
    from (lets_on p a t e) = from_next (next_of (from p))

    pub on-way : {f : Feeder} {gs : List Feeder} {m : Mem} {xs : List Item} {ns : List ℕ} → Rising b (path_at policy ws n) m₀ (f ∷ gs) m xs ns → OnWay policy ws n f gs
    on-way p = next_of (from p)

    -- each of those that have let it on
    pub let-on-feeds : {gs : List Feeder} {m : Mem} {xs : List Item} {ns : List ℕ} (k : ℕ) → Rising b (path_at policy ws n) m₀ gs m xs ns → among k ns ≡ true
        → Feeds policy ws n k
    unfolding among
    let-on-feeds k starts e = absurd (true-not-false e refl)
    let-on-feeds k (passes p a) e = let-on-feeds k p e
    let-on-feeds k (lets_on {f = f} {ns = ns} p a t d) e = on (λ z. let-on-feeds k p z) (eqb k f.number) refl e
      where
        on : (among k ns ≡ true → Feeds policy ws n k) → (v : Bool) → eqb k f.number ≡ v → (v || among k ns) ≡ true → Feeds policy ws n k
        on rec true q z = feeds k (on-way p) (eqb-true k f.number q)
        on rec false q z = rec z

    pub owing-feeds : {m : Mem} {xs : List Item} {ns : List ℕ} (k : ℕ) → Owes b (path_at policy ws n) m₀ m xs ns → among k ns ≡ true → Feeds policy ws n k
    unfolding among
    owing-feeds k (nothing r) e = absurd (true-not-false e refl)
    owing-feeds k (first {f = f} {ns = ns} p h) e = on (eqb k f.number) refl e
      where
        on : (v : Bool) → eqb k f.number ≡ v → (v || among k ns) ≡ true → Feeds policy ws n k
        on true q z = feeds k (on-way p) (eqb-true k f.number q)
        on false q z = let-on-feeds k p z
