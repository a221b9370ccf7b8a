-- A leaf's phase: up to an insert, the insert's way, and on to the phase's end.
use Prim.Native.Nat.{ℕ, zero, suc, ◌-◌, ◌≤◌, ◌<◌}
use native.Mathlib.Omega.{arith}
use mathlib.Core.Path.{◌≡◌, refl, sym, ap, ◌∙◌, subst}
use mathlib.Core.Bool.{Bool, true, false}
use mathlib.Core.List.{List, [], ◌∷◌, ◌++◌}
use mir.Val.{bool_byte}
use Rattle.actions.specs.Sets.{Action}
use Rattle.actions.proofs.Tests.{true-not-false}
use Rattle.spec_policy.specs.Bytes.{Bytes}
use Rattle.spec_policy.specs.Tree.{aLeaf, Tree, tree_at}
use Rattle.spec_check.specs.Lawful.{holds}
use Rattle.spec_check.proofs.Numbers.{number_at}
use Rattle.spec_turns.specs.Process.{Item, lets}
use Rattle.spec_turns.specs.Turn.{Phase}
use Rattle.turn_paths.specs.Run.{Run, halts, goes, first}
use Rattle.turn_paths.specs.Memory.{Mem, held, ran_of}
use Rattle.turn_paths.specs.Paths.{Feeder, Outside, feeders, within, Shows, rights, Ended, done, is_stop, GoesOn}
use Rattle.turn_paths.proofs.Frames.{own-number, held-apart}
use Rattle.turn_paths.proofs.PathLaws.{shows_same, shows_then, shows-as, shows-from, shows-silent, within_same, stops-map}
use Rattle.turn_memory.specs.Words.{Words, memory_of, Only}
use Rattle.turn_memory.proofs.CellLaws.{view-only}
use Rattle.turn_sides.specs.Sides.{kind_at}
use Rattle.turn_tables.specs.Tables.{path_at}
use Rattle.turn_tables.proofs.TableLaws.{path-same}
use Rattle.turn_tables.proofs.FileNodes.{tree-leaf}
use Rattle.turn_ends.specs.Ends.{ended}
use Rattle.turn_leaf.specs.Leaf.{onward}
use Rattle.turn_leaf.specs.declared.Progress.{Progress}
use Rattle.turn_leaf.specs.declared.Progress.TheVariants.{Insert}
use Rattle.turn_place.specs.Places.{Stands, leaf_run, Begun, came_to, WentOn}
use Rattle.turn_place.proofs.LeafPlaces.{low}
use Rattle.turn_place.proofs.SidePlaces.{standing}
use Rattle.turn_node.specs.Turns.{Turns, TurnsAt, Emits}
use Rattle.turn_node.proofs.Parts.{stop-of, done-of, Moved, moved_none, moved_then, moved-quiet, emits-moved, to-turns}

-- ---- what is left of a run

unfoldable pub items_left : Run → ℕ
items_left (halts x) = zero
items_left (goes i p) = suc (items_left p)

left-first : (xs : List Item) (p : Run) → items_left p ≤ items_left (first xs p)
unfolding items_left first
left-first [] p = omega arith
left-first (x ∷ xs) p = omega (arith, left-first xs p)

-- each insert takes one
pub insert-takes : {policy : Bytes} {i : ℕ} {ph : Phase} {ws ws' : Words} {b : Action} {counting : Bool} {cs cs' : List ℕ} → WentOn counting policy cs cs' i ph ws ws' (Insert b)
    → items_left (leaf_run (tree_at policy i) ph (memory_of ws')) < items_left (leaf_run (tree_at policy i) ph (memory_of ws))
unfolding items_left
insert-takes {policy} {i} {ph} {ws} {ws'} {b} w =
    omega (arith, left-first w.gives.items (goes (lets b) (leaf_run (tree_at policy i) ph (memory_of ws'))), ap items_left w.gives.is)

-- ---- from one place to another

-- from where p is left the leaf has come to where q is, with these items
pub record Reaches (counting : Bool) (policy : Bytes) (cs cs' : List ℕ) (i : ℕ) (ws ws' : Words) (p q : Run) : Type 0 where
  pub items : List Item
  pub runs : (c : Outside) → feeders c ≡ path_at policy ws i → Shows (within c (memory_of ws) p) items (within c (memory_of ws') q)
  pub kept : (n : ℕ) → holds (tree_at policy i) n ≡ false → rights (path_at policy ws i) n ≡ false → memory_of ws' n ≡ memory_of ws n
  pub moved : Moved counting policy cs cs' ws ws' items

module _ {policy : Bytes} {ws : Words} {i : ℕ} (h : Stands policy ws i) where
  own : holds (tree_at policy i) i ≡ true
  own = subst (λ (n : ℕ). holds (tree_at policy i) n ≡ true) (number_at policy i) (own-number (tree_at policy i))

  not_right : rights (path_at policy ws i) i ≡ false
  not_right = (standing h).apart.rights i own

  -- a write of the leaf's cell
  pub own-write : {ws₁ ws₂ : Words} → Only i ws₁ ws₂ → (c : Outside) → feeders c ≡ path_at policy ws i → (p : Run) → within c (memory_of ws₂) p ≡ within c (memory_of ws₁) p
  own-write {ws₁} {ws₂} o c ec p =
      within_same c (memory_of ws₁) (memory_of ws₂)
      (λ n e. view-only o n (λ q. true-not-false (subst (λ (gs : List Feeder). rights gs n ≡ true) ec e) (subst (λ (m : ℕ). rights (path_at policy ws i) m ≡ false) (sym q) not_right))) p

  pub own-kept : {ws₁ ws₂ : Words} → Only i ws₁ ws₂ → (n : ℕ) → holds (tree_at policy i) n ≡ false → memory_of ws₂ n ≡ memory_of ws₁ n
  own-kept o n e = view-only o n (λ q. held-apart (tree_at policy i) own e (sym q))

  pub stays : {p : Run} {counting : Bool} {cs : List ℕ} → Reaches counting policy cs cs i ws ws p p
  stays = record { items = []; runs = λ c ec. shows_same refl; kept = λ n e r. refl; moved = moved_none }

  pub reaches_then : {p q r : Run} {ws₁ ws₂ : Words} {counting : Bool} {cs cs₁ cs₂ : List ℕ} → Reaches counting policy cs cs₁ i ws ws₁ p q → Reaches counting policy cs₁ cs₂ i ws₁ ws₂ q r → Reaches counting policy cs cs₂ i ws ws₂ p r
  reaches_then {ws₁ = ws₁} f g =
      let e = path-same policy ws ws₁ f.moved.keeps.tables i in record {
        items = f.items ++ g.items;
        runs = λ c ec. shows_then (f.runs c ec) (g.runs c (ec ∙ sym e));
        kept = λ n o z. g.kept n o (ap (λ (fs : List Feeder). rights fs n) e ∙ z) ∙ f.kept n o z;
        moved = moved_then f.moved g.moved;
      }

  module _ (ph : Phase) where
    pub begun : {ws₁ : Words} {counting : Bool} {cs cs₁ : List ℕ} → Begun counting policy cs cs₁ i ph ws ws₁ → Reaches counting policy cs cs₁ i ws ws₁ (ran_of (tree_at policy i) ph (held (tree_at policy i) (memory_of ws))) (leaf_run (tree_at policy i) ph (memory_of ws₁))
    begun {ws₁} b = record {
      items = b.begun.items;
      runs = λ c ec. shows-as (shows-from (ap (within c (memory_of ws)) b.begun.is) (shows-silent c (memory_of ws) b.begun.items b.begun.quiet _)) (sym (own-write b.only c ec _));
      kept = λ n e r. own-kept b.only n e;
      moved = moved-quiet (low h) b.only b.begun.quiet b.begun.steps;
    }

    module _ {ws₁ : Words} where
      pub went : {p : Run} {counting : Bool} {cs cs₁ cs₂ : List ℕ} → Reaches counting policy cs cs₁ i ws ws₁ p (leaf_run (tree_at policy i) ph (memory_of ws₁)) → {ws₂ : Words} (x : Progress) → WentOn counting policy cs₁ cs₂ i ph ws₁ ws₂ x
          → Reaches counting policy cs cs₂ i ws ws₂ p (came_to (tree_at policy i) ph ws₂ x)
      went g {ws₂} x w = record {
        items = g.items ++ w.gives.items;
        runs = λ c ec. shows-as (shows_then (g.runs c ec) (shows-from (ap (within c (memory_of ws₁)) w.gives.is) (shows-silent c (memory_of ws₁) w.gives.items w.gives.quiet _)))
            (sym (own-write w.only c ec _));
        kept = λ n e r. own-kept w.only n e ∙ g.kept n e r;
        moved = moved_then g.moved (moved-quiet (low h) w.only w.gives.quiet w.gives.steps);
      }

      -- its phase is over
      pub leaf-ends : {u : Bool} {counting : Bool} {cs cs₁ : List ℕ} → Reaches counting policy cs cs₁ i ws ws₁ (ran_of (tree_at policy i) ph (held (tree_at policy i) (memory_of ws))) (halts (record { state = held (tree_at policy i) (memory_of ws₁); suppressed = u })) → (r : ℕ) → ended r ≡ done u → TurnsAt counting policy cs cs₁ i ph ws ws₁ r
      unfolding GoesOn
      leaf-ends {u} {counting} {cs} {cs₁} g r e = subst (λ (x : Ended). Turns counting policy cs cs₁ (path_at policy ws i) (tree_at policy i) ph ws ws₁ x) (sym e)
          (to-turns (record { runs = λ c ec. g.runs c ec; kept = λ n o q s. g.kept n o q }) g.moved)

      -- its insert goes its way
      module _ {b : Action} {p q : Run} {counting : Bool} {cs cs₁ cs₂ : List ℕ} (g : Reaches counting policy cs cs₁ i ws ws₁ p (goes (lets b) q)) {ws₂ : Words} (r : ℕ) (m : Emits counting policy cs₁ cs₂ (path_at policy ws₁ i) b ws₁ ws₂ (ended r)) where
        as-emits : {x : Ended} → ended r ≡ x → Emits counting policy cs₁ cs₂ (path_at policy ws i) b ws₁ ws₂ x
        as-emits {x} e = subst (λ (y : Ended). Emits counting policy cs₁ cs₂ (path_at policy ws i) b ws₁ ws₂ y) e (subst (λ (fs : List Feeder). Emits counting policy cs₁ cs₂ fs b ws₁ ws₂ (ended r)) (path-same policy ws ws₁ g.moved.keeps.tables i) m)

        pub insert-stopped : p ≡ ran_of (tree_at policy i) ph (held (tree_at policy i) (memory_of ws)) → 2 ≤ r → TurnsAt counting policy cs cs₂ i ph ws ws₂ r
        unfolding GoesOn
        insert-stopped ep l =
            let e = as-emits (stop-of r l) in
            subst (λ (x : Ended). Turns counting policy cs cs₂ (path_at policy ws i) (tree_at policy i) ph ws ws₂ x) (sym (stop-of r l))
            (to-turns (record {
              runs = λ c ec. stops-map (r - 2) c (memory_of ws₂) _ _ (λ v y. shows_then (shows-from (ap (within c (memory_of ws)) (sym ep)) (g.runs c ec)) y) (e.rose.runs c ec q);
              kept = λ n o z s. e.rose.kept n z s ∙ g.kept n o z;
            }) (moved_then g.moved (emits-moved e)))

        pub insert-through : r < 2 → Reaches counting policy cs cs₂ i ws ws₂ p q
        unfolding GoesOn is_stop
        insert-through l =
            let e = as-emits (done-of r l) in record {
              items = g.items ++ e.items;
              runs = λ c ec. shows_then (g.runs c ec) (e.rose.runs c ec q);
              kept = λ n o z. e.rose.kept n z refl ∙ g.kept n o z;
              moved = moved_then g.moved (emits-moved e);
            }

        -- and the leaf stands where it was
        pub insert-leaves : r < 2 → memory_of ws₂ i ≡ memory_of ws₁ i
        unfolding is_stop
        insert-leaves l = (as-emits (done-of r l)).rose.kept i not_right refl

    -- a leaf goes on by its cell alone
    pub leaf-same : kind_at policy i ≡ aLeaf → (m m' : Mem) → m' i ≡ m i → leaf_run (tree_at policy i) ph m' ≡ leaf_run (tree_at policy i) ph m
    unfolding leaf_run kind_at
    leaf-same k m m' e = subst (λ (t : Tree). leaf_run t ph m' ≡ leaf_run t ph m) (sym (tree-leaf h.passed i h.inside k)) (ap (onward i _ ph) e)

    -- and there is less of its run left
    pub insert-less : {counting : Bool} {cs cs₁ cs₂ cs₃ : List ℕ} → kind_at policy i ≡ aLeaf → {p : Run} {ws₁ ws₂ ws₃ : Words} {b : Action} → Reaches counting policy cs cs₁ i ws ws₁ p (leaf_run (tree_at policy i) ph (memory_of ws₁)) → WentOn counting policy cs₁ cs₂ i ph ws₁ ws₂ (Insert b)
        → (r : ℕ) → Emits counting policy cs₂ cs₃ (path_at policy ws₂ i) b ws₂ ws₃ (ended r) → r < 2 → items_left (leaf_run (tree_at policy i) ph (memory_of ws₃)) < items_left (leaf_run (tree_at policy i) ph (memory_of ws₁))
    insert-less k {ws₁ = ws₁} {ws₂} {ws₃} g w r m l =
        omega (arith, insert-takes w, ap items_left (leaf-same k (memory_of ws₂) (memory_of ws₃) (insert-leaves (went g _ w) r m l)))

-- a phase's end as the code returns it
pub byte-ended : (u : Bool) → ended (bool_byte u) ≡ done u
unfolding ended
byte-ended true = refl
byte-ended false = refl
