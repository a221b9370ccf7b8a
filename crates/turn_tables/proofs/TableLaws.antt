-- The tables as the turn uses them: they are the words from their own place on, and an insert that no set above has is taken by no right side
-- on its way up.
use Prim.Native.Nat.{ℕ, zero, suc, ◌+◌, ◌%◌, ◌≤◌, ◌<◌}
use native.Mathlib.Omega.{arith}
use native.Mathlib.Nat.{eq-or-lt_of_le}
use mathlib.Core.Path.{◌≡◌, refl, sym, ap, ap₂, ◌∙◌, subst}
use mathlib.Core.Logic.{⊎_elim}
use mathlib.Core.Bool.{Bool, true, false, ◌||◌}
use lib.Dec.{ltb, ltb→lt}
use lib.ListN.{get_or}
use Rattle.actions.specs.Sets.{Action, union, has}
use Rattle.actions.proofs.SetLaws.{has-empty, has-union}
use Rattle.actions.proofs.Tests.{of-yes, or-false-left, or-false-right, true-not-false}
use Rattle.spec_policy.specs.Bytes.{Bytes}
use Rattle.spec_policy.specs.Records.{node_count}
use Rattle.spec_policy.specs.Tree.{sequential, aPair, tree_at, regulated}
use Rattle.turn_sides.specs.Sides.{kind_at, right_at, join_at}
use Rattle.turn_memory.specs.Words.{Words, set_place, link_place}
use Rattle.turn_tables.specs.Tables.{above_at, feeder_at, as_feeder, Linked, Tabled, risen, climb, path_at, Passes}

-- ---- words that differ below the tables only

module _ (file : Bytes) (ws ws' : Words) (same : (k : ℕ) → set_place ≤ k → get_or ws' k 0 ≡ get_or ws k 0) where
  same-link : (i : ℕ) → get_or ws' (link_place + i) 0 ≡ get_or ws (link_place + i) 0
  same-link i = same (link_place + i) (omega arith)

  pub feeder-same : (i : ℕ) → feeder_at ws' i ≡ feeder_at ws i
  feeder-same i = ap (λ (x : ℕ). x % 256) (same-link i)

  pub above_same : (i : ℕ) → above_at ws' i ≡ above_at ws i
  above_same i = same _ (omega arith)

  linked-same : Linked file ws → Linked file ws'
  linked-same t = record {
    right = λ i h w e. feeder-same (right_at file i) ∙ t.right i h w e ∙ sym (feeder-same i);
    left-parallel = λ i h e. feeder-same _ ∙ t.left-parallel i h e ∙ sym (feeder-same i);
    left-sequential = λ i h e. feeder-same _ ∙ t.left-sequential i h e;
    most = λ i h. omega (arith, feeder-same i, t.most i h);
    down = λ i h k. let e = feeder-same i in omega (arith, t.down i h (omega arith));
    pair = λ i h k. let e = feeder-same i in
        subst (λ (x : ℕ). kind_at file x ≡ aPair sequential (join_at file x)) (sym e) (t.pair i h (omega arith));
    root = feeder-same 0 ∙ t.root;
    none = λ i h k. above_same i ∙ t.none i h (sym (feeder-same i) ∙ k);
    some = λ i h k. let e = feeder-same i in
        above_same i ∙ t.some i h (omega arith)
        ∙ ap₂ (λ (x y : ℕ). union (regulated (tree_at file (right_at file x))) y) (sym e) (sym (above_same (feeder_at ws' i) ∙ ap (above_at ws) e));
  }

  pub tabled-same : Tabled file ws → Tabled file ws'
  tabled-same t = record {
    entered = λ k h. record { set = same (set_place + k) (omega arith) ∙ (t.entered k h).set; first = omega (arith, same-link k, (t.entered k h).first) };
    linked = linked-same t.linked;
  }

  climb-same : (n i : ℕ) → climb n file ws' i ≡ climb n file ws i
  unfolding climb risen
  climb-same zero i = refl
  climb-same (suc n) i =
      ap (λ (x : ℕ). risen (ltb x 31) (as_feeder file x) (climb n file ws' x)) (feeder-same i)
      ∙ ap (risen (ltb (feeder_at ws i) 31) (as_feeder file (feeder_at ws i))) (climb-same n (feeder_at ws i))

  pub path-same : (i : ℕ) → path_at file ws' i ≡ path_at file ws i
  path-same i = climb-same 31 i

-- ---- an insert's way up

module _ {file : Bytes} {ws : Words} (t : Linked file ws) (b : Action) where
  above-here : (i : ℕ) → i < node_count file → feeder_at ws i < 31
      → has (above_at ws i) b ≡ (has (regulated (tree_at file (right_at file (feeder_at ws i)))) b || has (above_at ws (feeder_at ws i)) b)
  above-here i h k = ap (λ (s : ℕ). has s b) (t.some i h k) ∙ has-union _ _ b

  climb-none : (n i : ℕ) → i < node_count file → has (above_at ws i) b ≡ false → Passes b (climb n file ws i)
  unfolding climb risen Passes
  climb-none zero i h e = tt
  climb-none (suc n) i h e = by (ltb (feeder_at ws i) 31) refl (climb-none n (feeder_at ws i))
    where
      by : (c : Bool) → ltb (feeder_at ws i) 31 ≡ c
          → (feeder_at ws i < node_count file → has (above_at ws (feeder_at ws i)) b ≡ false → Passes b (climb n file ws (feeder_at ws i)))
          → Passes b (risen c (as_feeder file (feeder_at ws i)) (climb n file ws (feeder_at ws i)))
      by true z rest =
          let k : feeder_at ws i < 31 = ltb→lt (feeder_at ws i) 31 (of-yes (ltb (feeder_at ws i) 31) z) in
          let x : Bool = has (regulated (tree_at file (right_at file (feeder_at ws i)))) b in
          let y : Bool = has (above_at ws (feeder_at ws i)) b in
          let o : (x || y) ≡ false = sym (above-here i h k) ∙ e in
          (or-false-left x y o, rest (omega (arith, t.down i h k)) (or-false-right x y o))
      by false z rest = tt

  -- the right sides on the way up regulate nothing that the set above has not
  pub none_above : (i : ℕ) → i < node_count file → has (above_at ws i) b ≡ false → Passes b (path_at file ws i)
  none_above i h e = climb-none 31 i h e

  -- an action of the set above has a node on the way up
  pub some-above : (i : ℕ) → i < node_count file → has (above_at ws i) b ≡ true → feeder_at ws i < 31
  some-above i h e = ⊎_elim (λ z. true-not-false e (ap (λ (s : ℕ). has s b) (t.none i h z) ∙ has-empty b)) (λ k. k) (eq-or-lt_of_le (t.most i h))
