-- The first pass: the tables, filled from the last node down.
use Prim.Native.Nat.{ℕ, ◌+◌, ◌-◌, ◌≤◌, ◌<◌}
use native.Mathlib.Omega.{arith}
use native.Mathlib.Nat.{eq-or-lt_of_le}
use mathlib.Core.Path.{◌≡◌, refl, sym, ap, ◌∙◌, subst}
use mathlib.Core.Logic.{⊎_elim}
use lib.ListN.{length, get_or, set, length-set}
use lib.Seq.{get_or-set_same, get_or-set_other}
use Rattle.actions.specs.Sets.{EMPTY}
use Rattle.spec_policy.specs.Bytes.{Bytes}
use Rattle.spec_policy.specs.Records.{node_count, step_count, node_place, node_at}
use Rattle.spec_policy.specs.Tree.{steps_owned, first_step, tree_at, regulated}
use Rattle.spec_policy.proofs.NodeLaws.{first_next}
use Rattle.spec_check.specs.Passed.{Passed}
use Rattle.turn_memory.specs.Words.{Words, set_place, above_place, link_place, word_count}
use Rattle.turn_tables.specs.Tables.{set_at, Kept}
use Rattle.turn_tables.specs.Entries.{way_up, Fresh, Begun}
use Rattle.turn_tables.proofs.FileNodes.{room, steps_all}
use Rattle.turn_tables.proofs.EntryLaws.{up-size, up-low, up-above-other, up-link-other, up_above, up-feeder, up_first}

-- nodes from i on are entered, and the steps before them are still to be counted
pub record Filled (file : Bytes) (n m : ℕ) (ws₀ ws : Words) (i first : ℕ) : Type 0 where
  pub nodes : n ≡ node_count file
  pub below : i ≤ n
  pub few : n ≤ 31
  pub count : first ≡ first_step file i
  pub little : first ≤ 512
  pub kept : Kept ws₀ ws
  pub fresh : (k : ℕ) → i ≤ k → k < node_count file → Fresh file ws k

pub filled_none : {file : Bytes} {n m : ℕ} {ws : Words} → Passed file → n ≡ node_count file → m ≡ step_count file → length ws ≡ word_count → Filled file n m ws ws n m
filled_none {file} ok e f size =
    let r = room ok in
    record {
      nodes = e;
      below = omega arith;
      few = omega arith;
      count = f ∙ sym (steps_all ok) ∙ ap (first_step file) (sym e);
      little = omega arith;
      kept = (size, λ k h. refl);
      fresh = λ k g h. absurd (omega arith);
    }

module _ {file : Bytes} {n m : ℕ} {ws₀ ws : Words} {i first : ℕ} (g : Filled file n m ws₀ ws i first) (some : 0 < i) where
  -- the node before
  steps-left : first ≡ first_step file (i - 1) + steps_owned (node_at file (node_place (i - 1)))
  steps-left = let e : i ≡ i - 1 + 1 = omega arith in g.count ∙ ap (first_step file) e ∙ first_next file (i - 1) (omega (arith, g.nodes, g.below))

  pub steps-some : (o at : ℕ) → at ≡ node_place (i - 1) → o ≡ steps_owned (node_at file at) → o ≤ first
  steps-some o at p f = omega (arith, steps-left, f ∙ ap (λ (x : ℕ). steps_owned (node_at file x)) p)

  pub sets-later : (k : ℕ) → i - 1 < k → k < node_count file → set_at ws k ≡ regulated (tree_at file k)
  sets-later k a b = (g.fresh k (omega arith) b).entered.set

  module _ (s o : ℕ) where
    abbrev vs : Words
    vs = set ws (set_place + (i - 1)) s

    abbrev ws' : Words
    ws' = way_up vs (i - 1) o EMPTY 31

    node-few : i - 1 < 31
    node-few = omega (arith, g.few, g.below)

    sized : length vs ≡ word_count
    sized = length-set ws (set_place + (i - 1)) s ∙ g.kept.0

    new : s ≡ regulated (tree_at file (i - 1)) → o ≡ first_step file (i - 1) → o ≤ 512 → Fresh file ws' (i - 1)
    new e f h = record {
      entered = record {
        set =
            up-low vs (i - 1) o EMPTY 31 (set_place + (i - 1)) (omega (arith, node-few))
            ∙ get_or-set_same ws (set_place + (i - 1)) s 0 (omega (arith, node-few, g.kept.0)) ∙ e;
        first = up_first vs (i - 1) o EMPTY 31 sized node-few (omega arith) (omega arith) ∙ f;
      };
      above = up_above vs (i - 1) o EMPTY 31 sized node-few;
      feeder = up-feeder vs (i - 1) o EMPTY 31 sized node-few (omega arith);
    }

    module _ (k : ℕ) (later : i - 1 < k) (inside : k < node_count file) where
      k-few : k < 31
      k-few = omega (arith, g.few, g.nodes)

      old : Fresh file ws k
      old = g.fresh k (omega arith) inside

      same-link : get_or ws' (link_place + k) 0 ≡ get_or ws (link_place + k) 0
      same-link = up-link-other vs (i - 1) o EMPTY 31 k k-few node-few (λ z. omega arith)
          ∙ get_or-set_other ws (set_place + (i - 1)) (link_place + k) s 0 (λ z. omega (arith, node-few))

      as_before : Fresh file ws' k
      as_before = record {
        entered = record {
          set =
              up-low vs (i - 1) o EMPTY 31 (set_place + k) (omega (arith, k-few))
              ∙ get_or-set_other ws (set_place + (i - 1)) (set_place + k) s 0 (λ z. omega arith) ∙ old.entered.set;
          first = omega (arith, same-link, old.entered.first);
        };
        above =
            up-above-other vs (i - 1) o EMPTY 31 k k-few node-few (λ z. omega arith)
            ∙ get_or-set_other ws (set_place + (i - 1)) (above_place + k) s 0 (λ z. omega (arith, node-few)) ∙ old.above;
        feeder = omega (arith, same-link, old.feeder);
      }

    pub filled_more : (d at : ℕ) → s ≡ regulated (tree_at file (i - 1)) → at ≡ node_place (i - 1) → d ≡ steps_owned (node_at file at) → o ≡ first - d
        → {us : Words} → us ≡ ws' → Filled file n m ws₀ us (i - 1) o
    filled_more d at e p f q y =
        let c : o ≡ first_step file (i - 1) = omega (arith, steps-left, f ∙ ap (λ (x : ℕ). steps_owned (node_at file x)) p) in
        let t : o ≤ 512 = omega (arith, g.little) in
        subst (λ (us : Words). Filled file n m ws₀ us (i - 1) o) (sym y)
        (record {
          nodes = g.nodes;
          below = omega (arith, g.below);
          few = g.few;
          count = c;
          little = t;
          kept = (
            up-size vs (i - 1) o EMPTY 31 ∙ sized,
            λ k h. up-low vs (i - 1) o EMPTY 31 k (omega arith) ∙ get_or-set_other ws (set_place + (i - 1)) k s 0 (λ z. omega arith) ∙ g.kept.1 k h,
          );
          fresh = λ k u v. ⊎_elim (λ (w : i - 1 ≡ k). subst (λ (x : ℕ). Fresh file ws' x) w (new e c t)) (λ (w : i - 1 < k). as_before k w v) (eq-or-lt_of_le u);
        })

pub filled-all : {file : Bytes} {n m : ℕ} {ws₀ ws : Words} {i first : ℕ} → Filled file n m ws₀ ws i first → i ≤ 0 → Begun file ws₀ ws
filled-all g h = record { kept = g.kept; fresh = λ k b. g.fresh k (omega arith) b }
