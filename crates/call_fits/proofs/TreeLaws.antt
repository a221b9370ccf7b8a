-- What is known of the nodes from i on, and of the whole tree.
use Prim.Native.Nat.{ℕ, ◌-◌, ◌≤◌, ◌<◌}
use native.Mathlib.Omega.{arith}
use mathlib.Core.Path.{◌≡◌, refl, sym, ap, ◌∙◌, subst}
use mathlib.Core.Bool.{Bool, true, false, ◌&&◌, not, beq}
use mathlib.Core.List.{List}
use lib.Dec.{eqb}
use lib.ListN.{length, get_or, set}
use lib.Seq.{get_or-set_same, get_or-set_other}
use borrow.Author.Tests.{eqb-true, eqb-false}
use Rattle.spec_policy.specs.Bytes.{Bytes}
use Rattle.spec_policy.specs.Tree.{Tree, tree}
use Rattle.spec_check.proofs.Numbers.{tree-top, number_at}
use Rattle.spec_policy.specs.Tree.{tree_at}
use Rattle.spec_turns.specs.Saved.{status_at, fits_under}
use Rattle.call_fits.specs.Alone.{fits_alone}
use Rattle.call_fits.proofs.NodeLaws.{under}

-- of n nodes those from i on have their answers in `fit`
abbrev pub Known : Bytes → Bytes → ℕ → List Bool → ℕ → Type 0
Known file bs n fit i = (k : ℕ) → i ≤ k → k < n → get_or fit k false ≡ fits_alone (tree_at file k) bs

module _ (file bs : Bytes) (n : ℕ) where
  pub known_more : (fit : List Bool) (i : ℕ) (b : Bool) → 1 ≤ i → i - 1 < length fit → Known file bs n fit i → b ≡ fits_alone (tree_at file (i - 1)) bs
      → Known file bs n (set fit (i - 1) b) (i - 1)
  known_more fit i b p w h e k l m = go (eqb k (i - 1)) refl
    where
      go : (q : Bool) → eqb k (i - 1) ≡ q → get_or (set fit (i - 1) b) k false ≡ fits_alone (tree_at file k) bs
      go true u =
          let z : i - 1 ≡ k = sym (eqb-true k (i - 1) u) in
          subst (λ (x : ℕ). get_or (set fit (i - 1) b) x false ≡ fits_alone (tree_at file x) bs) z (get_or-set_same fit (i - 1) b false w ∙ e)
      go false u = let d : k ≡ i - 1 → ⊥ = eqb-false k (i - 1) u in get_or-set_other fit (i - 1) k b false d ∙ h k (omega arith) m

and-turn : (p q : Bool) → (p && not q) ≡ (beq q false && p)
and-turn true true = refl
and-turn true false = refl
and-turn false true = refl
and-turn false false = refl

-- the root, which no parent drops: s is its status byte, b whether it fits by itself
pub root : (file bs : Bytes) (b : Bool) (s : ℕ) → b ≡ fits_alone (tree_at file 0) bs → s ≡ status_at bs 0 → (b && not (eqb s 6)) ≡ fits_under false (tree file) bs
root file bs b s e f =
    and-turn b (eqb s 6)
    ∙ (λ k. beq (eqb ((f ∙ ap (status_at bs) (sym (number_at file 0))) k) 6) false && e k)
    ∙ sym (under bs false (tree_at file 0))
    ∙ ap (λ (t : Tree). fits_under false t bs) (sym (tree-top file))
