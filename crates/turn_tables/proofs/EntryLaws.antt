-- One entry of the tables: what is read back of it, and that the other words stay.
use Prim.Native.Nat.{ℕ, ◌+◌, ◌*◌, ◌<◌}
use native.Mathlib.Omega.{arith}
use mathlib.Core.Path.{◌≡◌, refl, sym, ◌∙◌, subst}
use mathlib.Core.Logic.{⊎_elim}
use lib.ListN.{length, get_or, set, length-set}
use lib.Seq.{get_or-set_same, get_or-set_other}
use Rattle.spec_policy.specs.Tree.{Way, parallel, sequential}
use Rattle.turn_paths.proofs.Frames.{same_or_not}
use Rattle.turn_memory.specs.Words.{Words, above_place, link_place, word_count}
use Rattle.turn_tables.specs.Tables.{set_at, above_at, feeder_at, first_at}
use Rattle.turn_tables.specs.Entries.{way_up, left_feeder, left_above, sides_up}

module _ (ws : Words) (i o a f : ℕ) where
  pub up-size : length (way_up ws i o a f) ≡ length ws
  unfolding way_up
  up-size = length-set (set ws (above_place + i) a) (link_place + i) (o * 256 + f) ∙ length-set ws (above_place + i) a

  up-other : (k : ℕ) → (k ≡ above_place + i → ⊥) → (k ≡ link_place + i → ⊥) → get_or (way_up ws i o a f) k 0 ≡ get_or ws k 0
  unfolding way_up
  up-other k x y =
      get_or-set_other (set ws (above_place + i) a) (link_place + i) k (o * 256 + f) 0 y ∙ get_or-set_other ws (above_place + i) k a 0 x

  pub up-low : (k : ℕ) → k < above_place → get_or (way_up ws i o a f) k 0 ≡ get_or ws k 0
  up-low k h = up-other k (λ z. omega arith) (λ z. omega arith)

  module _ (k : ℕ) (h : k < 31) (few : i < 31) (ne : k ≡ i → ⊥) where
    pub up-above-other : above_at (way_up ws i o a f) k ≡ above_at ws k
    up-above-other = up-other (above_place + k) (λ z. ne (omega arith)) (λ z. omega arith)

    pub up-link-other : get_or (way_up ws i o a f) (link_place + k) 0 ≡ get_or ws (link_place + k) 0
    up-link-other = up-other (link_place + k) (λ z. omega arith) (λ z. ne (omega arith))

  module _ (size : length ws ≡ word_count) (few : i < 31) where
    pub up_above : above_at (way_up ws i o a f) i ≡ a
    unfolding way_up
    up_above =
        get_or-set_other (set ws (above_place + i) a) (link_place + i) (above_place + i) (o * 256 + f) 0 (λ z. omega arith)
        ∙ get_or-set_same ws (above_place + i) a 0 (omega arith)

    link : get_or (way_up ws i o a f) (link_place + i) 0 ≡ o * 256 + f
    unfolding way_up
    link = get_or-set_same (set ws (above_place + i) a) (link_place + i) (o * 256 + f) 0 (omega (arith, length-set ws (above_place + i) a))

    pub up-feeder : f < 256 → feeder_at (way_up ws i o a f) i ≡ f
    up-feeder h = omega (arith, link)

    pub up_first : f < 256 → o < 65536 → first_at (way_up ws i o a f) i ≡ o
    up_first h g = omega (arith, link)

-- an entry beside the first step that is there
first-kept : (ws : Words) (i o a f : ℕ) → length ws ≡ word_count → i < 31 → f < 256 → o ≡ first_at ws i → (k : ℕ) → k < 31 → first_at (way_up ws i o a f) k ≡ first_at ws k
first-kept ws i o a f size few h e k g = ⊎_elim
    (λ z. subst (λ (x : ℕ). first_at (way_up ws i o a f) x ≡ first_at ws x) (sym z) (up_first ws i o a f size few h (omega arith) ∙ e))
    (λ ne. let q = up-link-other ws i o a f k g few ne in omega arith) (same_or_not k i)

-- ---- both sides of a node

pub record Sided (ws : Words) (i l r : ℕ) : Type 0 where
  pub size : length ws ≡ word_count
  pub node : i < 31
  pub left : l < 31
  pub right : r < 31
  pub two : l ≡ r → ⊥

module _ (w : Way) {ws : Words} {i l r : ℕ} (s : Sided ws i l r) where
  abbrev a : ℕ
  a = above_at ws i

  abbrev f : ℕ
  f = feeder_at ws i

  abbrev us : Words
  us = way_up ws r (first_at ws r) a f

  abbrev b : ℕ
  b = left_above w (set_at ws r) a

  abbrev g : ℕ
  g = left_feeder w i f

  -- the words with both entered
  abbrev ws' : Words
  ws' = sides_up w ws i l r

  small : (v : Way) → left_feeder v i f < 256
  unfolding left_feeder
  small parallel = omega arith
  small sequential = omega arith

  sized : length us ≡ word_count
  sized = up-size ws r (first_at ws r) a f ∙ s.size

  right-first : (k : ℕ) → k < 31 → first_at us k ≡ first_at ws k
  right-first = first-kept ws r (first_at ws r) a f s.size s.right (omega arith) refl

  pub sides-size : length ws' ≡ word_count
  unfolding sides_up
  sides-size = up-size us l (first_at ws l) b g ∙ sized

  pub sides-low : (k : ℕ) → k < above_place → get_or ws' k 0 ≡ get_or ws k 0
  unfolding sides_up
  sides-low k h = up-low us l (first_at ws l) b g k h ∙ up-low ws r (first_at ws r) a f k h

  pub sides_first : (k : ℕ) → k < 31 → first_at ws' k ≡ first_at ws k
  unfolding sides_up
  sides_first k h = first-kept us l (first_at ws l) b g sized s.left (small w) (sym (right-first l s.left)) k h ∙ right-first k h

  pub left-above : above_at ws' l ≡ b
  unfolding sides_up
  left-above = up_above us l (first_at ws l) b g sized s.left

  pub left-feeder : feeder_at ws' l ≡ g
  unfolding sides_up
  left-feeder = up-feeder us l (first_at ws l) b g sized s.left (small w)

  module _ (k : ℕ) (h : k < 31) (ne_left : k ≡ l → ⊥) where
    past-above : above_at ws' k ≡ above_at us k
    unfolding sides_up
    past-above = up-above-other us l (first_at ws l) b g k h s.left ne_left

    past-feeder : feeder_at ws' k ≡ feeder_at us k
    unfolding sides_up
    past-feeder = let e = up-link-other us l (first_at ws l) b g k h s.left ne_left in omega arith

    module _ (ne_right : k ≡ r → ⊥) where
      pub other-above : above_at ws' k ≡ above_at ws k
      other-above = past-above ∙ up-above-other ws r (first_at ws r) a f k h s.right ne_right

      pub other-feeder : feeder_at ws' k ≡ feeder_at ws k
      other-feeder = past-feeder ∙ (let e = up-link-other ws r (first_at ws r) a f k h s.right ne_right in omega arith)

  pub right-above : above_at ws' r ≡ a
  right-above = past-above r s.right (λ z. s.two (sym z)) ∙ up_above ws r (first_at ws r) a f s.size s.right

  pub right-feeder : feeder_at ws' r ≡ f
  right-feeder = past-feeder r s.right (λ z. s.two (sym z)) ∙ up-feeder ws r (first_at ws r) a f s.size s.right (omega arith)
