-- Inserts in their words: none, one more, and one after another.
use Prim.Native.Nat.{ℕ, zero, suc, ◌+◌, ◌*◌, ◌/◌, ◌%◌, ◌^◌, ◌≤◌, ◌<◌}
use native.Mathlib.Nat.{pow-le-pow_right, zero-lt-suc}
use native.Mathlib.Omega.{arith}
use mathlib.Core.Path.{◌≡◌, refl, sym, ap, ◌∙◌, subst}
use mathlib.Core.Bool.{Bool, true, false}
use mathlib.Core.Logic.{⊎_elim}
use mathlib.Core.List.{List, [], ◌∷◌, ◌++◌, append_assoc, append-nil}
use lib.Dec.{ltb}
use lib.ListN.{length, get_or, set, take, drop, length-append, length-drop, length-set, drop_of_length-le}
use lib.Seq.{take_all, drop-nil, drop-append-le, get_or-set_same, get_or-set_other}
use borrow.Author.Tests.{ltb-true, ltb-false}
use Rattle.actions.specs.Sets.{Action}
use Rattle.spec_policy.specs.Bytes.{spelt, number, Small}
use Rattle.spec_policy.proofs.ByteLaws.{small-drop, part-front, spelt-append, spelt-less}
use Rattle.turn_paths.proofs.Frames.{same_or_not}
use Rattle.turn_memory.specs.Words.{Words, count_place, told_place, set_place, word_count, told_count, pushed}
use Rattle.turn_memory.specs.Told.{Eights, Tells, Told}

-- ---- one more insert, in the eights

small-more : (es : List Action) (b : Action) → b < 256 → Small es → Small (es ++ (b ∷ []))
small-more [] b h s zero = h
small-more [] b h s (suc i) = omega arith
small-more (e ∷ es) b h s zero = s 0
small-more (e ∷ es) b h s (suc i) = small-more es b h (λ k. s (suc k)) i

-- an eight that is not full has room
pub eight-less : (es : List Action) (j : ℕ) → Small es → length es < 8 * j + 8 → number es (8 * j) 8 < 72057594037927936
unfolding number
eight-less es j s l =
    let e : length (drop (8 * j) es) ≤ 7 = simp length-drop (omega arith) in
    let p : 256 ^ length (drop (8 * j) es) ≤ 256 ^ 7 = pow-le-pow_right (zero-lt-suc 255) e in
    let q : spelt 0 (drop (8 * j) es) < 256 ^ length (drop (8 * j) es) = spelt-less (drop (8 * j) es) (small-drop (8 * j) es s) in
    rw (take_all 8 (drop (8 * j) es) (omega arith)) (omega arith)

module _ (es : List Action) (b : Action) (j : ℕ) where
  -- the eight that it goes into
  pub eight-more : 8 * j ≤ length es → length es < 8 * j + 8 → number (es ++ (b ∷ [])) (8 * j) 8 ≡ number es (8 * j) 8 * 256 + b
  unfolding number
  eight-more h l =
      let e : length (drop (8 * j) es) ≤ 7 = simp length-drop (omega arith) in
      ap (λ (xs : List Action). spelt 0 (take 8 xs)) (drop-append-le (8 * j) es (b ∷ []) h)
      ∙ ap (spelt 0) (take_all 8 (drop (8 * j) es ++ (b ∷ [])) (simp length-append (omega arith)))
      ∙ spelt-append 0 (drop (8 * j) es) (b ∷ [])
      ∙ unfold spelt in ap (λ (xs : List Action). spelt 0 xs * 256 + b) (sym (take_all 8 (drop (8 * j) es) (omega arith)))

  -- every other eight
  pub eight-other : (j ≡ length es / 8 → ⊥) → number (es ++ (b ∷ [])) (8 * j) 8 ≡ number es (8 * j) 8
  unfolding number
  eight-other d = by (ltb (length es) (8 * j)) refl
    where
      by : (p : Bool) → ltb (length es) (8 * j) ≡ p → spelt 0 (take 8 (drop (8 * j) (es ++ (b ∷ [])))) ≡ spelt 0 (take 8 (drop (8 * j) es))
      by true e =
          let h : length es < 8 * j = omega (arith, ltb-true (length es) (8 * j) e) in
          ap (λ (xs : List Action). spelt 0 (take 8 xs))
          (drop_of_length-le (es ++ (b ∷ [])) {i = 8 * j} (simp length-append (omega arith)) ∙ sym (drop_of_length-le es {i = 8 * j} (omega arith)))
      by false e =
          let h : 8 * j ≤ length es = omega (arith, ltb-false (length es) (8 * j) e) in
          let l : 8 * j + 8 ≤ length es = omega (arith, d) in
          ap (spelt 0) (part-front es (b ∷ []) (8 * j) 8 l)

-- ---- the laws

-- nothing was told
pub told_none : {ws ws' : Words} → ((k : ℕ) → count_place ≤ k → k < set_place → get_or ws' k 0 ≡ get_or ws k 0) → Told ws ws' []
told_none {ws} {ws'} h = record {
  more = λ es t room. subst (Tells ws') (sym (append-nil es)) (record {
    count = h count_place (omega arith) (omega arith) ∙ t.count;
    few = t.few;
    words = λ j l. h (told_place + j) (omega arith) (omega arith) ∙ t.words j l;
    small = t.small;
  });
}

-- some, and then some
pub told-then : {a b c : Words} {xs ys : List Action} → Told a b xs → Told b c ys → Told a c (xs ++ ys)
told-then {c = c} {xs} {ys} p q = record {
  more = λ es t room.
      let r : length es + (length xs + length ys) ≤ 255 = simp length-append at room in
      subst (Tells c) (append_assoc es xs ys) (q.more (es ++ xs) (p.more es t (omega arith)) (simp length-append (omega arith)));
}

-- before the first
pub tells_none : (ws : Words) → ((k : ℕ) → count_place ≤ k → k < set_place → get_or ws k 0 ≡ 0) → Tells ws []
tells_none ws h = record {
  count = h count_place (omega arith) (omega arith);
  few = omega arith;
  words = λ j l. h (told_place + j) (omega arith) (omega arith) ∙ sym (unfold number spelt in ap (λ (xs : List Action). spelt 0 (take 8 xs)) (drop-nil (8 * j)));
  small = λ i. omega arith;
}

-- one insert is let out
module _ (ws : Words) (b : Action) (hb : b < 256) (size : length ws ≡ word_count) where
  module _ (es : List Action) (t : Tells ws es) (room : length es + 1 ≤ 255) where
    -- the word that it goes into, and what becomes of it
    abbrev at : ℕ
    at = told_place + length es / 8

    abbrev word : ℕ
    word = get_or ws at 0 % 72057594037927936 * 256 + b

    pushed-is : pushed ws b ≡ set (set ws at word) count_place (length es + 1)
    unfolding pushed
    pushed-is =
        let e : told_count ws ≡ length es = omega (arith, t.count, t.few) in
        ap (λ (n : ℕ). set (set ws (told_place + n / 8) (get_or ws (told_place + n / 8) 0 % 72057594037927936 * 256 + b)) count_place (n + 1)) e

    word-is : word ≡ number (es ++ (b ∷ [])) (8 * (length es / 8)) 8
    word-is =
        let k : ℕ = length es / 8 in
        let w : get_or ws at 0 ≡ number es (8 * k) 8 = t.words k (omega (arith, t.few)) in
        let l : number es (8 * k) 8 < 72057594037927936 = eight-less es k t.small (omega arith) in
        omega (arith, eight-more es b k (omega arith) (omega arith))

    told-eights : Eights (set (set ws at word) count_place (length es + 1)) (es ++ (b ∷ []))
    told-eights j l =
        get_or-set_other (set ws at word) count_place (told_place + j) (length es + 1) 0 (λ e. omega arith) ∙ ⊎_elim
        (λ (e : j ≡ length es / 8). subst (λ (k : ℕ). get_or (set ws at word) (told_place + k) 0 ≡ number (es ++ (b ∷ [])) (8 * k) 8) (sym e)
        (get_or-set_same ws at word 0 (omega (arith, size, room)) ∙ word-is))
        (λ (d : j ≡ length es / 8 → ⊥). get_or-set_other ws at (told_place + j) word 0 (λ e. d (omega arith)) ∙ t.words j l ∙ sym (eight-other es b j d))
        (same_or_not j (length es / 8))

    told-one : Tells (pushed ws b) (es ++ (b ∷ []))
    told-one = subst (λ (xs : Words). Tells xs (es ++ (b ∷ []))) (sym pushed-is) (record {
      count = get_or-set_same (set ws at word) count_place (length es + 1) 0 (simp length-set (omega (arith, size))) ∙ sym (length-append es (b ∷ []));
      few = simp length-append (omega arith);
      words = told-eights;
      small = small-more es b hb t.small;
    })

  pub told-say : Told ws (pushed ws b) (b ∷ [])
  told-say = record { more = told-one }
