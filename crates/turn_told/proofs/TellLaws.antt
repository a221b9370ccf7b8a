-- Inserts taken out of their words, the last one first, and written as events.
use Prim.Native.Nat.{ℕ, suc, ◌+◌, ◌-◌, ◌*◌, ◌/◌, ◌%◌, ◌≤◌, ◌<◌}
use native.Mathlib.Omega.{arith}
use mathlib.Core.Path.{◌≡◌, refl, sym, ap, ap₂, ◌∙◌, subst}
use mathlib.Core.Logic.{⊎_elim}
use mathlib.Core.List.{List, [], ◌∷◌, ◌++◌, map}
use lib.ListN.{length, get_or, set, take, drop, length-set, length-drop, length-map}
use lib.Seq.{sets, take-suc, take_all, drop-cons, drop-length, length-take-le, set_comm, get_or-set_same, get_or-set_other}
use Rattle.actions.specs.Sets.{Action}
use Rattle.spec_policy.specs.Bytes.{Bytes, number, put}
use Rattle.spec_policy.proofs.ByteLaws.{put-sets, put-none}
use Rattle.spec_turns.specs.Events.{inserted, event_bytes}
use Rattle.laws_turns.proofs.Bounds.{two-each}
use Rattle.turn_paths.proofs.Frames.{same_or_not}
use Rattle.turn_memory.specs.Words.{Words, count_place, told_place, word_count}
use Rattle.turn_memory.specs.Told.{Eights, Tells}
use Rattle.turn_memory.proofs.ToldLaws.{eight-more, eight-other}
use Rattle.turn_told.specs.Sent.{Kept, Sent}

-- ---- an event before others

set-sets : (l : Bytes) (q i x : ℕ) → i < q → (ys : Bytes) → set (sets l q ys) i x ≡ sets (set l i x) q ys
set-sets l q i x h [] = refl
set-sets l q i x h (y ∷ ys) =
    set-sets (set l q y) (suc q) i x (omega arith) ys ∙ ap (λ (m : Bytes). sets m (suc q) ys) (set_comm l q i y x (λ e. omega arith))

-- two bytes stored just before those that were put
two-before : (l : Bytes) (p x y q : ℕ) (ys : Bytes) → q ≡ p + 2 → q + length ys ≤ length l → set (set (put l q ys) p x) (p + 1) y ≡ put l p (x ∷ y ∷ ys)
two-before l p x y q ys e h =
    let e₁ : p + 1 ≡ suc p = omega arith in
    let e₂ : q ≡ suc (suc p) = omega arith in
    ap (λ (m : Bytes). set (set m p x) (p + 1) y) (put-sets l q ys h)
    ∙ ap (λ (m : Bytes). set m (p + 1) y) (set-sets l q p x (omega arith) ys)
    ∙ set-sets (set l p x) q (p + 1) y (omega arith) ys
    ∙ ap₂ (λ (a b : ℕ). sets (set (set l p x) a y) b ys) e₁ e₂
    ∙ sym (put-sets l p (x ∷ y ∷ ys) (omega arith))

-- ---- one insert after another

abbrev bytes_of : List Action → Bytes
bytes_of es = event_bytes (map inserted es)

bytes-length : (es : List Action) → length (bytes_of es) ≡ 2 * length es
bytes-length es = two-each (map inserted es) ∙ ap (λ (n : ℕ). 2 * n) (length-map es inserted)

-- the first k are still in the words, and the others stand in the room
pub record Popped (ws₀ ws : Words) (room₀ room : Bytes) (count n k : ℕ) : Type 0 where
  pub most : k ≤ n
  pub number : n ≡ get_or ws₀ count_place 0
  pub kept : Kept ws₀ ws
  pub room-size : length room ≡ length room₀
  pub left : (es : List Action) → Tells ws₀ es → Eights ws (take k es)
  pub written : (es : List Action) → Tells ws₀ es → room ≡ put room₀ (2 * (count + k)) (bytes_of (drop k es))

pub popped-none : (ws : Words) (room : Bytes) (count n : ℕ) → n ≡ get_or ws count_place 0 → Popped ws ws room room count n n
popped-none ws room count n e = record {
  most = omega arith;
  number = e;
  kept = record { size = refl; cells = λ k h. refl; tables = λ k h. refl };
  room-size = refl;
  left = λ es t. subst (Eights ws) (sym (take_all n es (omega (arith, e, t.count)))) t.words;
  written = λ es t.
      sym (ap (λ (xs : List Action). put room (2 * (count + n)) (bytes_of xs)) (ap (λ (k : ℕ). drop k es) (e ∙ t.count) ∙ drop-length es)
      ∙ unfold event_bytes in put-none room (2 * (count + n)));
}

module _ {ws₀ ws : Words} {room₀ room : Bytes} {count n k : ℕ} (p : Popped ws₀ ws room₀ room count n k) (some : 0 < k) (few : n ≤ 255)
    (size : length ws₀ ≡ word_count) (fits : 2 * (count + n) ≤ length room₀) where
  -- the insert's number, and its word
  abbrev at : ℕ
  at = told_place + (k - 1) / 8

  abbrev word : ℕ
  word = get_or ws at 0

  abbrev place : ℕ
  place = 2 * (count + (k - 1))

  -- of the inserts that are told
  module _ (es : List Action) (t : Tells ws₀ es) where
    abbrev xs : List Action
    xs = take (k - 1) es

    abbrev b : Action
    b = get_or es (k - 1) 0

    long : k ≤ length es
    long = omega (arith, p.most, p.number, t.count)

    last : take k es ≡ xs ++ (b ∷ [])
    last =
        let e : k ≡ suc (k - 1) = omega arith in
        ap (λ (m : ℕ). take m es) e ∙ take-suc es (k - 1) 0 (omega (arith, long))

    xs-length : length xs ≡ k - 1
    xs-length = length-take-le (k - 1) es (omega (arith, long))

    old : Eights ws (xs ++ (b ∷ []))
    old = subst (Eights ws) last (p.left es t)

    word-is : word ≡ number xs (8 * ((k - 1) / 8)) 8 * 256 + b
    word-is =
        old ((k - 1) / 8) (omega (arith, p.most)) ∙ eight-more xs b ((k - 1) / 8) (omega (arith, xs-length)) (omega (arith, xs-length))

    lowest : word % 256 ≡ b
    lowest = omega (arith, word-is, t.small (k - 1))

    rest : word / 256 ≡ number xs (8 * ((k - 1) / 8)) 8
    rest = omega (arith, word-is, t.small (k - 1))

    eights : Eights (set ws at (word / 256)) xs
    eights j l = ⊎_elim
        (λ (e : j ≡ (k - 1) / 8). subst (λ (i : ℕ). get_or (set ws at (word / 256)) (told_place + i) 0 ≡ number xs (8 * i) 8) (sym e)
        (get_or-set_same ws at (word / 256) 0 (omega (arith, p.kept.size, size, p.most)) ∙ rest))
        (λ (d : j ≡ (k - 1) / 8 → ⊥).
        get_or-set_other ws at (told_place + j) (word / 256) 0 (λ e. d (omega arith)) ∙ old j l ∙ eight-other xs b j (λ e. d (omega (arith, e, xs-length))))
        (same_or_not j ((k - 1) / 8))

    room-is : set (set room place 3) (place + 1) (word % 256) ≡ put room₀ place (bytes_of (drop (k - 1) es))
    unfolding event_bytes
    room-is =
        let e : k ≡ suc (k - 1) = omega arith in
        let d : length (drop k es) ≡ length es - k = length-drop k es in
        ap₂ (λ (m : Bytes) (y : ℕ). set (set m place 3) (place + 1) y) (p.written es t) lowest
        ∙ two-before room₀ place 3 b (2 * (count + k)) (bytes_of (drop k es)) (omega arith) (omega (arith, bytes-length (drop k es), t.count, p.number))
        ∙ ap (λ (ys : List Action). put room₀ place (bytes_of ys))
        (ap (λ (m : ℕ). b ∷ drop m es) e ∙ sym (drop-cons es (k - 1) 0 (omega (arith, long))))

  pub popped-more : Popped ws₀ (set ws at (word / 256)) room₀ (set (set room place 3) (place + 1) (word % 256)) count n (k - 1)
  popped-more = record {
    most = omega (arith, p.most);
    number = p.number;
    kept = record {
      size = length-set ws at (word / 256) ∙ p.kept.size;
      cells = λ i h. get_or-set_other ws at i (word / 256) 0 (λ e. omega arith) ∙ p.kept.cells i h;
      tables = λ i h. get_or-set_other ws at i (word / 256) 0 (λ e. omega (arith, p.most)) ∙ p.kept.tables i h;
    };
    room-size = simp length-set p.room-size;
    left = eights;
    written = room-is;
  }

-- none is left
module _ {ws₀ ws : Words} {room₀ room : Bytes} {count n k : ℕ} (p : Popped ws₀ ws room₀ room count n k) (done : k ≤ 0) (size : length ws₀ ≡ word_count) where
  pub emptied : Kept ws₀ (set ws count_place 0)
  emptied = record {
    size = length-set ws count_place 0 ∙ p.kept.size;
    cells = λ i h. get_or-set_other ws count_place i 0 0 (λ e. omega arith) ∙ p.kept.cells i h;
    tables = λ i h. get_or-set_other ws count_place i 0 0 (λ e. omega arith) ∙ p.kept.tables i h;
  }

  pub sent : (es : List Action) → Tells ws₀ es → Sent es (set ws count_place 0) room₀ room count (count + n)
  sent es t =
      let z : k ≡ 0 = omega arith in
      record {
        counted = ap (λ (m : ℕ). count + m) (p.number ∙ t.count);
        events = subst (λ (m : ℕ). room ≡ put room₀ (2 * (count + m)) (bytes_of (drop m es))) z (p.written es t)
            ∙ ap (λ (m : ℕ). put room₀ (2 * m) (bytes_of es)) (let e : count + 0 ≡ count = omega arith in e);
        none = record {
          count = get_or-set_same ws count_place 0 0 (omega (arith, p.kept.size, size));
          few = omega arith;
          words = λ j l. get_or-set_other ws count_place (told_place + j) 0 0 (λ e. omega arith) ∙ subst (λ (m : ℕ). Eights ws (take m es)) z (p.left es t) j l;
          small = λ i. omega arith;
        };
      }
