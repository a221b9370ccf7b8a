-- Lines one after another: of steps, of nodes with their steps, and of the steps that no node has.
use Rattle.std.proofs.Common.{ℕ, zero, suc, ◌+◌, ◌*◌, ◌/◌, ◌≤◌, ◌<◌, min, ◌≡◌, refl, ap, ◌∙◌, arith, [], ◌++◌, length, take, drop, append_assoc, length-append, length-take}
use Rattle.std.proofs.lemmas.List.{take_at, drop_at, take-take, drop-take, drop-drop}
use Rattle.spec_policy.specs.Bytes.{Bytes}
use Rattle.spec_text.specs.Words.{ascii}
use Rattle.spec_text.specs.Forms.{node, step, size}
use Rattle.spec_text.specs.Printing.{count_in, shown_record, shown_steps, steps_had, shown_left, shown_nodes, shown_records}
use Rattle.text_print.specs.Led.{led_steps, led_nodes, led_records, steps_owned}

module _ (lead : ℕ → Bytes) where
  -- ---- a step, and those after it

  -- the k-th of them; `whole` is what is left at it, `rest` what is left after it
  steps-at : (x rest whole : Bytes) (offset first k now next : ℕ) → length x ≡ 12 → whole ≡ x ++ rest → k ≡ now → next ≡ now + 1
      → lead (first + k) ++ (shown_record step (offset + k) x ++ led_steps lead (length rest / 12) (offset + next) (first + next) rest)
      ≡ led_steps lead (length whole / 12) (offset + now) (first + now) whole
  unfolding led_steps size
  steps-at x rest whole offset first k now next h w e f =
      let n : length whole / 12 ≡ suc (length rest / 12) = omega (arith, ap length w, length-append x rest) in
      let a : offset + next ≡ suc (offset + now) = omega arith in
      let b : first + next ≡ suc (first + now) = omega arith in
      rw (n, w, e, a, b, led_steps, take_at x rest 12 h, drop_at x rest 12 h)

  -- the record told is a slice that is the step's
  pub steps-more : (t x rest whole : Bytes) (offset first k now next : ℕ) → t ≡ x → length x ≡ 12 → whole ≡ x ++ rest → k ≡ now → next ≡ now + 1
      → lead (first + k) ++ (shown_record step (offset + k) t ++ led_steps lead (length rest / 12) (offset + next) (first + next) rest)
      ≡ led_steps lead (length whole / 12) (offset + now) (first + now) whole
  steps-more t x rest whole offset first k now next same h w e f =
      ap (λ (b : Bytes). lead (first + k) ++ (shown_record step (offset + k) b ++ led_steps lead (length rest / 12) (offset + next) (first + next) rest)) same
      ∙ steps-at x rest whole offset first k now next h w e f

  pub steps-over : (rest : Bytes) (j i : ℕ) → length rest < 12 → [] ≡ led_steps lead (length rest / 12) j i rest
  unfolding led_steps
  steps-over rest j i h = let n : length rest / 12 ≡ 0 = omega arith in rw (n, led_steps)

  -- only so many steps are read
  pub steps-read : (n j i : ℕ) (ss : Bytes) → led_steps lead n j i (take (12 * n) ss) ≡ led_steps lead n j i ss
  unfolding led_steps size
  steps-read zero j i ss = refl
  steps-read (suc n) j i ss =
      let e : 12 * suc n ≡ 12 + 12 * n = omega arith in
      let h : 12 ≤ 12 + 12 * n = omega arith in
      rw (e, take-take 12 (12 + 12 * n) ss h, drop-take 12 (12 * n) ss, steps-read n (suc j) (suc i) (drop 12 ss))

  -- ---- a node with its steps, and what follows

  -- the i-th of them; `whole` is what is left of the nodes at it, `rest` what is left after it
  module _ (x rest whole ss : Bytes) (c k : ℕ) (h : length x ≡ 16) (w : whole ≡ x ++ rest) (e : c ≡ count_in node x) (m : k ≡ min c (length ss / 12)) where
    had : steps_had x ss ≡ k
    unfolding steps_had size
    had = rw (← e, ← m)

    more : length whole / 16 ≡ suc (length rest / 16)
    more = omega (arith, ap length w, length-append x rest)

    pub nodes-more : (i now next first : ℕ) → i ≡ now → next ≡ now + 1 → shown_record node i x
        ++ (led_steps lead (length (take (12 * k) ss) / 12) 0 first (take (12 * k) ss) ++ led_nodes lead (length rest / 16) next (first + k) rest (drop (12 * k) ss))
        ≡ led_nodes lead (length whole / 16) now first whole ss
    unfolding led_nodes size
    nodes-more i now next first a b =
        let f : next ≡ suc now = omega arith in
        let n : length (take (12 * k) ss) / 12 ≡ k = simp length-take (omega arith) in
        rw (more, w, a, f, n, steps-read k 0 first ss, led_nodes, take_at x rest 16 h, drop_at x rest 16 h, had)

    pub owned-more : k + steps_owned (length rest / 16) rest (drop (12 * k) ss) ≡ steps_owned (length whole / 16) whole ss
    unfolding steps_owned size
    owned-more = rw (more, w, steps_owned, take_at x rest 16 h, drop_at x rest 16 h, had)

  pub nodes-over : (rest ss : Bytes) (i first : ℕ) → length rest < 16 → [] ≡ led_nodes lead (length rest / 16) i first rest ss
  unfolding led_nodes
  nodes-over rest ss i first h = let n : length rest / 16 ≡ 0 = omega arith in rw (n, led_nodes)

pub owned-over : (rest ss : Bytes) → length rest < 16 → 0 ≡ steps_owned (length rest / 16) rest ss
unfolding steps_owned
owned-over rest ss h = let n : length rest / 16 ≡ 0 = omega arith in rw (n, steps_owned)

-- ---- no lead

pub steps-unled : (n j i : ℕ) (ss : Bytes) → led_steps (λ _. []) n j i ss ≡ shown_steps n j ss
unfolding led_steps shown_steps
steps-unled zero j i ss = refl
steps-unled (suc n) j i ss = ap (λ (x : Bytes). shown_record step j (take (size step) ss) ++ x) (steps-unled n (suc j) (suc i) (drop (size step) ss))

-- all lines are those of the nodes, and those of the steps that are left
pub nodes-unled : (n i j : ℕ) (ns ss : Bytes)
    → let k = steps_owned n ns ss in
    led_nodes (λ _. []) n i j ns ss ++ shown_left (length (drop (12 * k) ss) / 12) (j + k) (drop (12 * k) ss) ≡ shown_nodes n i j ns ss
unfolding steps_owned led_nodes shown_nodes size
nodes-unled zero i j ns ss = let z : j + 0 ≡ j = omega arith in ap (λ (k : ℕ). shown_left (length ss / 12) k ss) z
nodes-unled (suc n) i j ns ss =
    let x = take 16 ns in
    let k = steps_had x ss in
    let o = steps_owned n (drop 16 ns) (drop (12 * k) ss) in
    let a : 12 * (k + o) ≡ 12 * k + 12 * o = omega arith in
    let b : j + (k + o) ≡ (j + k) + o = omega arith in
    rw (a, b, ← drop-drop (12 * o) (12 * k) ss, append_assoc (shown_record node i x), append_assoc (led_steps (λ _. []) k 0 j ss), nodes-unled n (suc i) (j + k) (drop 16 ns) (drop (12 * k) ss), steps-unled k 0 j ss)

pub records-unled : (ns ss : Bytes)
    → let k = steps_owned (length ns / 16) ns ss in
    led_records (λ _. []) ns ss ++ shown_left (length (drop (12 * k) ss) / 12) k (drop (12 * k) ss) ≡ shown_records ns ss
unfolding led_records shown_records size
records-unled ns ss =
    let k = steps_owned (length ns / 16) ns ss in
    let z : k ≡ 0 + k = omega arith in
    ap (λ (j : ℕ). led_records (λ _. []) ns ss ++ shown_left (length (drop (12 * k) ss) / 12) j (drop (12 * k) ss)) z ∙ nodes-unled (length ns / 16) 0 0 ns ss

pub left-none : (ss : Bytes) (j : ℕ) → length ss < 12 → [] ≡ shown_left (length ss / 12) j ss
unfolding shown_left
left-none ss j h = let n : length ss / 12 ≡ 0 = omega arith in rw (n, shown_left)

pub left-some : (ss : Bytes) (j : ℕ) → 12 ≤ length ss → ascii "# steps of no leaf\n" ++ led_steps (λ _. []) (length ss / 12) j j ss ≡ shown_left (length ss / 12) j ss
unfolding shown_left
left-some ss j h = go (length ss / 12) (omega arith)
  where
    go : (n : ℕ) → 0 < n → ascii "# steps of no leaf\n" ++ led_steps (λ _. []) n j j ss ≡ shown_left n j ss
    go zero l = absurd (omega arith)
    go (suc n) l = ap (λ (x : Bytes). ascii "# steps of no leaf\n" ++ x) (steps-unled (suc n) j j ss)

-- of a slice that is these steps
pub left-of : (ss t : Bytes) (j : ℕ) → t ≡ ss → 12 ≤ length ss → ascii "# steps of no leaf\n" ++ led_steps (λ _. []) (length t / 12) j j t ≡ shown_left (length ss / 12) j ss
left-of ss t j e h = ap (λ (x : Bytes). ascii "# steps of no leaf\n" ++ led_steps (λ _. []) (length x / 12) j j x) e ∙ left-some ss j h
