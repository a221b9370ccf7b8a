-- How long a tally's text may be: 240 bytes for each record, 14 more for each step, and 73 for each action.
use Prim.Native.Nat.{ℕ, zero, suc, ◌+◌, ◌*◌, ◌/◌, ◌≤◌, min}
use native.Mathlib.Omega.{arith}
use mathlib.Core.Bool.{Bool, true, false}
use mathlib.Core.List.{List, []}
use lib.Dec.{eqb}
use lib.ListN.{length, get_or, take, drop, length-append, length-take, length-drop}
use Rattle.spec_policy.specs.Bytes.{Bytes, Small}
use Rattle.spec_policy.proofs.ByteLaws.{small-take, small-drop}
use Rattle.spec_text.specs.Words.{ascii}
use Rattle.spec_text.specs.Forms.{node, step, size}
use Rattle.spec_text.specs.Printing.{count_in, steps_had}
use Rattle.spec_trace.specs.Counts.{most_count}
use Rattle.spec_trace.specs.Tallies.{Tally, action_table, accepted_place, suppressed_place, inserted_place}
use Rattle.text_append.proofs.AddedLaws.{decimal-below}
use Rattle.text_print.proofs.Lengths.{shown-less}
use Rattle.text_tally.specs.Lines.{ran_words, leads, led_steps, led_nodes, led_records, numbered, action_says, action_line, action_lines, tally_text}

-- counts of the code: each stops at 4,294,967,295
abbrev pub Stopped : List ℕ → Type 0
Stopped counts = (i : ℕ) → get_or counts i 0 ≤ most_count

-- ---- steps

ran-less : (n : ℕ) → n ≤ most_count → length (ran_words n) ≤ 14
unfolding ran_words ascii
ran-less zero h = omega arith
ran-less (suc n) h = simp length-append (omega (arith, decimal-below 9 (suc n) (omega arith)))

module _ (lead : ℕ → Bytes) (few : (i : ℕ) → length (lead i) ≤ 14) where
  steps-less : (n j i : ℕ) (ss : Bytes) → Small ss → j + n ≤ 1000 → length (led_steps lead n j i ss) ≤ 254 * n
  unfolding led_steps size
  steps-less zero j i ss small h = omega arith
  steps-less (suc n) j i ss small h =
      let a = shown-less step j (take 12 ss) (omega arith) (small-take 12 ss small) (simp length-take (omega arith)) in
      let b = steps-less n (suc j) (suc i) (drop 12 ss) (small-drop 12 ss small) (omega arith) in
      simp length-append (omega (arith, few i, a, b))

  nodes-less : (n i j : ℕ) (ns ss : Bytes) → Small ns → Small ss → i + n ≤ 1000 → length ss / 12 ≤ 1000 → length (led_nodes lead n i j ns ss) ≤ 240 * n + 254 * (length ss / 12)
  unfolding led_nodes steps_had size
  nodes-less zero i j ns ss sn sm h l = omega arith
  nodes-less (suc n) i j ns ss sn sm h l =
      let x : Bytes = take 16 ns in
      let k : ℕ = min (count_in node x) (length ss / 12) in
      let e = length-drop (12 * k) ss in
      let a = shown-less node i x (omega arith) (small-take 16 ns sn) (simp length-take (omega arith)) in
      let b = steps-less k 0 j ss sm (omega arith) in
      let c = nodes-less n (suc i) (j + k) (drop 16 ns) (drop (12 * k) ss) (small-drop 16 ns sn) (small-drop (12 * k) ss sm) (omega arith) (omega arith) in
      simp length-append (omega (arith, a, b, c, e))

-- ---- actions

says_less : (a x y z : ℕ) → a ≤ 99 → x ≤ most_count → y ≤ most_count → z ≤ most_count → length (action_says a x y z) ≤ 73
unfolding action_says numbered ascii
says_less a x y z h p q r =
    simp length-append (omega (arith, decimal-below 1 a (omega arith), decimal-below 9 x (omega arith), decimal-below 9 y (omega arith), decimal-below 9 z (omega arith)))

line-less : (a x y z : ℕ) (b : Bool) → a ≤ 99 → x ≤ most_count → y ≤ most_count → z ≤ most_count → length {A = ℕ} (elim b as (λ _. Bytes) [ true ↦ [] | false ↦ action_says a x y z ]) ≤ 73
line-less a x y z true h p q r = omega arith
line-less a x y z false h p q r = says_less a x y z h p q r

action-less : (counts : List ℕ) (a : ℕ) → Stopped counts → a ≤ 99 → length (action_line counts a) ≤ 73
unfolding action_line
action-less counts a few h =
    let x = get_or counts (accepted_place a) 0 in
    let y = get_or counts (suppressed_place a) 0 in
    let z = get_or counts (inserted_place a) 0 in
    line-less a x y z (eqb (x + y + z) 0) h (few (accepted_place a)) (few (suppressed_place a)) (few (inserted_place a))

actions-less : (n a : ℕ) (counts : List ℕ) → Stopped counts → a + n ≤ 100 → length (action_lines n a counts) ≤ 73 * n
unfolding action_lines
actions-less zero a counts few h = omega arith
actions-less (suc n) a counts few h = simp length-append (omega (arith, action-less counts a few (omega arith), actions-less n (suc a) counts few (omega arith)))

-- ---- both

pub tally-less : (ns ss : Bytes) (t : Tally) → Small ns → Small ss → Stopped t.steps → Stopped t.actions → length ns ≤ 16_000 → length ss ≤ 12_000
    → length (tally_text ns ss t) ≤ 240 * (length ns / 16) + 254 * (length ss / 12) + 4672
unfolding tally_text led_records leads size
tally-less ns ss t sn sm p q h l =
    simp length-append (omega (arith, nodes-less (leads t.steps) (λ i. ran-less (get_or t.steps i 0) (p i)) (length ns / 16) 0 0 ns ss sn sm (omega arith) (omega arith), actions-less action_table 0 t.actions q (omega arith)))
