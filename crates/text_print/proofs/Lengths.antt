-- How long a text may be: 240 bytes for each record, and 20 for a remark.
use Prim.Native.Nat.{ℕ, zero, suc, ◌+◌, ◌*◌, ◌/◌, ◌≤◌, ◌<◌, min}
use native.Mathlib.Omega.{arith}
use mathlib.Core.Path.{◌≡◌, refl, subst}
use mathlib.Core.Bool.{Bool, true, false, ◌&&◌}
use mathlib.Core.List.{List, [], ◌∷◌, ◌++◌}
use mathlib.Core.Option.{Option, none, some}
use lib.Dec.{T, eqb, leb, leb→le, lit≤}
use lib.ListN.{length, get_or, take, drop, length-append, length-take, length-drop}
use Rattle.actions.proofs.Tests.{of-yes, and_left, and_right}
use Rattle.spec_policy.specs.Bytes.{Bytes, Small}
use Rattle.spec_policy.specs.Lists.{every}
use Rattle.spec_policy.proofs.ByteLaws.{small-take, small-drop}
use Rattle.spec_text.specs.Words.{ascii, same_bytes, newline}
use Rattle.spec_text.specs.Numerals.{decimal}
use Rattle.spec_text.specs.Forms.{Sort, node, step, size, Fields, fields_in, record_of, Slot, number, actions, place, bound, Form, forms, of_kind, same_sort, bare}
use Rattle.spec_text.specs.Printing.{Print, text, no_text, argument, arguments, indent, title, line_text, said, count_in, says, printed_if, record_text, parted, bytes_text, shown_record, shown_steps, steps_had, shown_left, shown_nodes, shown_records}
use Rattle.spec_text.proofs.TableLaws.{first_passes}
use Rattle.text_append.proofs.AddedLaws.{decimal-below}
use Rattle.text_append.proofs.Lengths.{set-less}

-- ---- what a line says

slot_most : Slot → ℕ
slot_most (number i most) = 11
slot_most (actions i) = 195

slots_most : List Slot → ℕ
slots_most [] = 0
slots_most (p ∷ ps) = slot_most p + slots_most ps

-- a number of ten digits at most
ten_digits : Slot → Bool
ten_digits (number i most) = leb most 4_294_967_295
ten_digits (actions i) = true

ten-less : (most v : ℕ) → most ≤ 4_294_967_295 → v ≤ most → suc (length (decimal v)) ≤ 11
ten-less most v h l = let a : v < 10_000_000_000 = omega arith in let d : length (decimal v) ≤ 10 = decimal-below 9 v a in omega arith

argument-less : (p : Slot) (v : ℕ) → T (ten_digits p) → v ≤ bound p → length (argument p v) ≤ slot_most p
unfolding argument slot_most ten_digits bound
argument-less (number i most) v t h = ten-less most v (leb→le most 4_294_967_295 t) h
argument-less (actions i) v t h = set-less v

arguments-less : (ps : List Slot) (xs : Fields) → T (every ten_digits ps) → T (every (λ p. leb (get_or xs (place p) 0) (bound p)) ps) → length (arguments ps xs) ≤ slots_most ps
unfolding arguments slots_most every
arguments-less [] xs t h = omega arith
arguments-less (p ∷ ps) xs t h =
    let v = get_or xs (place p) 0 in
    let r = every (λ q. leb (get_or xs (place q) 0) (bound q)) ps in
    let a = argument-less p v (and_left (ten_digits p) (every ten_digits ps) t) (leb→le v (bound p) (and_left (leb v (bound p)) r h)) in
    let b = arguments-less ps xs (and_right (ten_digits p) (every ten_digits ps) t) (and_right (leb v (bound p)) r h) in
    simp length-append (omega (arith, a, b))

-- ---- a record's line

-- the first word and what the line says
brief : Form → Bool
brief f = every ten_digits f.slots && leb (length (ascii f.name) + slots_most f.slots) 222

form-brief : (s : Sort) (k : ℕ) (f : Form) → of_kind s k ≡ some f → T (brief f)
unfolding of_kind forms every brief ten_digits slots_most slot_most ascii
form-brief s k f e = first_passes (λ g. same_sort g.sort s && eqb g.kind k) brief f forms tt e

ends-less : (s : Sort) → (length (indent s) ≤ 2) × (length (title s) ≤ 7) × (length (ascii "  ") ≤ 2)
unfolding indent title ascii
ends-less node = (lit≤ tt, lit≤ tt, lit≤ tt)
ends-less step = (lit≤ tt, lit≤ tt, lit≤ tt)

module _ (s : Sort) (i : ℕ) (bs : Bytes) (few : i < 1000) where
  line-less : (f : Form) → T (brief f) → T (says s f bs) → length (line_text s f (fields_in s bs) i ++ (newline ∷ [])) ≤ 240
  unfolding brief says line_text
  line-less f b y =
      let a = same_bytes (record_of s (count_in s bs) (said f.slots (fields_in s bs) (bare f))) bs in
      let c = every (λ p. leb (get_or (fields_in s bs) (place p) 0) (bound p)) f.slots in
      let d = leb (count_in s bs) f.room in
      let fit : T c = and_right a c (and_left (a && c) d y) in
      let n = length (ascii f.name) + slots_most f.slots in
      let t = and_left (every ten_digits f.slots) (leb n 222) b in
      let m = leb→le n 222 (and_right (every ten_digits f.slots) (leb n 222) b) in
      let e = ends-less s in
      simp length-append (omega (arith, arguments-less f.slots (fields_in s bs) t fit, decimal-below 2 i few, m, e.0, e.1, e.2))

  record-less : (t : Bytes) → record_text s i bs ≡ text t → length t ≤ 240
  unfolding record_text printed_if
  record-less t e = go (of_kind s (get_or bs 0 0)) refl
    where
      told : (f : Form) → T (brief f) → (b : Bool) → says s f bs ≡ b → printed_if b (line_text s f (fields_in s bs) i ++ (newline ∷ [])) ≡ text t → length t ≤ 240
      told f h false y u = let z : ◌≡◌ {A = ℕ} 0 1 = cc in absurd (omega arith)
      told f h true y u =
          let q : line_text s f (fields_in s bs) i ++ (newline ∷ []) ≡ t = cc in
          subst (λ (x : Bytes). length x ≤ 240) q (line-less f h (of-yes (says s f bs) y))

      go : (o : Option Form) → of_kind s (get_or bs 0 0) ≡ o → length t ≤ 240
      go none h = let u : no_text ≡ text t = rw (record_text, h) at e in let z : ◌≡◌ {A = ℕ} 0 1 = cc in absurd (omega arith)
      go (some f) h = told f (form-brief s (get_or bs 0 0) f h) (says s f bs) refl (rw (record_text, h) at e)

-- ---- a record's bytes

parted-less : (bs : Bytes) → Small bs → length (parted bs) ≤ 4 * length bs
unfolding parted
parted-less [] small = omega arith
parted-less (b ∷ bs) small =
    let d : length (decimal b) ≤ 3 = decimal-below 2 b (omega (arith, small 0)) in
    simp length-append (omega (arith, d, parted-less bs (λ i. small (suc i))))

module _ (s : Sort) (i : ℕ) (bs : Bytes) (few : i < 1000) (small : Small bs) (whole : length bs ≤ 16) where
  bytes-less : length (bytes_text s i bs) ≤ 240
  unfolding bytes_text ascii
  bytes-less =
      let e = ends-less s in
      simp length-append (omega (arith, decimal-below 2 i few, parted-less bs small, whole, e.0, e.1))

  pub shown-less : length (shown_record s i bs) ≤ 240
  unfolding shown_record
  shown-less = go (record_text s i bs) refl
    where
      go : (p : Print) → record_text s i bs ≡ p → length (shown_record s i bs) ≤ 240
      go (text t) e = rw (shown_record, e) (record-less s i bs few t e)
      go no_text e = rw (shown_record, e) bytes-less

-- ---- all records

steps-less : (n j : ℕ) (ss : Bytes) → Small ss → j + n ≤ 1000 → length (shown_steps n j ss) ≤ 240 * n
unfolding shown_steps size
steps-less zero j ss small h = omega arith
steps-less (suc n) j ss small h =
    let a = shown-less step j (take 12 ss) (omega arith) (small-take 12 ss small) (simp length-take (omega arith)) in
    let b = steps-less n (suc j) (drop 12 ss) (small-drop 12 ss small) (omega arith) in
    simp length-append (omega (arith, a, b))

left_less : (n j : ℕ) (ss : Bytes) → Small ss → j + n ≤ 1000 → length (shown_left n j ss) ≤ 240 * n + 20
unfolding shown_left ascii
left_less zero j ss small h = omega arith
left_less (suc n) j ss small h = simp length-append (omega (arith, steps-less (suc n) j ss small h))

nodes-less : (n i j : ℕ) (ns ss : Bytes) → Small ns → Small ss → i + n ≤ 1000 → j + length ss / 12 ≤ 1000
    → length (shown_nodes n i j ns ss) ≤ 240 * n + 240 * (length ss / 12) + 20
unfolding shown_nodes steps_had size
nodes-less zero i j ns ss sn sm h l = omega (arith, left_less (length ss / 12) j ss sm l)
nodes-less (suc n) i j ns ss sn sm h l =
    let x : Bytes = take 16 ns in
    let k : ℕ = min (count_in node x) (length ss / 12) in
    let e = length-drop (12 * k) ss in
    let a = shown-less node i x (omega arith) (small-take 16 ns sn) (simp length-take (omega arith)) in
    let b = steps-less k 0 ss sm (omega arith) in
    let c = nodes-less n (suc i) (j + k) (drop 16 ns) (drop (12 * k) ss) (small-drop 16 ns sn) (small-drop (12 * k) ss sm) (omega arith) (omega arith) in
    simp length-append (omega (arith, a, b, c, e))

-- No text is longer than 240 bytes for each record, and a remark.
pub records-less : (ns ss : Bytes) → Small ns → Small ss → length ns ≤ 16_000 → length ss ≤ 12_000
    → length (shown_records ns ss) ≤ 240 * (length ns / 16) + 240 * (length ss / 12) + 20
unfolding shown_records size
records-less ns ss sn sm h l = nodes-less (length ns / 16) 0 0 ns ss sn sm (omega arith) (omega arith)
