-- Every file that the check passes has a text, from which its records are read back.
use Prim.Native.Nat.{ℕ, zero, suc, ◌+◌, ◌*◌, ◌/◌, ◌≤◌, ◌<◌}
use native.Mathlib.Nat.{mul-add}
use native.Mathlib.Omega.{arith}
use mathlib.Core.Path.{◌≡◌, refl, ap, ap₂, ◌∙◌, sym, subst, subst₂}
use mathlib.Core.Bool.{false, ◌&&◌}
use mathlib.Core.List.{[], ◌∷◌, ◌++◌, map}
use lib.Dec.{T, eqb, leb, le→leb}
use lib.ListN.{length, get_or, take, drop, length-drop, drop_of_length-le}
use lib.Seq.{drop-drop, length-take-le}
use Rattle.actions.specs.Sets.{ActionSet}
use Rattle.actions.proofs.Tests.{yes_of, and_intro, and_left}
use Rattle.spec_policy.specs.Bytes.{Bytes, number, Small}
use Rattle.spec_policy.specs.Lists.{summed, every, listed}
use Rattle.spec_policy.specs.Records.{Node, StepRecord, front_size, node_at, step_record_at, node_place, step_place, node_count, step_count, nodes, step_records, node_bytes, step_bytes}
use Rattle.spec_policy.specs.Tree.{NodeKind, aLeaf, aTrivial, an_unsatisfiable, aPair, no_node, node_kind, steps_owned}
use Rattle.spec_policy.proofs.ByteLaws.{small-take, small-drop, number-less, part-part}
use Rattle.spec_policy.proofs.NumberLaws.{number-byte}
use Rattle.spec_policy.proofs.PartLaws.{node-part, step_part}
use Rattle.spec_check.specs.Layout.{node_fits, step_fits, broken3, broken4, CountsFit}
use Rattle.spec_check.specs.Targets.{broken6}
use Rattle.spec_check.specs.Check.{passes, check}
use Rattle.spec_check.specs.Passed.{Passed}
use Rattle.spec_check.proofs.Passed.{passed}
use Rattle.spec_check.proofs.Rows.{counts-fit, node-bytes-length, step-bytes-length, nodes-fit, steps-fit, all-owned}
use Rattle.spec_text.specs.Words.{same_bytes, newline}
use Rattle.spec_text.specs.Forms.{Sort, node, step, size, fields_in, record_of, place, bound, Form, bare}
use Rattle.spec_text.specs.Printing.{Print, text, both, line_text, said, count_in, says, printed_if, record_text, steps_text, nodes_text, printed}
use Rattle.spec_text.specs.Files.{ThereAndBack}
use Rattle.spec_text.proofs.WordLaws.{every-listed, same_refl}
use Rattle.spec_text.proofs.TextLaws.{read-text}
use Rattle.spec_text.proofs.RecordLaws.{record-again}
use Rattle.spec_text.proofs.WholeLaws.{zero-3, zero-4, Told, node-told, row_told}

-- ---- a record

abbrev HasText : Print → Type 0
HasText p = (t : Bytes) × (p ≡ text t)

-- a record that its fields make up, and that a form says whole
record-has : (s : Sort) (i : ℕ) (bs : Bytes) → record_of s (count_in s bs) (fields_in s bs) ≡ bs → Told s (get_or bs 0 0) (count_in s bs) (fields_in s bs) → HasText (record_text s i bs)
unfolding record_text printed_if says bare
record-has s i bs e d =
    let f : Form = d.form in
    let x = record_of s (count_in s bs) (said f.slots (fields_in s bs) (bare f)) in
    let a : T (same_bytes x bs) = subst (λ (y : Bytes). T (same_bytes y bs)) (sym (d.whole.same ∙ e)) (same_refl bs) in
    let b = every (λ p. leb (get_or (fields_in s bs) (place p) 0) (bound p)) f.slots in
    let w : T (says s f bs) =
    and_intro (same_bytes x bs && b) (leb (count_in s bs) f.room) (and_intro (same_bytes x bs) b a d.whole.fits) (le→leb (count_in s bs) f.room d.whole.few) in
    (line_text s f (fields_in s bs) i ++ (newline ∷ []), rw (record_text, d.is, yes_of (says s f bs) w))

module _ (bs : Bytes) (small : Small bs) where
  byte-bound : (i : ℕ) → i < length bs → number bs i 1 ≤ 255
  byte-bound i h = omega (arith, number-byte bs i h, small i)

  node-has : (i : ℕ) → length bs ≡ size node → T (node_fits (node_kind (node_at bs 0).kind) (node_at bs 0)) → HasText (record_text node i bs)
  unfolding fields_in count_in node_at size
  node-has i h t =
      record-has node i bs (record-again bs small node h)
      (subst (λ (k : ℕ). Told node k (count_in node bs) (fields_in node bs)) (number-byte bs 0 (omega arith))
      (node-told (number bs 0 1) (number bs 1 1) (number bs 2 1) (number bs 3 1) (number bs 4 4) (number bs 8 8)
      (byte-bound 1 (omega arith)) (byte-bound 2 (omega arith)) (byte-bound 3 (omega arith)) (omega (arith, number-less bs 4 4 small (omega arith)))
      (number-less bs 8 8 small (omega arith)) t))

  row_has : (j : ℕ) → length bs ≡ size step → T (step_fits (step_record_at bs 0)) → HasText (record_text step j bs)
  unfolding fields_in count_in step_record_at size
  row_has j h t =
      record-has step j bs (record-again bs small step h)
      (subst (λ (k : ℕ). Told step k 0 (fields_in step bs)) (number-byte bs 0 (omega arith))
      (row_told (number bs 0 1) (number bs 1 1) (number bs 2 1) (number bs 3 1) (number bs 4 8)
      (byte-bound 1 (omega arith)) (byte-bound 2 (omega arith)) (byte-bound 3 (omega arith)) (number-less bs 4 8 small (omega arith)) t))

-- ---- records in a row

both-has : (p q : Print) → HasText p → HasText q → HasText (both p q)
unfolding both
both-has p q h k = (h.0 ++ k.0, rw (h.1, k.1))

-- a node that keeps rule 4 owns as many steps as it counts
owned-count : (x : Node) → T (node_fits (node_kind x.kind) x) → steps_owned x ≡ x.count
unfolding steps_owned node_fits
owned-count x h = go (node_kind x.kind) refl
  where
    lone : T (eqb x.left 0 && eqb x.right 0 && eqb x.count 0 && eqb x.start 0 && eqb x.set 0) → 0 ≡ x.count
    lone t =
        sym (zero-4 x.left x.right x.count x.start
        (and_left (eqb x.left 0 && eqb x.right 0 && eqb x.count 0 && eqb x.start 0) (eqb x.set 0) t)).2

    go : (k : NodeKind) → node_kind x.kind ≡ k → steps_owned x ≡ x.count
    go aLeaf e = rw (e, steps_owned)
    go aTrivial e = rw (e, steps_owned) (lone (rw e at h))
    go an_unsatisfiable e = rw (e, steps_owned) (lone (rw e at h))
    go no_node e = absurd (rw e at h)
    go (aPair w j) e = rw (e, steps_owned) (sym (zero-3 x.count x.start x.set (rw e at h)).0)

-- k records further on
further : (size k j : ℕ) (bs : Bytes) → drop (size * (j + k)) bs ≡ drop (size * k) (drop (size * j) bs)
further size k j bs = ap (λ (n : ℕ). drop n bs) (mul-add size j k) ∙ sym (drop-drop (size * k) (size * j) bs)

-- a record read where it is cut out, and where it lies
module _ (bs : Bytes) (at : ℕ) where
  here : at + 0 ≡ at
  here = omega arith

  node-cut : at + 16 ≤ length bs → node_at (take 16 (drop at bs)) 0 ≡ node_at bs at
  node-cut h = node-part bs at 16 h 0 (omega arith) ∙ ap (node_at bs) here

  row_cut : at + 12 ≤ length bs → step_record_at (take 12 (drop at bs)) 0 ≡ step_record_at bs at
  row_cut h = step_part bs at 12 h 0 (omega arith) ∙ ap (step_record_at bs) here

module _ (file : Bytes) (small : Small file) (three : broken3 file ≡ false) (four : broken4 file ≡ false) (six : broken6 file ≡ false) where
  counts : CountsFit file
  counts = counts-fit file three

  -- where a record lies among the records, and where in the file
  node-lies : (i : ℕ) → i < node_count file → take (size node) (drop (size node * i) (node_bytes file)) ≡ take (size node) (drop (node_place i) file)
  unfolding node_bytes size step_place node_place
  node-lies i h = part-part file front_size (16 * node_count file) (16 * i) 16 (omega arith) (omega (arith, counts.long))

  row_lies : (j : ℕ) → j < step_count file → take (size step) (drop (size step * j) (step_bytes file)) ≡ take (size step) (drop (step_place file j) file)
  unfolding step_bytes size step_place node_place
  row_lies j h = part-part file (node_place (node_count file)) (12 * step_count file) (12 * j) 12 (omega arith) (omega (arith, counts.long))

  node-inside : (i : ℕ) → i < node_count file → node_place i + 16 ≤ length file
  unfolding step_place node_place
  node-inside i h = omega (arith, counts.long)

  step-inside : (j : ℕ) → j < step_count file → step_place file j + 12 ≤ length file
  unfolding step_place node_place
  step-inside j h = omega (arith, counts.long)

  -- rule 4, of each record
  node-fits : (i : ℕ) → i < node_count file → T (node_fits (node_kind (node_at file (node_place i)).kind) (node_at file (node_place i)))
  unfolding nodes
  node-fits i h = every-listed (λ x. node_fits (node_kind x.kind) x) (λ i. node_at file (node_place i)) (node_count file) (nodes-fit file four) i h

  step-fits : (j : ℕ) → j < step_count file → T (step_fits (step_record_at file (step_place file j)))
  unfolding step_records
  step-fits j h = every-listed step_fits (λ j. step_record_at file (step_place file j)) (step_count file) (steps-fit file four) j h

  -- ---- each record has a line

  module _ (i : ℕ) (h : i < node_count file) where
    node-line : HasText (record_text node i (take (size node) (drop (size node * i) (node_bytes file))))
    unfolding size
    node-line =
        let bs : Bytes = take 16 (drop (node_place i) file) in
        subst (λ (x : Bytes). HasText (record_text node i x)) (sym (node-lies i h))
        (node-has bs (small-take 16 (drop (node_place i) file) (small-drop (node_place i) file small)) i
        (length-take-le 16 (drop (node_place i) file) (simp length-drop (omega (arith, node-inside i h))))
        (subst (λ (x : Node). T (node_fits (node_kind x.kind) x)) (sym (node-cut file (node_place i) (node-inside i h))) (node-fits i h)))

    node-count : count_in node (take (size node) (drop (size node * i) (node_bytes file))) ≡ steps_owned (node_at file (node_place i))
    unfolding size count_in
    node-count =
        ap (count_in node) (node-lies i h) ∙ ap (λ (x : Node). x.count) (node-cut file (node_place i) (node-inside i h))
        ∙ sym (owned-count (node_at file (node_place i)) (node-fits i h))

  row_line : (j o : ℕ) → j < step_count file → HasText (record_text step o (take (size step) (drop (size step * j) (step_bytes file))))
  unfolding size
  row_line j o h =
      let bs : Bytes = take 12 (drop (step_place file j) file) in
      subst (λ (x : Bytes). HasText (record_text step o x)) (sym (row_lies j h))
      (row_has bs (small-take 12 (drop (step_place file j) file) (small-drop (step_place file j) file small)) o
      (length-take-le 12 (drop (step_place file j) file) (simp length-drop (omega (arith, step-inside j h))))
      (subst (λ (x : StepRecord). T (step_fits x)) (sym (row_cut file (step_place file j) (step-inside j h))) (step-fits j h)))

  -- ---- and so have all

  steps-have : (k j o : ℕ) → j + k ≤ step_count file → HasText (steps_text k o (drop (size step * j) (step_bytes file)))
  unfolding steps_text size
  steps-have zero j o h = ([], refl)
  steps-have (suc k) j o h =
      let rest : Bytes = drop (size step) (drop (size step * j) (step_bytes file)) in
      both-has (record_text step o (take (size step) (drop (size step * j) (step_bytes file)))) (steps_text k (suc o) rest) (row_line j o (omega arith))
      (subst (λ (x : Bytes). HasText (steps_text k (suc o) x)) (further (size step) 1 j (step_bytes file)) (steps-have k (j + 1) (suc o) (omega arith)))

  nodes-have : (n i j : ℕ) → i + n ≡ node_count file → j + summed (map steps_owned (listed (λ i. node_at file (node_place i)) i n)) ≡ step_count file
      → HasText (nodes_text n i (drop (size node * i) (node_bytes file)) (drop (size step * j) (step_bytes file)))
  unfolding nodes_text listed summed size
  nodes-have zero i j h e =
      let a : drop (16 * i) (node_bytes file) ≡ [] = drop_of_length-le (node_bytes file) {i = 16 * i} (omega (arith, node-bytes-length file counts)) in
      let b : drop (12 * j) (step_bytes file) ≡ [] = drop_of_length-le (step_bytes file) {i = 12 * j} (omega (arith, step-bytes-length file counts)) in
      ([], ap₂ (nodes_text zero i) a b)
  nodes-have (suc n) i j h e =
      let ns : Bytes = drop (16 * i) (node_bytes file) in
      let ss : Bytes = drop (12 * j) (step_bytes file) in
      let c : ℕ = count_in node (take 16 ns) in
      let ec : c ≡ steps_owned (node_at file (node_place i)) = node-count i (omega arith) in
      let z : suc i ≡ i + 1 = omega arith in
      let a : drop (16 * suc i) (node_bytes file) ≡ drop 16 ns = ap (λ (m : ℕ). drop (16 * m) (node_bytes file)) z ∙ further 16 1 i (node_bytes file) in
      let b : drop (12 * (j + c)) (step_bytes file) ≡ drop (12 * c) ss = further 12 c j (step_bytes file) in
      both-has (record_text node i (take 16 ns)) (both (steps_text c 0 ss) (nodes_text n (suc i) (drop 16 ns) (drop (12 * c) ss))) (node-line i (omega arith))
      (both-has (steps_text c 0 ss) (nodes_text n (suc i) (drop 16 ns) (drop (12 * c) ss)) (steps-have c j 0 (omega arith))
      (subst₂ (λ (x y : Bytes). HasText (nodes_text n (suc i) x y)) a b (nodes-have n (suc i) (j + c) (omega arith) (omega arith))))

  has-text : HasText (printed (node_bytes file) (step_bytes file))
  unfolding printed size nodes
  has-text =
      let q : length (node_bytes file) / 16 ≡ node_count file = omega (arith, node-bytes-length file counts) in
      subst (λ (n : ℕ). HasText (nodes_text n 0 (node_bytes file) (step_bytes file))) (sym q) (nodes-have (node_count file) 0 0 (omega arith) (omega (arith, all-owned file six)))

  -- A file whose records keep rule 4, and whose counts come out, goes to text and back, whether or not it passes.
  pub there_and_back : ThereAndBack file
  there_and_back = let p = has-text in record { text = p.0; prints = p.1; reads = read-text (node_bytes file) (step_bytes file) p.0 p.1 }

-- Every file that the check passes goes to text and back.
pub read-printed : (file : Bytes) (r e : ActionSet) → Small file → check file ≡ passes r e → ThereAndBack file
read-printed file r e small h = let ok : Passed file = passed file r e h in there_and_back file small ok.kept3 ok.kept4 ok.kept6
