-- The nodes that a text is read as count exactly the steps that it is read as.
use Prim.Native.Nat.{ℕ, zero, suc, ◌+◌, ◌*◌, ◌/◌, ◌≤◌}
use native.Mathlib.Omega.{arith}
use mathlib.Core.Path.{◌≡◌, refl, sym, ap, ap₂, ◌∙◌}
use mathlib.Core.List.{List, [], ◌∷◌, ◌++◌, map}
use lib.ListN.{length, take, drop, length-append}
use lib.Seq.{drop_at, drop-drop}
use Rattle.spec_policy.specs.Bytes.{Bytes, spelt, number}
use Rattle.spec_policy.specs.Lists.{listed, summed}
use Rattle.spec_policy.specs.Records.{Node, node_at, node_size}
use Rattle.spec_policy.specs.Parts
use Rattle.spec_policy.proofs.ListLaws.{map-listed}
use Rattle.spec_text.specs.Forms.{Sort, node, step, size, Fields, record_of, Form}
use Rattle.spec_text.specs.Reading.{Line, nothing, unreadable, entry, Found, found, wrong, with_node, with_step, read_from, records, read_lines, read_text}
use Rattle.spec_text.specs.Where.{nodes_held, nodes_spelt}
use Rattle.spec_text.proofs.RecordLaws.{record-size}
use Rattle.spec_text.proofs.TextLaws.{step-read, node-read}
use Rattle.spec_text.proofs.WhereLaws.{read_found}

-- ---- how many steps a run of nodes counts

count_at : Bytes → ℕ → ℕ
count_at bs i = (node_at bs (node_size * i)).count

pub counted : Bytes → ℕ
counted bs = summed (map (λ x. x.count) (nodes_spelt bs))

counted_is : (bs : Bytes) → counted bs ≡ summed (listed (count_at bs) 0 (length bs / node_size))
unfolding counted count_at nodes_spelt nodes_held
counted_is bs = ap summed (map-listed (λ (x : Node). x.count) (λ i. node_at bs (node_size * i)) 0 (length bs / node_size))

later-listed : (f g : ℕ → ℕ) → ((i : ℕ) → f (suc i) ≡ g i) → (i n : ℕ) → listed f (suc i) n ≡ listed g i n
unfolding listed
later-listed f g h i zero = refl
later-listed f g h i (suc n) = ap₂ ◌∷◌ (h i) (later-listed f g h (suc i) n)

module _ (k : ℕ) (xs : Fields) (bs : Bytes) where
  first_count : count_at (record_of node k xs ++ bs) 0 ≡ k
  unfolding count_at node_at number spelt record_of Parts.node
  first_count = omega arith

  later-count : (i : ℕ) → count_at (record_of node k xs ++ bs) (suc i) ≡ count_at bs i
  unfolding count_at node_at number size
  later-count i =
      let z : node_size * suc i + 3 ≡ node_size + (node_size * i + 3) = omega arith in
      ap (λ (l : Bytes). spelt 0 (take 1 l)) (ap (λ (n : ℕ). drop n (record_of node k xs ++ bs)) z ∙ sym (drop-drop (node_size * i + 3) node_size (record_of node k xs ++ bs))
      ∙ ap (drop (node_size * i + 3)) (drop_at (record_of node k xs) bs node_size (record-size node k xs)))

  counted-more : counted (record_of node k xs ++ bs) ≡ k + counted bs
  unfolding listed summed size
  counted-more =
      let z : length (record_of node k xs ++ bs) / node_size ≡ suc (length bs / node_size) = omega (arith, length-append (record_of node k xs) bs, record-size node k xs) in
      counted_is (record_of node k xs ++ bs) ∙ ap (λ (n : ℕ). summed (listed (count_at (record_of node k xs ++ bs)) 0 n)) z
      ∙ ap₂ ◌+◌ first_count (ap summed (later-listed (count_at (record_of node k xs ++ bs)) (count_at bs) later-count 0 (length bs / node_size)) ∙ sym (counted_is bs))

-- ---- lines

-- what lines are read as: no more steps lead than there is room for, and these and those that the nodes count are all
record Summed (room lead : ℕ) (ns ss : Bytes) : Type 0 where
  led : lead ≤ room
  all : lead + counted ns ≡ length ss / size step

module _ (f : Form) (xs : Fields) (ls : List Line) (n k : ℕ) (ns ss : Bytes) where
  node-summed : (room : ℕ) (g : Found) → ((l : ℕ) (ms ts : Bytes) → g ≡ found l ms ts → Summed f.room l ms ts) → with_node xs g ≡ found k ns ss → Summed room k ns ss
  unfolding with_node size
  node-summed room (found l ms ts) ih u =
      let a = ih l ms ts refl in
      let x : k ≡ 0 = cc in
      let y : ns ≡ record_of node l xs ++ ms = cc in
      let z : ss ≡ ts = cc in
      record { led = omega arith; all = omega (arith, ap counted y, counted-more l xs ms, a.all, ap length z) }
  node-summed room (wrong m) ih u = let z : ◌≡◌ {A = ℕ} 0 1 = cc in absurd (omega arith)

  step-summed : (room : ℕ) (g : Found) → ((l : ℕ) (ms ts : Bytes) → g ≡ found l ms ts → Summed room l ms ts) → with_step xs g ≡ found k ns ss → Summed (suc room) k ns ss
  unfolding with_step size
  step-summed room (found l ms ts) ih u =
      let a = ih l ms ts refl in
      let x : k ≡ suc l = cc in
      let y : ns ≡ ms = cc in
      let z : ss ≡ record_of step 0 xs ++ ts = cc in
      record { led = omega (arith, a.led); all = omega (arith, ap counted y, a.all, ap length z, length-append (record_of step 0 xs) ts, record-size step 0 xs) }
  step-summed room (wrong m) ih u = let z : ◌≡◌ {A = ℕ} 0 1 = cc in absurd (omega arith)

none-summed : (room k : ℕ) (ns ss : Bytes) → found 0 [] [] ≡ found k ns ss → Summed room k ns ss
unfolding counted nodes_spelt nodes_held listed summed size
none-summed room k ns ss h = let x : k ≡ 0 = cc in let y : ns ≡ [] = cc in let z : ss ≡ [] = cc in record { led = omega arith; all = rw (x, y, z) (omega arith) }

all-summed : (ls : List Line) (room n k : ℕ) (ns ss : Bytes) → read_from room n ls ≡ found k ns ss → Summed room k ns ss
unfolding read_from
all-summed [] room n k ns ss h = none-summed room k ns ss h
all-summed (nothing ∷ ls) room n k ns ss h = all-summed ls room (suc n) k ns ss h
all-summed (unreadable ∷ ls) room n k ns ss h = let z : ◌≡◌ {A = ℕ} 0 1 = cc in absurd (omega arith)
all-summed (entry f xs ∷ ls) room n k ns ss h = go f.sort refl room h (all-summed ls)
  where
    go : (t : Sort) → f.sort ≡ t → (room : ℕ) → read_from room n (entry f xs ∷ ls) ≡ found k ns ss
        → ((room n k : ℕ) (ns ss : Bytes) → read_from room n ls ≡ found k ns ss → Summed room k ns ss) → Summed room k ns ss
    go node e room h ih = node-summed f xs ls n k ns ss room (read_from f.room (suc n) ls) (λ l ms ts u. ih f.room (suc n) l ms ts u) (sym (node-read f xs ls room n e) ∙ h)
    go step e zero h ih = let u : wrong n ≡ found k ns ss = rw (e, read_from) at h in let z : ◌≡◌ {A = ℕ} 0 1 = cc in absurd (omega arith)
    go step e (suc r) h ih = step-summed f xs ls n k ns ss r (read_from r (suc n) ls) (λ l ms ts u. ih r (suc n) l ms ts u) (sym (step-read f xs ls r n e) ∙ h)

pub all-counted : (text ns ss : Bytes) → read_text text ≡ records ns ss → summed (map (λ (x : Node). x.count) (nodes_spelt ns)) ≡ length ss / size step
unfolding read_text counted
all-counted text ns ss h =
    let q = read_found (read_from 0 1 (read_lines text)) ns ss h in
    let a : Summed 0 q.0 ns ss = all-summed (read_lines text) 0 1 q.0 ns ss q.1 in
    omega (arith, a.led, a.all)
