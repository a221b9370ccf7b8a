-- The line that is named for a record is the one that the record was read from.
use Prim.Native.Nat.{ℕ, zero, suc, ◌+◌, ◌-◌, ◌*◌, ◌≤◌, ◌<◌}
use native.Mathlib.Omega.{arith}
use mathlib.Core.Path.{◌≡◌, refl, sym, ap, ◌∙◌, subst}
use mathlib.Core.Bool.{Bool, true, false}
use mathlib.Core.List.{List, [], ◌∷◌, ◌++◌, map}
use lib.ListN.{length, get_or, take, drop, length-append, length-map}
use lib.Seq.{take_at, drop_at, drop-drop}
use Rattle.spec_policy.specs.Bytes.{Bytes, spelt, number}
use Rattle.spec_policy.specs.Lists.{one}
use Rattle.spec_policy.specs.Records.{node_at}
use Rattle.spec_policy.specs.Parts
use Rattle.spec_text.specs.Words.{lines, words}
use Rattle.spec_text.specs.Forms.{Sort, node, step, same_sort, size, Fields, record_of, Form}
use Rattle.spec_text.specs.Printing.{count_in}
use Rattle.spec_text.specs.Reading.{Line, nothing, unreadable, entry, line_of, read_lines, Found, found, wrong, with_node, with_step, read_from, records, answer, read_text}
use Rattle.spec_text.specs.Where.{is_of, line_from, line_of_record, record_in, how_many, Source, run_of, Sourced}
use Rattle.spec_text.proofs.RecordLaws.{record-size}
use Rattle.spec_text.proofs.TextLaws.{step-read, node-read}

-- ---- a run of records

count-is : (s : Sort) (k : ℕ) (xs : Fields) → record_of s (count_in s (record_of s k xs)) xs ≡ record_of s k xs
unfolding record_of count_in node_at number spelt Parts.node
count-is node k xs = let z : 0 * 256 + k ≡ k = omega arith in ap (λ (c : ℕ). record_of node c xs) z
count-is step k xs = refl

module _ (s : Sort) (r bs : Bytes) (h : length r ≡ size s) where
  first-in : record_in s (r ++ bs) 0 ≡ r
  unfolding record_in
  first-in = let z : size s * 0 ≡ 0 = omega arith in ap (λ (n : ℕ). take (size s) (drop n (r ++ bs))) z ∙ take_at r bs (size s) h

  later-in : (i : ℕ) → record_in s (r ++ bs) (suc i) ≡ record_in s bs i
  unfolding record_in
  later-in i =
      let z : size s * suc i ≡ size s + size s * i = omega arith in
      ap (take (size s)) (ap (λ (n : ℕ). drop n (r ++ bs)) z ∙ sym (drop-drop (size s * i) (size s) (r ++ bs)) ∙ ap (drop (size s * i)) (drop_at r bs (size s) h))

-- ---- one line

same-sort : (t s : Sort) → same_sort t s ≡ true → t ≡ s
unfolding same_sort
same-sort node node e = refl
same-sort node step e = let z : ◌≡◌ {A = ℕ} 0 1 = cc in absurd (omega arith)
same-sort step node e = let z : ◌≡◌ {A = ℕ} 0 1 = cc in absurd (omega arith)
same-sort step step e = refl

-- A record's line was read: so was what follows it, and its record stands first among those of its sort.
record Before (f : Form) (xs : Fields) (ls : List Line) (n : ℕ) (ns ss : Bytes) : Type 0 where
  room : ℕ
  lead : ℕ
  nodes : Bytes
  steps : Bytes
  count : ℕ
  rest : read_from room (suc n) ls ≡ found lead nodes steps
  first : (s : Sort) → same_sort f.sort s ≡ true → run_of s ns ss ≡ record_of s count xs ++ run_of s nodes steps
  other : (s : Sort) → same_sort f.sort s ≡ false → run_of s ns ss ≡ run_of s nodes steps

module _ (f : Form) (xs : Fields) (ls : List Line) (n k : ℕ) (ns ss : Bytes) where
  before-node : (r : ℕ) → f.sort ≡ node → (g : Found) → read_from f.room (suc n) ls ≡ g → with_node xs g ≡ found k ns ss → Before f xs ls n ns ss
  unfolding with_node same_sort run_of
  before-node r e (found l ns' ss') h u = record {
    room = f.room;
    lead = l;
    nodes = ns';
    steps = ss';
    count = l;
    rest = h;
    first = λ s w. first s (ap (λ (t : Sort). same_sort t s) (sym e) ∙ w);
    other = λ s w. other s (ap (λ (t : Sort). same_sort t s) (sym e) ∙ w);
  }
    where
      first : (s : Sort) → same_sort node s ≡ true → run_of s ns ss ≡ record_of s l xs ++ run_of s ns' ss'
      first node w = cc
      first step w = let z : ◌≡◌ {A = ℕ} 0 1 = cc in absurd (omega arith)

      other : (s : Sort) → same_sort node s ≡ false → run_of s ns ss ≡ run_of s ns' ss'
      other node w = let z : ◌≡◌ {A = ℕ} 0 1 = cc in absurd (omega arith)
      other step w = cc
  before-node r e (wrong m) h u = let z : ◌≡◌ {A = ℕ} 0 1 = cc in absurd (omega arith)

  before-step : (r : ℕ) → f.sort ≡ step → (g : Found) → read_from r (suc n) ls ≡ g → with_step xs g ≡ found k ns ss → Before f xs ls n ns ss
  unfolding with_step same_sort run_of
  before-step r e (found l ns' ss') h u = record {
    room = r;
    lead = l;
    nodes = ns';
    steps = ss';
    count = 0;
    rest = h;
    first = λ s w. first s (ap (λ (t : Sort). same_sort t s) (sym e) ∙ w);
    other = λ s w. other s (ap (λ (t : Sort). same_sort t s) (sym e) ∙ w);
  }
    where
      first : (s : Sort) → same_sort step s ≡ true → run_of s ns ss ≡ record_of s 0 xs ++ run_of s ns' ss'
      first step w = cc
      first node w = let z : ◌≡◌ {A = ℕ} 0 1 = cc in absurd (omega arith)

      other : (s : Sort) → same_sort step s ≡ false → run_of s ns ss ≡ run_of s ns' ss'
      other step w = let z : ◌≡◌ {A = ℕ} 0 1 = cc in absurd (omega arith)
      other node w = cc
  before-step r e (wrong m) h u = let z : ◌≡◌ {A = ℕ} 0 1 = cc in absurd (omega arith)

  before : (r : ℕ) → read_from r n (entry f xs ∷ ls) ≡ found k ns ss → Before f xs ls n ns ss
  unfolding read_from
  before r h = go f.sort refl r h
    where
      go : (t : Sort) → f.sort ≡ t → (r : ℕ) → read_from r n (entry f xs ∷ ls) ≡ found k ns ss → Before f xs ls n ns ss
      go node e r h = before-node r e (read_from f.room (suc n) ls) refl (sym (node-read f xs ls r n e) ∙ h)
      go step e zero h = let u : wrong n ≡ found k ns ss = rw (e, read_from) at h in let z : ◌≡◌ {A = ℕ} 0 1 = cc in absurd (omega arith)
      go step e (suc r) h = before-step r e (read_from r (suc n) ls) refl (sym (step-read f xs ls r n e) ∙ h)

-- ---- the line of record i, of lines from number n on

record At (s : Sort) (i : ℕ) (ls : List Line) (n line : ℕ) (bs : Bytes) : Type 0 where
  offset : ℕ
  number : line ≡ n + offset
  inside : offset < length ls
  form : Form
  fields : Fields
  sort : form.sort ≡ s
  read : get_or ls offset nothing ≡ entry form fields
  before : how_many s (take offset ls) ≡ i
  made : record_of s (count_in s bs) fields ≡ bs

-- behind one line more
behind : {s : Sort} {i : ℕ} {ls : List Line} {n line : ℕ} {bs : Bytes} (l : Line) (j : ℕ) → one (is_of s l) + i ≡ j → At s i ls (suc n) line bs → At s j (l ∷ ls) n line bs
unfolding how_many
behind {s} l j e a = record {
  offset = suc a.offset;
  number = omega (arith, a.number);
  inside = omega (arith, a.inside);
  form = a.form;
  fields = a.fields;
  sort = a.sort;
  read = a.read;
  before = ap (λ (k : ℕ). one (is_of s l) + k) a.before ∙ e;
  made = a.made;
}

none_left : (s : Sort) (k n i : ℕ) (ns ss : Bytes) → found 0 [] [] ≡ found k ns ss → size s * suc i ≤ length (run_of s ns ss) → ⊥
unfolding run_of size
none_left node k n i ns ss h l = let z : [] ≡ ns = cc in omega (arith, ap length z)
none_left step k n i ns ss h l = let z : [] ≡ ss = cc in omega (arith, ap length z)

module _ (s : Sort) where
  abbrev Placed : List Line → Type 0
  Placed ls = (room n k : ℕ) (ns ss : Bytes) → read_from room n ls ≡ found k ns ss → (i : ℕ) → size s * suc i ≤ length (run_of s ns ss) → At s i ls n (line_from s i n ls) (record_in s (run_of s ns ss) i)

  module _ (f : Form) (xs : Fields) (ls : List Line) (ih : Placed ls) (n : ℕ) (ns ss : Bytes) (b : Before f xs ls n ns ss) where
    abbrev r : Bytes
    r = record_of s b.count xs

    abbrev tail : Bytes
    tail = run_of s b.nodes b.steps

    module _ (w : same_sort f.sort s ≡ true) where
      entry_first : At s 0 (entry f xs ∷ ls) n (line_from s 0 n (entry f xs ∷ ls)) (record_in s (run_of s ns ss) 0)
      unfolding line_from is_of how_many
      entry_first =
          let z : record_in s (run_of s ns ss) 0 ≡ r = ap (λ (x : Bytes). record_in s x 0) (b.first s w) ∙ first-in s r tail (record-size s b.count xs) in
          record {
            offset = 0;
            number = rw (line_from, w) (omega arith);
            inside = omega arith;
            form = f;
            fields = xs;
            sort = same-sort f.sort s w;
            read = refl;
            before = refl;
            made = ap (λ (x : Bytes). record_of s (count_in s x) xs) z ∙ count-is s b.count xs ∙ sym z;
          }

      entry-later : (i : ℕ) → size s * suc (suc i) ≤ length (run_of s ns ss) → At s (suc i) (entry f xs ∷ ls) n (line_from s (suc i) n (entry f xs ∷ ls)) (record_in s (run_of s ns ss) (suc i))
      unfolding line_from is_of one
      entry-later i l =
          let m : length (run_of s ns ss) ≡ size s + length tail = ap length (b.first s w) ∙ length-append r tail ∙ ap (λ (k : ℕ). k + length tail) (record-size s b.count xs) in
          let a : At s i ls (suc n) (line_from s i (suc n) ls) (record_in s tail i) = ih b.room (suc n) b.lead b.nodes b.steps b.rest i (omega arith) in
          let e : line_from s i (suc n) ls ≡ line_from s (suc i) n (entry f xs ∷ ls) = rw (line_from, w) in
          let z : record_in s tail i ≡ record_in s (run_of s ns ss) (suc i) = sym (ap (λ (x : Bytes). record_in s x (suc i)) (b.first s w) ∙ later-in s r tail (record-size s b.count xs) i) in
          subst (λ (x : Bytes). At s (suc i) (entry f xs ∷ ls) n (line_from s (suc i) n (entry f xs ∷ ls)) x) z
          (subst (λ (x : ℕ). At s (suc i) (entry f xs ∷ ls) n x (record_in s tail i)) e (behind (entry f xs) (suc i) (rw w (omega arith)) a))

    entry_other : same_sort f.sort s ≡ false → (i : ℕ) → size s * suc i ≤ length (run_of s ns ss) → At s i (entry f xs ∷ ls) n (line_from s i n (entry f xs ∷ ls)) (record_in s (run_of s ns ss) i)
    unfolding line_from is_of one
    entry_other w i l =
        let z : run_of s ns ss ≡ tail = b.other s w in
        let a : At s i ls (suc n) (line_from s i (suc n) ls) (record_in s tail i) = ih b.room (suc n) b.lead b.nodes b.steps b.rest i (omega (arith, ap length z)) in
        let e : line_from s i (suc n) ls ≡ line_from s i n (entry f xs ∷ ls) = rw (line_from, w) in
        subst (λ (x : Bytes). At s i (entry f xs ∷ ls) n (line_from s i n (entry f xs ∷ ls)) (record_in s x i)) (sym z)
        (subst (λ (x : ℕ). At s i (entry f xs ∷ ls) n x (record_in s tail i)) e (behind (entry f xs) i (rw w (omega arith)) a))

    entry_at : (i : ℕ) → size s * suc i ≤ length (run_of s ns ss) → At s i (entry f xs ∷ ls) n (line_from s i n (entry f xs ∷ ls)) (record_in s (run_of s ns ss) i)
    entry_at i l = go (same_sort f.sort s) refl i l
      where
        go : (x : Bool) → same_sort f.sort s ≡ x → (i : ℕ) → size s * suc i ≤ length (run_of s ns ss) → At s i (entry f xs ∷ ls) n (line_from s i n (entry f xs ∷ ls)) (record_in s (run_of s ns ss) i)
        go true w zero l = entry_first w
        go true w (suc i) l = entry-later w i l
        go false w i l = entry_other w i l

  placed : (ls : List Line) → Placed ls
  unfolding read_from line_from is_of one
  placed [] room n k ns ss h i l = absurd (none_left s k n i ns ss h l)
  placed (nothing ∷ ls) room n k ns ss h i l = behind nothing i (omega arith) (placed ls room (suc n) k ns ss h i l)
  placed (unreadable ∷ ls) room n k ns ss h i l = let z : ◌≡◌ {A = ℕ} 0 1 = cc in absurd (omega arith)
  placed (entry f xs ∷ ls) room n k ns ss h i l = entry_at f xs ls (placed ls) n ns ss (before f xs ls n k ns ss room h) i l

-- ---- the line of a text

map_at : {A B : Type 0} (g : A → B) (xs : List A) (a : A) (b : B) (i : ℕ) → i < length xs → get_or (map g xs) i b ≡ g (get_or xs i a)
map_at g [] a b i h = absurd (omega arith)
map_at g (x ∷ xs) a b zero h = refl
map_at g (x ∷ xs) a b (suc i) h = map_at g xs a b i (omega arith)

pub read_found : (g : Found) (ns ss : Bytes) → answer g ≡ records ns ss → (k : ℕ) × (g ≡ found k ns ss)
unfolding answer
read_found (found k ns' ss') ns ss h = (k, cc)
read_found (wrong n) ns ss h = let z : ◌≡◌ {A = ℕ} 0 1 = cc in absurd (omega arith)

module _ (text ns ss : Bytes) (h : read_text text ≡ records ns ss) where
  sourced : (s : Sort) (i : ℕ) → size s * suc i ≤ length (run_of s ns ss) → Source text s i (record_in s (run_of s ns ss) i) (line_from s i 1 (read_lines text))
  unfolding read_text read_lines
  sourced s i l =
      let q = read_found (read_from 0 1 (read_lines text)) ns ss h in
      let a : At s i (read_lines text) 1 (line_from s i 1 (read_lines text)) (record_in s (run_of s ns ss) i) = placed s (read_lines text) 0 1 q.0 ns ss q.1 i l in
      let m : length (read_lines text) ≡ length (lines text) = length-map (lines text) (λ x. line_of (words x)) in
      let z : line_from s i 1 (read_lines text) - 1 ≡ a.offset = omega (arith, a.number) in
      let k : a.offset < length (lines text) = omega (arith, a.inside) in
      record {
        from_one = omega (arith, a.number);
        inside = omega (arith, a.number);
        form = a.form;
        fields = a.fields;
        sort = a.sort;
        read = ap (λ (n : ℕ). line_of (words (get_or (lines text) n []))) z ∙ sym (map_at (λ x. line_of (words x)) (lines text) [] nothing a.offset k) ∙ a.read;
        before = ap (λ (n : ℕ). how_many s (take n (read_lines text))) z ∙ a.before;
        made = a.made;
      }

  pub each-sourced : Sourced text ns ss
  unfolding Sourced line_of_record size
  each-sourced node i l = sourced node i (omega arith)
  each-sourced step i l = sourced step i (omega arith)
