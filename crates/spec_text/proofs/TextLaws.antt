-- What is printed is read back: of a record, of a leaf's steps, of all records.
use Prim.Native.Nat.{ℕ, zero, suc, ◌+◌, ◌*◌, ◌/◌, ◌≤◌}
use native.Mathlib.Omega.{arith}
use mathlib.Core.Path.{◌≡◌, refl, ap, ◌∙◌, sym, subst}
use mathlib.Core.Bool.{Bool, true, false, ◌&&◌}
use mathlib.Core.List.{List, [], ◌∷◌, ◌++◌, append_assoc}
use mathlib.Core.Option.{Option, none, some}
use lib.Dec.{T, leb, leb→le}
use lib.ListN.{length, get_or, take, drop, take-append-drop}
use lib.Seq.{drop-drop}
use Rattle.actions.proofs.Tests.{of-yes, and_left, and_right}
use Rattle.spec_policy.specs.Bytes.{Bytes}
use Rattle.spec_policy.specs.Lists.{every}
use Rattle.spec_text.specs.Words.{same_bytes, newline, lines_from, lines, words_from, words, ended}
use Rattle.spec_text.specs.Forms.{Sort, node, step, size, Fields, fields_in, record_of, place, bound, Form, of_kind, bare}
use Rattle.spec_text.specs.Reading.{Line, entry, line_of, read_lines, found, with_node, with_step, read_from, records, answer, read_text}
use Rattle.spec_text.specs.Printing.{Print, text, no_text, both, line_text, said, count_in, says, printed_if, record_text, steps_text, nodes_text, printed}
use Rattle.spec_text.proofs.WordLaws.{same-eq}
use Rattle.spec_text.proofs.LineLaws.{line_read}
use Rattle.spec_text.proofs.TableLaws.{Kind, kind-is}

-- ---- a record

-- A record's text is one line, which is read as a form and fields that give the record again.
pub record Line₁ (s : Sort) (bs t : Bytes) : Type 0 where
  pub form : Form
  pub fields : Fields
  pub sort : form.sort ≡ s
  pub room : count_in s bs ≤ form.room
  pub again : record_of s (count_in s bs) fields ≡ bs
  pub reads : (rest : Bytes) → read_lines (t ++ rest) ≡ entry form fields ∷ read_lines rest

module _ (s : Sort) (i : ℕ) (bs t : Bytes) where
  told : (f : Form) → of_kind s (get_or bs 0 0) ≡ some f → (b : Bool) → says s f bs ≡ b → printed_if b (line_text s f (fields_in s bs) i ++ (newline ∷ [])) ≡ text t → Line₁ s bs t
  unfolding says printed_if
  told f h false y u = let z : ◌≡◌ {A = ℕ} 0 1 = cc in absurd (omega arith)
  told f h true y u =
      let k : Kind s f = kind-is s (get_or bs 0 0) f h in
      let q : line_text s f (fields_in s bs) i ++ (newline ∷ []) ≡ t = cc in
      let a = same_bytes (record_of s (count_in s bs) (said f.slots (fields_in s bs) (bare f))) bs in
      let b = every (λ p. leb (get_or (fields_in s bs) (place p) 0) (bound p)) f.slots in
      let c = leb (count_in s bs) f.room in
      let w : T (a && b && c) = of-yes (a && b && c) y in
      let ab : T (a && b) = and_left (a && b) c w in
      record {
        form = f;
        fields = said f.slots (fields_in s bs) (bare f);
        sort = k.sort;
        room = leb→le (count_in s bs) f.room (and_right (a && b) c w);
        again = same-eq (record_of s (count_in s bs) (said f.slots (fields_in s bs) (bare f))) bs (and_left a b ab);
        reads = subst (λ (x : Bytes). (rest : Bytes) → read_lines (x ++ rest) ≡ entry f (said f.slots (fields_in s bs) (bare f)) ∷ read_lines rest) q
            (line_read f k.word s (fields_in s bs) i k.found (and_right a b ab));
      }

  pub record-read : record_text s i bs ≡ text t → Line₁ s bs t
  unfolding record_text
  record-read e = go (of_kind s (get_or bs 0 0)) refl
    where
      go : (o : Option Form) → of_kind s (get_or bs 0 0) ≡ o → Line₁ s bs t
      go none h = let u : no_text ≡ text t = rw (record_text, h) at e in let z : ◌≡◌ {A = ℕ} 0 1 = cc in absurd (omega arith)
      go (some f) h = told f h (says s f bs) refl (rw (record_text, h) at e)

-- ---- texts one after another

pub record Parts (p q : Print) (t : Bytes) : Type 0 where
  pub first : Bytes
  pub second : Bytes
  pub is-first : p ≡ text first
  pub is-second : q ≡ text second
  pub whole : t ≡ first ++ second

pub both-parts : (p q : Print) (t : Bytes) → both p q ≡ text t → Parts p q t
unfolding both
both-parts (text x) (text y) t e = record { first = x; second = y; is-first = refl; is-second = refl; whole = (cc) }
both-parts (text x) no_text t e = let z : ◌≡◌ {A = ℕ} 0 1 = cc in absurd (omega arith)
both-parts no_text q t e = let z : ◌≡◌ {A = ℕ} 0 1 = cc in absurd (omega arith)

-- a text after the first line of one is read after that line
line_first : {s : Sort} {bs t : Bytes} (l : Line₁ s bs t) (u rest : Bytes) → read_lines ((t ++ u) ++ rest) ≡ entry l.form l.fields ∷ read_lines (u ++ rest)
line_first {t = t} l u rest = ap read_lines (append_assoc t u rest) ∙ l.reads (u ++ rest)

-- ---- a leaf's steps, before what follows them

pub step-read : (f : Form) (xs : Fields) (ls : List Line) (r n : ℕ) → f.sort ≡ step → read_from (suc r) n (entry f xs ∷ ls) ≡ with_step xs (read_from r (suc n) ls)
unfolding read_from
step-read f xs ls r n e = rw (e, read_from)

pub node-read : (f : Form) (xs : Fields) (ls : List Line) (r n : ℕ) → f.sort ≡ node → read_from r n (entry f xs ∷ ls) ≡ with_node xs (read_from f.room (suc n) ls)
unfolding read_from
node-read f xs ls r n e = rw (e, read_from)

steps-read : (k j : ℕ) (ss t : Bytes) → steps_text k j ss ≡ text t → (r n : ℕ) (ns rest : Bytes) → k ≤ r
    → ((r n : ℕ) → read_from r n (read_lines rest) ≡ found 0 ns (drop (size step * k) ss))
    → read_from r n (read_lines (t ++ rest)) ≡ found k ns ss
unfolding steps_text with_step count_in
steps-read zero j ss t e r n ns rest l h =
    let q : [] ≡ t = cc in
    let z : size step * 0 ≡ 0 = omega arith in
    subst (λ (x : Bytes). read_from r n (read_lines (x ++ rest)) ≡ found 0 ns ss) q (h r n ∙ ap (λ (m : ℕ). found 0 ns (drop m ss)) z)
steps-read (suc k) j ss t e zero n ns rest l h = absurd (omega arith)
steps-read (suc k) j ss t e (suc r) n ns rest l h =
    let p : Parts (record_text step j (take (size step) ss)) (steps_text k (suc j) (drop (size step) ss)) t =
    both-parts (record_text step j (take (size step) ss)) (steps_text k (suc j) (drop (size step) ss)) t e in
    let x : Line₁ step (take (size step) ss) p.first = record-read step j (take (size step) ss) p.first p.is-first in
    let z : size step + size step * k ≡ size step * suc k = omega arith in
    let after : read_from r (suc n) (read_lines (p.second ++ rest)) ≡ found k ns (drop (size step) ss) =
    steps-read k (suc j) (drop (size step) ss) p.second p.is-second r (suc n) ns rest (omega arith)
    (λ r' n'. h r' n' ∙ ap (found 0 ns) (sym (drop-drop (size step * k) (size step) ss ∙ ap (λ (m : ℕ). drop m ss) z))) in
    ap (λ (u : Bytes). read_from (suc r) n (read_lines (u ++ rest))) p.whole
    ∙ ap (read_from (suc r) n) (line_first x p.second rest)
    ∙ step-read x.form x.fields (read_lines (p.second ++ rest)) r n x.sort
    ∙ ap (with_step x.fields) after
    ∙ ap (found (suc k) ns) (ap (λ (u : Bytes). u ++ drop (size step) ss) x.again ∙ take-append-drop (size step) ss)

-- ---- all records

nodes-read : (k i : ℕ) (ns ss t : Bytes) → nodes_text k i ns ss ≡ text t → (r n : ℕ) → read_from r n (read_lines t) ≡ found 0 ns ss
unfolding nodes_text with_node read_lines lines lines_from words words_from ended line_of read_from
nodes-read zero i [] [] t e r n = let q : [] ≡ t = cc in subst (λ (x : Bytes). read_from r n (read_lines x) ≡ found 0 [] []) q refl
nodes-read zero i [] (s ∷ ss) t e r n = let z : ◌≡◌ {A = ℕ} 0 1 = cc in absurd (omega arith)
nodes-read zero i (b ∷ ns) ss t e r n = let z : ◌≡◌ {A = ℕ} 0 1 = cc in absurd (omega arith)
nodes-read (suc k) i ns ss t e r n =
    let b : Bytes = take (size node) ns in
    let c : ℕ = count_in node b in
    let rest : Print = nodes_text k (suc i) (drop (size node) ns) (drop (size step * c) ss) in
    let p : Parts (record_text node i b) (both (steps_text c 0 ss) rest) t = both-parts (record_text node i b) (both (steps_text c 0 ss) rest) t e in
    let q : Parts (steps_text c 0 ss) rest p.second = both-parts (steps_text c 0 ss) rest p.second p.is-second in
    let x : Line₁ node b p.first = record-read node i b p.first p.is-first in
    let after : read_from x.form.room (suc n) (read_lines (q.first ++ q.second)) ≡ found c (drop (size node) ns) ss =
    steps-read c 0 ss q.first q.is-first x.form.room (suc n) (drop (size node) ns) q.second x.room
    (nodes-read k (suc i) (drop (size node) ns) (drop (size step * c) ss) q.second q.is-second) in
    ap (λ (u : Bytes). read_from r n (read_lines u)) p.whole
    ∙ ap (read_from r n) (x.reads p.second)
    ∙ node-read x.form x.fields (read_lines p.second) r n x.sort
    ∙ ap (λ (u : Bytes). with_node x.fields (read_from x.form.room (suc n) (read_lines u))) q.whole
    ∙ ap (with_node x.fields) after
    ∙ ap (λ (u : Bytes). found 0 u ss) (ap (λ (u : Bytes). u ++ drop (size node) ns) x.again ∙ take-append-drop (size node) ns)

-- "From text to file and back": what records are printed as is read as those records, from whatever line on.
pub read-on : (ns ss t : Bytes) → printed ns ss ≡ text t → (r n : ℕ) → read_from r n (read_lines t) ≡ found 0 ns ss
unfolding printed
read-on ns ss t e r n = nodes-read (length ns / size node) 0 ns ss t e r n

pub read-text : (ns ss t : Bytes) → printed ns ss ≡ text t → read_text t ≡ records ns ss
unfolding read_text answer
read-text ns ss t e = ap answer (read-on ns ss t e 0 1)
