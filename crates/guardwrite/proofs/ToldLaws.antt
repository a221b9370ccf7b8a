-- What reading a text and writing its file gave, and what is printed of it.
use Prim.Native.Nat.{ℕ, ◌*◌, ◌/◌, ◌≤◌, ◌<◌}
use native.Mathlib.Nat.{le_of_eq}
use native.Mathlib.Omega.{arith}
use mathlib.Core.Path.{◌≡◌, refl, sym, ap, ap₂, ◌∙◌, subst}
use mathlib.Core.Bool.{Bool, true, false, ◌&&◌}
use lib.Dec.{T, ltb, leb, leb→le, lit≤}
use lib.ListN.{length, take, replicate, length-replicate}
use lib.Seq.{take_all}
use borrow.Author.Tests.{lt-ltb, le-ltb, ltb-true, ltb-false, le-leb}
use Rattle.actions.proofs.Tests.{true-not-false, of-yes, and_left, and_right}
use Rattle.spec_policy.specs.Bytes.{Bytes, put}
use Rattle.spec_policy.proofs.ByteLaws.{put-length}
use Rattle.spec_policy.specs.Spots.{Fault, bare_fault}
use Rattle.spec_check.specs.Check as check
use Rattle.spec_text.specs.Words.{ascii, lines}
use Rattle.spec_text.specs.Forms.{size}
use Rattle.spec_text.specs.Reading as text
use Rattle.spec_text.specs.Reading.{records, bad_line, read_text, answer}
use Rattle.text_measure.specs.Measures.{sized, sizes_read}
use Rattle.std.specs.Prelude.{Result, Ok, Err}
use Rattle.text_measure.specs.declared.Records.{Records}
use Rattle.text_read.specs.Transcribed.{Transcript, gave, transcribed}
use Rattle.text_read.specs.declared.ReadError.{ReadError}
use Rattle.text_read.specs.declared.ReadError.TheVariants.{BadLine, Short}
use Rattle.text_read.proofs.ReadLaws.{Counts, counts}
use Rattle.spec_writer.specs.Writing as writing
use Rattle.spec_writer.specs.Writing.{holds, Reply, wrote, refuses, writes, written, laid, after}
use Rattle.spec_writer.specs.Lent.{lendable, Lent}
use Rattle.faults.specs.declared.Fault as declared
use Rattle.faults.specs.Meaning.{spot_of, fault_of, fault_value}
use Rattle.faults.proofs.Once.{value-means}
use Rattle.file_writer.specs.Replies.{spoken, Gave}
use Rattle.spec_writer.proofs.Files as files
use Rattle.spec_writer.proofs.Files.{written-length, lendable-lent, by-check, taken-again}
use Rattle.spec_writer.specs.Promises.{Why, unlent, broken, short}
use Rattle.spec_writer.proofs.ReadBack.{read_back, refused_why}
use Rattle.laws_check.specs.Offends.{SmallFault}
use Rattle.laws_check.proofs.Inside.{small-fault}
use Rattle.text_append.specs.Added.{Added, Tells}
use Rattle.text_append.specs.Refusal.{refusal}
use Rattle.text_append.proofs.AddedLaws.{tells, refusal-short}
use Rattle.text_fault.specs.Expected.{line_says, fault_in}
use Rattle.text_fault.proofs.FaultLaws.{says-short}
use Rattle.text_spot.proofs.ShortLaws.{fault-short}
use Rattle.spec_text.specs.Where.{fault_says, spot_line}
use Rattle.guardwrite.specs.Said.{Said, file, message, blamed, filed, answered, most_text, most_says, too_long, node_room, step_room, out_room, made_over, made}
use Rattle.guardwrite.specs.Telling.{said_by, end_of, Telling}
use Rattle.guardwrite.specs.declared.told.Told.{Told}
use Rattle.guardwrite.specs.declared.told.Told.TheVariants.{File, Message}

-- ---- the answer's two cases

pub instead : {b : Bytes} {r : Told} {x y : Said} → Telling b r x → x ≡ y → Telling b r y
instead {b} {r} {x} {y} t e = subst (Telling b r) e t

pub as-message : {b x : Bytes} {n : ℕ} → Tells b n x → Telling b (Message n) (message x)
unfolding said_by end_of
as-message t = record { says = ap message t.text; inside = t.inside }

module _ {b : Bytes} {r : Told} {x : Said} (t : Telling b r x) where
  pub file-inside : {n : ℕ} → r ≡ File n → n ≤ length b
  unfolding end_of
  file-inside e = subst (λ (w : Told). end_of w ≤ length b) e t.inside

  pub message-inside : {n : ℕ} → r ≡ Message n → n ≤ length b
  unfolding end_of
  message-inside e = subst (λ (w : Told). end_of w ≤ length b) e t.inside

-- ---- there is room for a line that is said

module _ {a b : Bytes} {r : ℕ} (n : ℕ) (fits : n < 18_446_744_073_709_551_616) (room : out_room ≤ length a) where
  pub line-tells : (what : Bytes) → length what ≤ 108 → Added a 0 (line_says n what) b r → Tells b r (line_says n what)
  line-tells what h p = tells p (omega (arith, says-short n what fits))

  pub long-tells : (t : Bytes) (m : ℕ) → m ≡ most_text → n ≡ length (lines (take m t)) → Added a 0 (line_says n most_says) b r → Tells b r (too_long t)
  unfolding too_long ascii
  long-tells t m d e p = subst (Tells b r) (ap (λ (k : ℕ). line_says k most_says) (e ∙ ap (λ (k : ℕ). length (lines (take k t))) d)) (line-tells most_says (lit≤ tt) p)

module _ {a b : Bytes} {r : ℕ} (f : Fault) (small : SmallFault f) (room : out_room ≤ length a) where
  pub refused-tells : Added a 0 (refusal f) b r → Tells b r (refusal f)
  refused-tells p = tells p (omega (arith, refusal-short f small.number_small small.spot-small))

  pub blamed-tells : (t ns : Bytes) (n : ℕ) → n < 18_446_744_073_709_551_616 → length ns < 18_446_744_073_709_551_616 → n ≡ spot_line t ns f → Added a 0 (line_says n (fault_says ns f)) b r
      → Tells b r (line_says (spot_line t ns f) (fault_says ns f))
  blamed-tells t ns n fits long e p =
      subst (λ (k : ℕ). Tells b r (line_says k (fault_says ns f))) e
      (line-tells n fits room (fault_says ns f) (fault-short ns long f (omega (arith, small.number_small)) (λ q u. omega (arith, small.spot-small q u))) p)

bare-small : (n : ℕ) → n < 100 → SmallFault (bare_fault n)
bare-small n h = record { number_small = h; spot-small = λ p e. let z : ◌≡◌ {A = ℕ} 0 1 = cc in absurd (omega arith) }

pub three-small : SmallFault (bare_fault 3)
three-small = bare-small 3 (omega arith)

-- ---- the length of the text

made-long-over : (room t : Bytes) → most_text < length t → message (too_long t) ≡ made_over room t
unfolding made_over
made-long-over room t h = sym (rw (made_over, lt-ltb most_text (length t) h))

made-short-over : (room t : Bytes) → length t ≤ most_text → answered room t (read_text t) ≡ made_over room t
unfolding made_over
made-short-over room t h = sym (rw (made_over, le-ltb most_text (length t) h))

-- ---- the writer's answer

module _ (t ns ss out : Bytes) (r : Result ℕ declared.Fault) (bytes : Bytes) (g : Gave (writes ns ss out) r bytes) where
  wrote-is : (q : Reply) (n : ℕ) → Ok n ≡ spoken q → q ≡ wrote n
  unfolding spoken
  wrote-is (wrote k) n e = let z : k ≡ n = cc in ap wrote z
  wrote-is (refuses k) n e = let z : ◌≡◌ {A = ℕ} 0 1 = cc in absurd (omega arith)

  refused-is : (q : Reply) (f : declared.Fault) → Err f ≡ spoken q → q ≡ refuses (fault_of f)
  unfolding spoken
  refused-is (wrote k) f e = let z : ◌≡◌ {A = ℕ} 0 1 = cc in absurd (omega arith)
  refused-is (refuses k) f e = let z : fault_value k ≡ f = cc in ap refuses (sym (value-means f k z))

  long-enough : (n : ℕ) (bs : Bytes) → length (take n bs) ≡ n → n ≤ length bs
  long-enough n bs e = go (ltb (length bs) n) refl
    where
      go : (b : Bool) → ltb (length bs) n ≡ b → n ≤ length bs
      go false q = ltb-false (length bs) n q
      go true q =
          let l : length bs < n = ltb-true (length bs) n q in
          let z : length (take n bs) ≡ length bs = ap length (take_all n bs (omega arith)) in
          absurd (omega arith)

  pub file-wrote : (n : ℕ) → r ≡ Ok n → Telling bytes (File n) (filed t ns (writes ns ss out))
  unfolding filed said_by end_of
  file-wrote n e =
      let q : (writes ns ss out).reply ≡ wrote n = wrote-is (writes ns ss out).reply n (sym e ∙ g.answer) in
      let b = read_back ns ss out n q in
      record {
        says = ap (λ (x : Bytes). file (take n x)) g.out ∙ sym (rw (filed, q));
        inside = long-enough n bytes (ap (λ (x : Bytes). length (take n x)) g.out ∙ ap length b.made ∙ sym b.size);
      }

  small : (f : Fault) → Why ns ss out f → SmallFault f
  small f (unlent h) = three-small
  small f (broken l h four ten) = small-fault (written ns ss) f h
  small f (short l h k) = bare-small 15 (omega arith)

  pub file-small : (f : declared.Fault) → r ≡ Err f → SmallFault (fault_of f)
  file-small f e = small (fault_of f) (refused_why ns ss out (fault_of f) (refused-is (writes ns ss out).reply f (sym e ∙ g.answer))).1

  pub file-refused : (f : declared.Fault) → r ≡ Err f → message (blamed (spot_of f.spot) t ns (fault_of f)) ≡ filed t ns (writes ns ss out)
  unfolding filed fault_of
  file-refused f e =
      let q : (writes ns ss out).reply ≡ refuses (fault_of f) = refused-is (writes ns ss out).reply f (sym e ∙ g.answer) in
      sym (rw (filed, q))

-- ---- what the output held before does not matter

module _ (a b : Bytes) (long : out_room ≤ length a) (long' : out_room ≤ length b) where
  module _ (t ns ss : Bytes) where
    laid-whole : (c bytes : Bytes) → length bytes ≤ length c → filed t ns (laid bytes c) ≡ file bytes
    unfolding filed laid
    laid-whole c bytes h = rw (laid, le-ltb (length c) (length bytes) h) (ap file (taken-again c refl refl))

    same_after : (x : check.Answer) (bytes : Bytes) → length bytes ≤ out_room → filed t ns (after x bytes a) ≡ filed t ns (after x bytes b)
    unfolding filed after writing.refusal
    same_after (check.passes r e) bytes h = laid-whole a bytes (omega arith) ∙ sym (laid-whole b bytes (omega arith))
    same_after (check.refused f) bytes h = refl

    same-file : filed t ns (writes ns ss a) ≡ filed t ns (writes ns ss b)
    unfolding filed writing.refusal
    same-file = go (lendable ns ss) refl
      where
        go : (x : Bool) → lendable ns ss ≡ x → filed t ns (writes ns ss a) ≡ filed t ns (writes ns ss b)
        go false e = ap (filed t ns) (files.unlent ns ss a e) ∙ sym (ap (filed t ns) (files.unlent ns ss b e))
        go true e =
            let l : Lent ns ss = lendable-lent ns ss e in
            ap (filed t ns) (by-check ns ss a l)
            ∙ same_after (check.check (written ns ss)) (written ns ss) (omega (arith, written-length ns ss, l.node-bytes, l.step-bytes, l.few-nodes, l.few-steps))
            ∙ sym (ap (filed t ns) (by-check ns ss b l))

  same_answer : (t : Bytes) (r : text.Read) → answered a t r ≡ answered b t r
  unfolding answered
  same_answer t (records ns ss) = same-file t ns ss
  same_answer t (bad_line n) = refl

  made-same : (t : Bytes) → made_over a t ≡ made_over b t
  unfolding made_over
  made-same t = go (ltb most_text (length t)) refl
    where
      go : (x : Bool) → ltb most_text (length t) ≡ x → made_over a t ≡ made_over b t
      go true e = rw (made_over, e)
      go false e = rw (made_over, e) (same_answer t (read_text t))

made-any : (room t : Bytes) → out_room ≤ length room → made_over room t ≡ made t
unfolding made
made-any room t h = made-same room (replicate out_room 0) h (le_of_eq (sym (length-replicate {A = ℕ} out_room 0))) t

module _ (room t : Bytes) (long : out_room ≤ length room) where
  pub made-long : most_text < length t → message (too_long t) ≡ made t
  made-long h = made-long-over room t h ∙ made-any room t long

  pub made-short : length t ≤ most_text → answered room t (read_text t) ≡ made t
  made-short h = made-short-over room t h ∙ made-any room t long

-- ---- the reader's answer

-- The records stand at the front of the buffers, and what is printed is the writer's answer about them.
pub record Stand (t N S : Bytes) (n m : ℕ) (N' S' out : Bytes) : Type 0 where
  pub few-nodes : 16 * n ≤ length N
  pub few-steps : 12 * m ≤ length S
  pub nodes : length N' ≡ length N
  pub steps : length S' ≡ length S
  pub says : filed t (take (16 * n) N') (writes (take (16 * n) N') (take (12 * m) S') out) ≡ answered out t (read_text t)

abbrev Answer : Type 0
Answer = Result Records ReadError

abbrev read : ℕ → ℕ → Answer
read n m = Ok (record { nodes = n; steps = m })

abbrev bad : ℕ → Answer
bad l = Err (BadLine l)

abbrev too_short : Answer
too_short = Err Short

-- the three answers differ
abbrev code : Answer → ℕ
code (Ok r) = 0
code (Err (BadLine l)) = 1
code (Err Short) = 2

same-read : {n m n' m' : ℕ} → read n m ≡ read n' m' → (n' ≡ n) × (m' ≡ m)
same-read e = (sym (ap nodes-of e), sym (ap steps-of e))
  where
    nodes-of : Answer → ℕ
    nodes-of (Ok r) = r.nodes
    nodes-of (Err e) = 0

    steps-of : Answer → ℕ
    steps-of (Ok r) = r.steps
    steps-of (Err e) = 0

unlike : {A : Type 0} (a b : Answer) → (code a ≡ code b → ⊥) → a ≡ b → A
unlike a b n e = absurd (n (ap code e))

answer-of : {a b : Answer} {ns ss ns' ss' : Bytes} → gave a ns ss ≡ gave b ns' ss' → a ≡ b
answer-of e = ap (λ (x : Transcript). x.answer) e

module _ (t N S N' S' out : Bytes) where
  -- whether the records find room
  abbrev fits : Bytes → Bytes → Bool
  fits ns ss = leb (length ns) (length N) && leb (length ss) (length S)

  record Given (ns ss : Bytes) (b : Bool) (a : Answer) : Type 0 where
    is : read_text t ≡ records ns ss
    fit : fits ns ss ≡ b
    answers : transcribed (records ns ss) N S ≡ gave a N' S'

  given-false : {ns ss : Bytes} {a : Answer} → Given ns ss false a → too_short ≡ a
  unfolding transcribed
  given-false g = answer-of (rw (transcribed, g.fit) at g.answers)

  given-true : {ns ss : Bytes} {a : Answer} → Given ns ss true a → gave (read (length ns / 16) (length ss / 12)) (put N 0 ns) (put S 0 ss) ≡ gave a N' S'
  unfolding transcribed size
  given-true g = rw (transcribed, g.fit) at g.answers

  stand : (n m : ℕ) (ns ss : Bytes) → Given ns ss true (read n m) → Stand t N S n m N' S' out
  unfolding answered read_text answer sizes_read size
  stand n m ns ss g =
      let e = given-true g in
      let u : read (length ns / 16) (length ss / 12) ≡ read n m = answer-of e in
      let x : n ≡ length ns / 16 = (same-read u).0 in
      let y : m ≡ length ss / 12 = (same-read u).1 in
      let w : Counts t N S n m = counts t N S n m (ap₂ sized x y ∙ sym (ap sizes_read g.is)) in
      let v : records w.nodes w.steps ≡ records ns ss = sym (ap answer w.reads) ∙ g.is in
      let p : w.nodes ≡ ns = cc in
      let q : w.steps ≡ ss = cc in
      let a : 16 * n ≡ length ns = sym w.nodes_long ∙ ap length p in
      let b : 12 * m ≡ length ss = sym w.steps_long ∙ ap length q in
      let f : T (fits ns ss) = of-yes (fits ns ss) g.fit in
      let h = leb→le (length ns) (length N) (and_left (leb (length ns) (length N)) (leb (length ss) (length S)) f) in
      let k = leb→le (length ss) (length S) (and_right (leb (length ns) (length N)) (leb (length ss) (length S)) f) in
      let N-is : N' ≡ put N 0 ns = sym (ap (λ (r : Transcript). r.nodes) e) in
      let S-is : S' ≡ put S 0 ss = sym (ap (λ (r : Transcript). r.steps) e) in
      record {
        few-nodes = omega arith;
        few-steps = omega arith;
        nodes = ap length N-is ∙ put-length N 0 ns (omega arith);
        steps = ap length S-is ∙ put-length S 0 ss (omega arith);
        says = ap₂ (λ (x y : Bytes). filed t x (writes x y out)) (taken-again N a N-is) (taken-again S b S-is) ∙ sym (ap (answered out t) g.is);
      }

  by_answer : {C : Type 0} (a : Answer) → ((l : ℕ) → read_text t ≡ bad_line l → bad l ≡ a → C) → ((ns ss : Bytes) (b : Bool) → Given ns ss b a → C)
      → transcribed (read_text t) N S ≡ gave a N' S' → C
  unfolding transcribed
  by_answer {C} a wrong good = go (read_text t) refl
    where
      go : (r : text.Read) → read_text t ≡ r → transcribed r N S ≡ gave a N' S' → C
      go (bad_line l) q e = wrong l q (answer-of e)
      go (records ns ss) q e = good ns ss (fits ns ss) (record { is = q; fit = refl; answers = e })

  pub was_read : (n m : ℕ) → transcribed (read_text t) N S ≡ gave (read n m) N' S' → Stand t N S n m N' S' out
  was_read n m = by_answer (read n m) (λ l q e. unlike (bad l) (read n m) (λ z. omega arith) e) go
    where
      go : (ns ss : Bytes) (b : Bool) → Given ns ss b (read n m) → Stand t N S n m N' S' out
      go ns ss true g = stand n m ns ss g
      go ns ss false g = unlike too_short (read n m) (λ z. omega arith) (given-false g)

  pub was-bad : (l : ℕ) → transcribed (read_text t) N S ≡ gave (bad l) N' S' → message (line_says l (fault_in t l)) ≡ answered out t (read_text t)
  unfolding answered
  was-bad l = by_answer (bad l) (λ k q e. said k e ∙ sym (ap (answered out t) q)) go
    where
      said : (k : ℕ) → bad k ≡ bad l → message (line_says l (fault_in t l)) ≡ message (line_says k (fault_in t k))
      said k e = let z : l ≡ k = cc in ap (λ (x : ℕ). message (line_says x (fault_in t x))) z

      go : (ns ss : Bytes) (b : Bool) → Given ns ss b (bad l) → message (line_says l (fault_in t l)) ≡ answered out t (read_text t)
      go ns ss true g = unlike (read (length ns / 16) (length ss / 12)) (bad l) (λ z. omega arith) (answer-of (given-true g))
      go ns ss false g = unlike too_short (bad l) (λ z. omega arith) (given-false g)

  module _ (nodes : node_room ≡ length N) (steps : step_room ≡ length S) where
    -- more than fits is more than a file may have
    too_many : (ns ss : Bytes) → fits ns ss ≡ false → message (refusal (bare_fault 3)) ≡ filed t ns (writes ns ss out)
    unfolding filed blamed writing.refusal holds
    too_many ns ss k = go (lendable ns ss) refl
      where
        go : (b : Bool) → lendable ns ss ≡ b → message (refusal (bare_fault 3)) ≡ filed t ns (writes ns ss out)
        go false e = sym (ap (filed t ns) (files.unlent ns ss out e))
        go true e =
            let l : Lent ns ss = lendable-lent ns ss e in
            let a = le-leb (length ns) (length N) (omega (arith, l.node-bytes, l.few-nodes)) in
            let b = le-leb (length ss) (length S) (omega (arith, l.step-bytes, l.few-steps)) in
            true-not-false (ap₂ (λ (x y : Bool). x && y) a b) k

    pub was-short : transcribed (read_text t) N S ≡ gave too_short N' S' → message (refusal (bare_fault 3)) ≡ answered out t (read_text t)
    unfolding answered
    was-short = by_answer too_short (λ l q e. unlike (bad l) too_short (λ z. omega arith) e) go
      where
        go : (ns ss : Bytes) (b : Bool) → Given ns ss b too_short → message (refusal (bare_fault 3)) ≡ answered out t (read_text t)
        go ns ss true g = unlike (read (length ns / 16) (length ss / 12)) too_short (λ z. omega arith) (answer-of (given-true g))
        go ns ss false g = too_many ns ss g.fit ∙ sym (ap (answered out t) g.is)
