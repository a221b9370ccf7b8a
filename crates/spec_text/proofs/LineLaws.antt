-- A line that was printed is read back as the fields that it says. One lemma over what a line may say, one over the table of lines.
--
use Prim.Native.Nat.{ℕ, ◌≤◌}
use native.Mathlib.Omega.{arith}
use mathlib.Core.Path.{◌≡◌, refl, ap, ◌∙◌, sym}
use mathlib.Core.List.{List, [], ◌∷◌, ◌++◌, map, append_assoc}
use mathlib.Core.Option.{Option, some}
use lib.Dec.{T, leb, leb→le}
use lib.ListN.{get_or, set}
use Rattle.actions.specs.Sets.{EMPTY}
use Rattle.actions.proofs.Tests.{and_left, and_right}
use Rattle.spec_policy.specs.Bytes.{Bytes}
use Rattle.spec_policy.specs.Lists.{every}
use Rattle.spec_text.specs.Words.{ascii, same_bytes, newline, space, mark, ended, words_from, words}
use Rattle.spec_text.specs.Numerals.{decimal}
use Rattle.spec_text.specs.Forms.{Sort, node, step, Fields, Slot, number, actions, place, bound, Form, named, bare}
use Rattle.spec_text.specs.Reading.{took, took_if, members, taken, filled, entry, entry_if, line_of, read_lines}
use Rattle.spec_text.specs.Printing.{listing, spaced, argument, arguments, indent, remark, line_text, said}
use Rattle.spec_text.proofs.WordLaws.{every_append, every-weaker, in_line, lines-first, plain, plain-stays, word_read, Word, word-ends}
use Rattle.spec_text.proofs.NumeralLaws.{numeral-decimal, decimal-word}
use Rattle.spec_text.proofs.MemberLaws.{set-read}

-- ---- the words of what a line says

argument_words : Slot → ℕ → List Bytes
argument_words (number i most) v = decimal v ∷ []
argument_words (actions i) v = ascii "{" ∷ (map decimal (listing v 0 64) ++ (ascii "}" ∷ []))

arguments_words : List Slot → Fields → List Bytes
arguments_words [] xs = []
arguments_words (p ∷ ps) xs = argument_words p (get_or xs (place p) 0) ++ arguments_words ps xs

number-words : (n : ℕ) (rest : Bytes) → words_from [] (decimal n ++ rest) ≡ words_from (decimal n) rest
number-words n rest = word_read (decimal n) rest (decimal-word n).letters

spaced-words : (xs : List ℕ) (rest : Bytes) → words_from [] (spaced xs ++ (ascii "}" ++ rest)) ≡ map decimal xs ++ (ascii "}" ∷ words_from [] rest)
unfolding spaced words_from mark ended ascii
spaced-words [] rest = refl
spaced-words (x ∷ []) rest = number-words x (ascii "}" ++ rest) ∙ word-ends (ascii "}" ∷ words_from [] rest) (decimal-word x)
spaced-words (x ∷ y ∷ ys) rest =
    ap (words_from []) (append_assoc (decimal x) (space ∷ spaced (y ∷ ys)) (ascii "}" ++ rest))
    ∙ number-words x (space ∷ (spaced (y ∷ ys) ++ (ascii "}" ++ rest)))
    ∙ word-ends (words_from [] (spaced (y ∷ ys) ++ (ascii "}" ++ rest))) (decimal-word x)
    ∙ ap (λ (ws : List Bytes). decimal x ∷ ws) (spaced-words (y ∷ ys) rest)

-- after a word w, something and then what ends it
argument-words : (p : Slot) (v : ℕ) (w rest : Bytes) (ws : List Bytes) → ((u : Bytes) → words_from u rest ≡ ended u ws)
    → words_from w (argument p v ++ rest) ≡ ended w (argument_words p v ++ ws)
unfolding argument argument_words words_from mark ended ascii
argument-words (number i most) v w rest ws h = ap (ended w) (number-words v rest ∙ h (decimal v) ∙ word-ends ws (decimal-word v))
argument-words (actions i) v w rest ws h =
    ap (λ (us : List Bytes). ended w (ascii "{" ∷ us))
    (ap (words_from []) (append_assoc (spaced (listing v 0 64)) (ascii "}") rest) ∙ spaced-words (listing v 0 64) rest
    ∙ ap (λ (us : List Bytes). map decimal (listing v 0 64) ++ (ascii "}" ∷ us)) (h []) ∙ sym (append_assoc (map decimal (listing v 0 64)) (ascii "}" ∷ []) ws))

remark-ends : (s : Sort) (rest w : Bytes) → words_from w (remark s ++ rest) ≡ ended w []
unfolding remark words_from mark ended ascii
remark-ends node rest w = refl
remark-ends step rest w = refl

arguments-words : (ps : List Slot) (xs : Fields) (s : Sort) (rest w : Bytes) → words_from w (arguments ps xs ++ (remark s ++ rest)) ≡ ended w (arguments_words ps xs)
unfolding arguments arguments_words
arguments-words [] xs s rest w = remark-ends s rest w
arguments-words (p ∷ ps) xs s rest w =
    ap (words_from w) (append_assoc (argument p (get_or xs (place p) 0)) (arguments ps xs) (remark s ++ rest))
    ∙ argument-words p (get_or xs (place p) 0) w (arguments ps xs ++ (remark s ++ rest)) (arguments_words ps xs) (arguments-words ps xs s rest)

-- ---- what is read of them

taken-read : (p : Slot) (v : ℕ) (ws : List Bytes) → v ≤ bound p → taken p (argument_words p v ++ ws) ≡ took v ws
unfolding argument_words taken took_if bound ascii same_bytes
taken-read (number i most) v ws h = ap (λ (n : Option ℕ). took_if n ws) (numeral-decimal most v h)
taken-read (actions i) v ws h =
    ap (members EMPTY) (append_assoc (map decimal (listing v 0 64)) (ascii "}" ∷ []) ws) ∙ set-read v ws (omega arith)

-- the fields that a line names fit it
abbrev pub Fits : Fields → List Slot → Type 0
Fits xs ps = T (every (λ p. leb (get_or xs (place p) 0) (bound p)) ps)

filled-read : (ps : List Slot) (xs ys : Fields) → Fits xs ps → filled ps (arguments_words ps xs) ys ≡ some (said ps xs ys)
unfolding filled arguments_words said every
filled-read [] xs ys h = refl
filled-read (p ∷ ps) xs ys h =
    let v : ℕ = get_or xs (place p) 0 in
    let e : taken p (argument_words p v ++ arguments_words ps xs) ≡ took v (arguments_words ps xs) =
    taken-read p v (arguments_words ps xs) (leb→le v (bound p) (and_left (leb v (bound p)) (every (λ q. leb (get_or xs (place q) 0) (bound q)) ps) h)) in
    rw (filled, e) (filled-read ps xs (set ys (place p) v) (and_right (leb v (bound p)) (every (λ q. leb (get_or xs (place q) 0) (bound q)) ps) h))

-- ---- no newline in them

pub word_in : {w : Bytes} → Word w → T (every in_line w)
word_in {w} h = every-weaker plain in_line plain-stays w h.letters

spaced-in : (xs : List ℕ) → T (every in_line (spaced xs))
unfolding spaced every in_line
spaced-in [] = tt
spaced-in (x ∷ []) = word_in (decimal-word x)
spaced-in (x ∷ y ∷ ys) = every_append in_line (decimal x) (space ∷ spaced (y ∷ ys)) (word_in (decimal-word x)) (spaced-in (y ∷ ys))

argument-in : (p : Slot) (v : ℕ) → T (every in_line (argument p v))
unfolding argument ascii every in_line
argument-in (number i most) v = word_in (decimal-word v)
argument-in (actions i) v = every_append in_line (spaced (listing v 0 64)) (ascii "}") (spaced-in (listing v 0 64)) tt

arguments-in : (ps : List Slot) (xs : Fields) → T (every in_line (arguments ps xs))
unfolding arguments every
arguments-in [] xs = tt
arguments-in (p ∷ ps) xs = every_append in_line (argument p (get_or xs (place p) 0)) (arguments ps xs) (argument-in p (get_or xs (place p) 0)) (arguments-in ps xs)

indent-in : (s : Sort) → T (every in_line (indent s))
unfolding indent ascii every in_line
indent-in node = tt
indent-in step = tt

remark-in : (s : Sort) → T (every in_line (remark s))
unfolding remark ascii every in_line
remark-in node = tt
remark-in step = tt

-- ---- a whole line

indent-words : (s : Sort) (rest : Bytes) → words_from [] (indent s ++ rest) ≡ words_from [] rest
unfolding indent words_from mark ended ascii
indent-words node rest = refl
indent-words step rest = refl

module _ (f : Form) (name : Word (ascii f.name)) (s : Sort) (xs : Fields) (i : ℕ) where
  line-words : words (line_text s f xs i) ≡ ascii f.name ∷ arguments_words f.slots xs
  unfolding words line_text
  line-words =
      indent-words s (ascii f.name ++ (arguments f.slots xs ++ (remark s ++ decimal i)))
      ∙ word_read (ascii f.name) (arguments f.slots xs ++ (remark s ++ decimal i)) name.letters
      ∙ arguments-words f.slots xs s (decimal i) (ascii f.name) ∙ word-ends (arguments_words f.slots xs) name

  line-in : T (every in_line (line_text s f xs i))
  unfolding line_text
  line-in =
      every_append in_line (indent s) (ascii f.name ++ (arguments f.slots xs ++ (remark s ++ decimal i))) (indent-in s)
      (every_append in_line (ascii f.name) (arguments f.slots xs ++ (remark s ++ decimal i)) (word_in name)
      (every_append in_line (arguments f.slots xs) (remark s ++ decimal i) (arguments-in f.slots xs)
      (every_append in_line (remark s) (decimal i) (remark-in s) (word_in (decimal-word i)))))

  pub line_read : named (ascii f.name) ≡ some f → Fits xs f.slots → (rest : Bytes)
      → read_lines ((line_text s f xs i ++ (newline ∷ [])) ++ rest) ≡ entry f (said f.slots xs (bare f)) ∷ read_lines rest
  unfolding read_lines line_of entry_if
  line_read e h rest =
      ap read_lines (append_assoc (line_text s f xs i) (newline ∷ []) rest)
      ∙ ap (λ (ls : List Bytes). map (λ l. line_of (words l)) ls) (lines-first (line_text s f xs i) rest line-in)
      ∙ ap (λ (ws : List Bytes). line_of ws ∷ read_lines rest) line-words
      ∙ rw (line_of, e, filled-read f.slots xs (bare f) h)
