-- A remark before a text: the text's records are read all the same. And the words of a refusal, which may stand in one.
use Prim.Native.Nat.{ℕ}
use Prim.Native.Char.{code}
use mathlib.Core.Path.{◌≡◌, ap, ◌∙◌}
use mathlib.Core.List.{List, ◌∷◌, ◌++◌, map}
use lib.Dec.{T}
use Rattle.spec_policy.specs.Bytes.{Bytes}
use Rattle.spec_policy.specs.Lists.{every}
use Rattle.spec_policy.specs.Records.{Node}
use Rattle.spec_policy.specs.Spots.{Spot, nowhere, on_record, Fault}
use Rattle.spec_text.specs.Words.{ascii, newline, mark, words_from, words, ended}
use Rattle.spec_text.specs.Numerals.{decimal}
use Rattle.spec_text.specs.Forms.{node, step}
use Rattle.spec_text.specs.Reading.{Line, nothing, line_of, read_lines, read_from, records, answer, read_text}
use Rattle.spec_text.specs.Printing.{text, printed}
use Rattle.spec_text.specs.Where.{Which, no_record, aRecord, which, Owner, no_leaf, leaf_at, owner_from, step_words, record_words, nodes_held, nodes_spelt, spot_says, place_words, fault_says}
use Rattle.spec_text.proofs.WordLaws.{every_append, in_line, lines-first}
use Rattle.spec_text.proofs.NumeralLaws.{decimal-word}
use Rattle.spec_text.proofs.LineLaws.{word_in}
use Rattle.spec_text.proofs.TextLaws.{read-on}

-- ---- a remark is a line that says nothing

remark-read : (w t : Bytes) → T (every in_line w) → read_lines ((code "#" ∷ w) ++ (newline ∷ t)) ≡ nothing ∷ read_lines t
unfolding read_lines line_of words words_from mark ended every in_line
remark-read w t h = ap (λ (ls : List Bytes). map (λ l. line_of (words l)) ls) (lines-first (code "#" ∷ w) t h)

pub read-after : (w ns ss t : Bytes) → T (every in_line w) → printed ns ss ≡ text t → read_text ((code "#" ∷ w) ++ (newline ∷ t)) ≡ records ns ss
unfolding read_text answer read_from
read-after w ns ss t h e = ap (λ (ls : List Line). answer (read_from 0 1 ls)) (remark-read w t h) ∙ ap answer (read-on ns ss t e 0 2)

-- ---- no newline in the words of a refusal

number_in : (n : ℕ) → T (every in_line (decimal n))
number_in n = word_in (decimal-word n)

step-in : (s : ℕ) (o : Owner) → T (every in_line (step_words s o))
unfolding step_words ascii every in_line
step-in s no_leaf = every_append in_line (decimal s) (ascii " of no leaf") (number_in s) tt
step-in s (leaf_at i o) = every_append in_line (decimal o) (ascii " of leaf " ++ decimal i) (number_in o) (number_in i)

record-in : (xs : List Node) (w : Which) → T (every in_line (record_words xs w))
unfolding record_words ascii every in_line
record-in xs no_record = tt
record-in xs (aRecord node i) = number_in i
record-in xs (aRecord step i) = step-in i (owner_from 0 xs i)

place_in : (w : Spot) (v : Bytes) → T (every in_line v) → T (every in_line (place_words w v))
unfolding place_words ascii every in_line
place_in nowhere v h = tt
place_in (on_record p) v h = every_append in_line (decimal p) (ascii ": " ++ v) (number_in p) h

pub fault-in : (ns : Bytes) (f : Fault) → T (every in_line (fault_says ns f))
unfolding fault_says spot_says ascii every in_line
fault-in ns f =
    every_append in_line (decimal f.number) (place_words f.spot (spot_says ns f)) (number_in f.number)
    (place_in f.spot (spot_says ns f) (record-in (nodes_spelt ns) (which (nodes_held ns) f)))
