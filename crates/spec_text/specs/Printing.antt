-- What records are printed as.
use Rattle.std.specs.Prelude.{ℕ, zero, suc, ◌+◌, ◌*◌, ◌/◌, min, Bool, true, false, ◌&&◌, List, [], ◌∷◌, ◌++◌, leb, length, get_or, set, take, drop}
use Prim.Native.Char.{code}
use Rattle.std.proofs.Math.Option.{none, some}
use Rattle.actions.specs.Sets.{ActionSet, has}
use Rattle.spec_policy.specs.Bytes.{Bytes}
use Rattle.spec_policy.specs.Lists.{every}
use Rattle.spec_policy.specs.Records.{node_at}
use Rattle.spec_text.specs.Words.{ascii, same_bytes, newline, space}
use Rattle.spec_text.specs.Numerals.{decimal}
use Rattle.spec_text.specs.Forms.{Sort, node, step, size, Fields, fields_in, record_of, Slot, number, actions, place, bound, Form, of_kind, bare}

-- A text, or none: these records have no text.
pub data Print : Type 0 where
  text : Bytes → Print
  no_text : Print

unfoldable pub both : Print → Print → Print
both (text t) (text u) = text (t ++ u)
both (text t) no_text = no_text
both no_text p = no_text

-- the actions of s among a, a + 1, .. : n of them
unfoldable pub listing : ActionSet → ℕ → ℕ → List ℕ
listing s a zero = []
listing s a (suc n) = elim (has s a) [ true ↦ a ∷ listing s (suc a) n | false ↦ listing s (suc a) n ]

-- a space between two
unfoldable pub spaced : List ℕ → Bytes
spaced [] = []
spaced (a ∷ []) = decimal a
spaced (a ∷ b ∷ bs) = decimal a ++ (space ∷ spaced (b ∷ bs))

unfoldable pub argument : Slot → ℕ → Bytes
unfolding listing spaced
argument (number i most) v = space ∷ decimal v
argument (actions i) v = space ∷ code "{" ∷ (spaced (listing v 0 64) ++ (code "}" ∷ []))

unfoldable pub arguments : List Slot → Fields → Bytes
unfolding argument
arguments [] xs = []
arguments (p ∷ ps) xs = argument p (get_or xs (place p) 0) ++ arguments ps xs

-- A step's line is indented. After its record a line says the record's number: of a node in the policy, of a step in its leaf.
unfoldable pub indent : Sort → Bytes
indent node = []
indent step = ascii "  "

unfoldable pub title : Sort → Bytes
title node = ascii "# node "
title step = ascii "# step "

unfoldable pub remark : Sort → Bytes
unfolding title
remark s = ascii "  " ++ title s

unfoldable pub line_text : Sort → Form → Fields → ℕ → Bytes
unfolding arguments indent remark
line_text s f xs i = indent s ++ (ascii f.name ++ (arguments f.slots xs ++ (remark s ++ decimal i)))

-- the fields that the line says, over others
unfoldable pub said : List Slot → Fields → Fields → Fields
said [] xs ys = ys
said (p ∷ ps) xs ys = said ps xs (set ys (place p) (get_or xs (place p) 0))

-- how many steps a record counts
unfoldable pub count_in : Sort → Bytes → ℕ
count_in node bs = (node_at bs 0).count
count_in step bs = 0

-- The line of this form says the whole record: what it names fits, all else is zero, and as many steps may follow as are counted.
unfoldable pub says : Sort → Form → Bytes → Bool
says s f bs =
    same_bytes (record_of s (count_in s bs) (said f.slots (fields_in s bs) (bare f))) bs
    && every (λ p. leb (get_or (fields_in s bs) (place p) 0) (bound p)) f.slots
    && leb (count_in s bs) f.room

unfoldable pub printed_if : Bool → Bytes → Print
printed_if true t = text t
printed_if false t = no_text

-- a record's line, where it has one
unfoldable pub record_text : Sort → ℕ → Bytes → Print
record_text s i bs = elim (of_kind s (get_or bs 0 0)) [ none ↦ no_text | some f ↦ printed_if (says s f bs) (line_text s f (fields_in s bs) i ++ (newline ∷ [])) ]

-- a leaf's steps, from number j on
unfoldable pub steps_text : ℕ → ℕ → Bytes → Print
steps_text zero j ss = text []
steps_text (suc n) j ss = both (record_text step j (take (size step) ss)) (steps_text n (suc j) (drop (size step) ss))

-- n nodes from number i on, each with the steps that it counts; then no byte is left
unfoldable pub nodes_text : ℕ → ℕ → Bytes → Bytes → Print
nodes_text zero i [] [] = text []
nodes_text zero i [] (s ∷ ss) = no_text
nodes_text zero i (n ∷ ns) ss = no_text
nodes_text (suc n) i ns ss =
    let x = take (size node) ns in
    both (record_text node i x) (both (steps_text (count_in node x) 0 ss) (nodes_text n (suc i) (drop (size node) ns) (drop (size step * count_in node x) ss)))

unfoldable pub printed : Bytes → Bytes → Print
printed ns ss = nodes_text (length ns / size node) 0 ns ss

-- ---- all records, whatever they hold

-- a space before each number
unfoldable pub parted : List ℕ → Bytes
parted [] = []
parted (b ∷ bs) = space ∷ (decimal b ++ parted bs)

-- a record's bytes in a remark: "# node 3: 1 0 0 5 .."
unfoldable pub bytes_text : Sort → ℕ → Bytes → Bytes
bytes_text s i bs = indent s ++ (title s ++ (decimal i ++ (ascii ":" ++ (parted bs ++ (newline ∷ [])))))

-- a record's line, or its bytes where it has none
unfoldable pub shown_record : Sort → ℕ → Bytes → Bytes
shown_record s i bs = elim (record_text s i bs) [ text t ↦ t | no_text ↦ bytes_text s i bs ]

-- n steps, from number j on
unfoldable pub shown_steps : ℕ → ℕ → Bytes → Bytes
shown_steps zero j ss = []
shown_steps (suc n) j ss = shown_record step j (take (size step) ss) ++ shown_steps n (suc j) (drop (size step) ss)

-- how many of the steps that are left a node has: as many as it counts, if there are as many
unfoldable pub steps_had : Bytes → Bytes → ℕ
steps_had x ss = min (count_in node x) (length ss / size step)

-- n steps that no node counts, from number j on
unfoldable pub shown_left : ℕ → ℕ → Bytes → Bytes
shown_left zero j ss = []
shown_left (suc n) j ss = ascii "# steps of no leaf\n" ++ shown_steps (suc n) j ss

-- n nodes from number i on, each with its steps; then the steps that are left. These have no leaf to be numbered in and are numbered over the whole
-- file, as refusals number steps: j is the number there of the first of the steps.
unfoldable pub shown_nodes : ℕ → ℕ → ℕ → Bytes → Bytes → Bytes
shown_nodes zero i j ns ss = shown_left (length ss / size step) j ss
shown_nodes (suc n) i j ns ss =
    let x = take (size node) ns in
    let k = steps_had x ss in
    shown_record node i x ++ (shown_steps k 0 ss ++ shown_nodes n (suc i) (j + k) (drop (size node) ns) (drop (size step * k) ss))

-- Every record in the file's order. Where records have a text, it is that text (`shown-text` of proofs/ShownLaws).
unfoldable pub shown_records : Bytes → Bytes → Bytes
shown_records ns ss = shown_nodes (length ns / size node) 0 0 ns ss
