-- The kinds of lines: one table, by which a line is read and a record is printed.
use Rattle.std.specs.Prelude.{ℕ, ◌-◌, ◌^◌, Bool, true, false, ◌&&◌, List, [], ◌∷◌, eqb, get_or, set}
use Prim.Native.String.{String}
use Rattle.std.proofs.Math.Option.{Option, none, some}
use Rattle.spec_policy.specs.Bytes.{Bytes}
use Rattle.spec_policy.specs.Records.{Node, node_at, node_size, StepRecord, step_record_at, step_size}
use Rattle.spec_policy.specs.Parts
use Rattle.spec_text.specs.Words.{ascii, same_bytes}

-- A record is a node or a step.
pub data Sort : Type 0 where
  node step : Sort

unfoldable pub same_sort : Sort → Sort → Bool
same_sort node node = true
same_sort node step = false
same_sort step node = false
same_sort step step = true

unfoldable pub size : Sort → ℕ
size node = node_size
size step = step_size

-- A record's fields, in the order of the file. Of a node: kind, left, right, step count, counter start, regulated set. Of a step: kind,
-- action, first target, second target, operand.
abbrev pub Fields : Type 0
Fields = List ℕ

unfoldable pub fields_in : Sort → Bytes → Fields
fields_in node bs = let x : Node = node_at bs 0 in x.kind ∷ x.left ∷ x.right ∷ x.count ∷ x.start ∷ x.set ∷ []
fields_in step bs = let x : StepRecord = step_record_at bs 0 in x.kind ∷ x.action ∷ x.first ∷ x.second ∷ x.operand ∷ []

-- The record of these fields; a node's step count is told apart, since no line names it.
unfoldable pub record_of : Sort → ℕ → Fields → Bytes
record_of node count xs = Parts.node (get_or xs 0 0) (get_or xs 1 0) (get_or xs 2 0) count (get_or xs 4 0) (get_or xs 5 0)
record_of step count xs = Parts.step (get_or xs 0 0) (get_or xs 1 0) (get_or xs 2 0) (get_or xs 3 0) (get_or xs 4 0)

-- What a line says after its first word: a number up to `most`, or a set of actions, and the place of the field that it is.
pub data Slot : Type 0 where
  number : (place most : ℕ) → Slot
  actions : (place : ℕ) → Slot

unfoldable pub place : Slot → ℕ
place (number i most) = i
place (actions i) = i

unfoldable pub bound : Slot → ℕ
bound (number i most) = most
bound (actions i) = 2 ^ 64 - 1

abbrev pub byte : ℕ → Slot
byte i = number i 255

abbrev pub word : ℕ → Slot
word i = number i 4_294_967_295

-- A kind of line: its first word, the record that it is, the most steps that may follow a node's line before the next, and what it says.
pub record Form : Type 0 where
  pub name : String
  pub sort : Sort
  pub kind : ℕ
  pub room : ℕ
  pub slots : List Slot

-- A leaf's step count is one byte. The fields of `byte` are child numbers, targets and actions.
unfoldable pub forms : List Form
forms =
    record { name = "leaf"; sort = node; kind = 1; room = 255; slots = actions 5 ∷ word 4 ∷ [] }
    ∷ record { name = "trivial"; sort = node; kind = 2; room = 0; slots = [] }
    ∷ record { name = "unsatisfiable"; sort = node; kind = 3; room = 0; slots = [] }
    ∷ record { name = "and"; sort = node; kind = 4; room = 0; slots = byte 1 ∷ byte 2 ∷ [] }
    ∷ record { name = "seq-and"; sort = node; kind = 5; room = 0; slots = byte 1 ∷ byte 2 ∷ [] }
    ∷ record { name = "or"; sort = node; kind = 6; room = 0; slots = byte 1 ∷ byte 2 ∷ [] }
    ∷ record { name = "seq-or"; sort = node; kind = 7; room = 0; slots = byte 1 ∷ byte 2 ∷ [] }
    ∷ record { name = "next"; sort = step; kind = 1; room = 0; slots = byte 2 ∷ byte 3 ∷ [] }
    ∷ record { name = "ok"; sort = step; kind = 2; room = 0; slots = byte 2 ∷ [] }
    ∷ record { name = "sup"; sort = step; kind = 3; room = 0; slots = byte 2 ∷ [] }
    ∷ record { name = "ins"; sort = step; kind = 4; room = 0; slots = byte 1 ∷ byte 2 ∷ [] }
    ∷ record { name = "acase"; sort = step; kind = 5; room = 0; slots = actions 4 ∷ byte 2 ∷ byte 3 ∷ [] }
    ∷ record { name = "spend"; sort = step; kind = 6; room = 0; slots = word 4 ∷ byte 2 ∷ byte 3 ∷ [] }
    ∷ record { name = "end"; sort = step; kind = 7; room = 0; slots = [] }
    ∷ record { name = "halt"; sort = step; kind = 8; room = 0; slots = [] }
    ∷ []

unfoldable pub first_of : (Form → Bool) → List Form → Option Form
first_of p [] = none
first_of p (f ∷ fs) = elim (p f) [ true ↦ some f | false ↦ first_of p fs ]

-- the form of a line that begins with this word
unfoldable pub named : Bytes → Option Form
named w = first_of (λ f. same_bytes (ascii f.name) w) forms

-- the form of a record of this kind
unfoldable pub of_kind : Sort → ℕ → Option Form
of_kind s k = first_of (λ f. same_sort f.sort s && eqb f.kind k) forms

-- the fields before a line's words are read: "Fields not used are zero."
unfoldable pub bare : Form → Fields
bare f = f.kind ∷ 0 ∷ 0 ∷ 0 ∷ 0 ∷ 0 ∷ []
