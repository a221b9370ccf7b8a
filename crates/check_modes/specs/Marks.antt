-- How the mode pass keeps its marks: a word for each mode, read as the set of the offsets that are marked in it.
use Rattle.std.specs.Prelude.{ℕ, ◌+◌, ◌≤◌, ◌<◌, ◌≡◌, Bool, true, false, ◌&&◌, ◌||◌, not, T, eqb, ltb, get_or}
use mathlib.Core.List.{List, [], Memᴰ}
use Rattle.actions.specs.Sets.{ActionSet, has}
use Rattle.spec_policy.specs.Lists.{one, every, every_at}
use Rattle.spec_policy.specs.Steps.{Step, halt, targets, is_next}
use Rattle.spec_check.specs.Modes.{Mode, idle, pending, closing, Mark, marked, stepped, marks, mode_fits}
use Rattle.check_modes.specs.declared.Marks.{Marks}
use Rattle.check_modes.specs.declared.Led.{Led}
use Rattle.check_modes.specs.declared.Row.{Row}
use Rattle.check_modes.specs.Table.{mode_number, entry_at, led_by, may_stand, Tells}

-- 64 offsets, as an action set is 64 actions
unfoldable pub word : Marks → Mode → ActionSet
word w idle = w.idle
word w pending = w.pending
word w closing = w.closing

-- the words say what the marks are: an offset is in a mode's word where it is marked in that mode
pub record Agrees (w : Marks) (ks : List Mark) : Type 0 where
  pub at : (m : Mode) (o : ℕ) → o < 64 → has (word w m) o ≡ marked m o ks

-- the words `after` mark what the words `before` mark, and these
unfoldable pub Adds : Marks → Marks → List Mark → Type 0
Adds before after new = (m : Mode) (o : ℕ) → o < 64 → has (word after m) o ≡ (marked m o new || has (word before m) o)

-- what is no target of the step is marked as before
unfoldable pub Aside : Step → Marks → Marks → Type 0
Aside s before after = (m : Mode) (o : ℕ) → o < 64 → (Memᴰ o (targets s) → ⊥) → has (word after m) o ≡ has (word before m) o

-- marks that the words have room for
unfoldable pub room_for : List Mark → Bool
room_for ks = every (λ k. ltb k.offset 64) ks

-- these marks, or none
unfoldable pub only_if : Bool → List Mark → List Mark
only_if true ks = ks
only_if false ks = []

-- the modes in which an offset is marked
pub record MarkedHere (i p c : Bool) (o : ℕ) (ks : List Mark) : Type 0 where
  pub idly : i ≡ marked idle o ks
  pub pendingly : p ≡ marked pending o ks
  pub closingly : c ≡ marked closing o ks

-- By a kind's entries in the three modes and the modes in which an offset is marked: the step is reached in one mode, and may stand there.
unfoldable pub fits_in : (idle pending closing : ℕ) (i p c : Bool) → Bool
fits_in e f g i p c = ((eqb (one i + one p + one c) 1 && (not i || may_stand e)) && (not p || may_stand f)) && (not c || may_stand g)

-- Of a kind's entries in the three modes, the one that is followed where the step's offset is marked pending, closing, or neither.
unfoldable pub followed : (idle pending closing : ℕ) (p c : Bool) → ℕ
followed e f g true c = f
followed e f g false true = g
followed e f g false false = e

-- what a step has that is reached in the mode whose entry is e
pub record LedBy (e first second : ℕ) (seen : Marks) (r : Led) : Type 0 where
  pub adds : Adds seen r.marks (led_by e first second)
  pub test : r.fits ≡ may_stand e

-- By the words, the step at o is reached in one mode. A next counts as reached idle.
unfoldable pub once_at : Marks → ℕ → Step → Bool
once_at w o s = eqb (one (has w.idle o || is_next s) + one (has w.pending o) + one (has w.closing o)) 1

unfoldable pub all_once : Marks → List Step → Bool
all_once w code = every_at (once_at w) 0 code

-- What the walk has of the step at o, which is no next. Where it is reached in one mode: its test, and the marks after it.
pub record StepLed (o : ℕ) (s : Step) (seen : Marks) (r : Led) : Type 0 where
  pub test : (ks : List Mark) → Agrees seen ks → T (once_at seen o s) → r.fits ≡ mode_fits ks o s
  pub marks : (ks : List Mark) → Agrees seen ks → T (once_at seen o s) → Agrees r.marks (stepped o s ks)
  pub aside : Aside s seen r.marks

-- Rule 7 in two parts: of the steps that are no next, and of the nexts. A step may lead back to a next alone, so when the walk comes to
-- any other step its marks are all made.
unfoldable pub others_fit : List Step → Bool
others_fit code = every_at (λ o s. is_next s || mode_fits (marks code) o s) 0 code

-- the offsets of a word are those of the nexts before offset o, and in the end of all nexts
abbrev pub NextsBefore : ℕ → ActionSet → List Step → Type 0
NextsBefore o nexts code = (q : ℕ) → has nexts q ≡ (ltb q o && is_next (get_or code q halt))

abbrev pub NextsAre : ActionSet → List Step → Type 0
NextsAre nexts code = (o : ℕ) → has nexts o ≡ is_next (get_or code o halt)

unfoldable pub nexts_fit : List Step → Bool
nexts_fit code = every_at (λ o s. not (is_next s) || mode_fits (marks code) o s) 0 code

-- ---- every mode in which a step is reached

-- the modes in which the step at an offset is reached, by its kind: every next counts as reached idle
pub record ReachedHere (kind : ℕ) (i p c : Bool) (o : ℕ) (ks : List Mark) : Type 0 where
  pub idly : i ≡ (marked idle o ks || eqb kind 1)
  pub pendingly : p ≡ marked pending o ks
  pub closingly : c ≡ marked closing o ks

-- a row of the table, whose targets the words have room for in every mode that it leads to
pub record RowRoom (row : Row) : Type 0 where
  pub low : 1 ≤ row.kind
  pub high : row.kind ≤ 8
  pub room : (m : Mode) → T (room_for (led_by (entry_at row.kind (mode_number m)) row.first row.second))

-- the row is the step's
abbrev pub IsRow : Row → Step → Type 0
IsRow row s = (m : Mode) → Tells row.kind row.first row.second s m
