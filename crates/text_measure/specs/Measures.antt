-- What the code finds of a text by places.
use Rattle.std.specs.Prelude.{ℕ, suc, ◌+◌, ◌/◌, ◌≤◌, ◌<◌, ◌≡◌, List, [], ◌∷◌, Option, Some, None, IfSome, Result, Ok, Err, length, get_or, drop}
use Rattle.std.proofs.Math.Seq.{slice}
use Rattle.spec_policy.specs.Bytes.{Bytes}
use Rattle.spec_text.specs.Words.{newline, lines_from, lines}
use Rattle.spec_text.specs.Forms.{node, step, size}
use Rattle.spec_text.specs.Reading.{Line, line_of, read_lines, Found, read_from, Read, records, bad_line, answer}
use Rattle.text_line.specs.declared.Line as code
use Rattle.text_line.specs.Lines.{line_meant, InTable}
use Rattle.text_measure.specs.declared.Tally.{Tally}
use Rattle.text_measure.specs.declared.Records.{Records}
use Rattle.text_measure.specs.declared.BadLine.{BadLine}

-- The line from `at` on ends at `end`: with a newline there, or with the text.
pub record LineEnds (text : Bytes) (at end : ℕ) : Type 0 where
  pub after : at ≤ end
  pub inside : end ≤ length text
  pub same : lines (drop at text) ≡ lines_from (slice at end text) (drop end text)
  pub stops : end < length text → get_or text end 0 ≡ newline

-- What is read from `at` on is this line, and what is read from `next` on; after the last line nothing is.
pub data Follows (text : Bytes) (at next : ℕ) (l : Line) : Type 0 where
  more : read_lines (drop at text) ≡ l ∷ read_lines (drop next text) → Follows text at next l
  last : read_lines (drop at text) ≡ l ∷ [] → drop next text ≡ [] → Follows text at next l

-- The line at `at` is the one meant, which some words are read as, and from `next` on the text goes on.
pub record ReadsOn (text : Bytes) (at : ℕ) (line : code.Line) (next : ℕ) : Type 0 where
  pub after : at < next
  pub inside : next ≤ length text
  pub in_table : InTable line
  pub spoken : List Bytes
  pub is : line_of spoken ≡ line_meant line
  pub on : Follows text at next (line_meant line)

-- How many records, or the first wrong line.
pub data Sizes : Type 0 where
  sized : (nodes steps : ℕ) → Sizes
  wrong_at : (line : ℕ) → Sizes

unfoldable pub sizes_read : Read → Sizes
sizes_read (records ns ss) = sized (length ns / size node) (length ss / size step)
sizes_read (bad_line n) = wrong_at n

unfoldable pub sizes_found : Found → Sizes
sizes_found f = sizes_read (answer f)

-- so many records more
unfoldable pub plus : ℕ → ℕ → Sizes → Sizes
plus n m (sized x y) = sized (n + x) (m + y)
plus n m (wrong_at l) = wrong_at l

-- what is counted, with what is read of these lines, from number n on; where the line before them could not stand, that line is wrong
unfoldable pub goes_on : Option Tally → ℕ → List Line → Sizes
goes_on None n ls = wrong_at n
goes_on (Some t) n ls = plus t.nodes t.steps (sizes_found (read_from t.room (suc n) ls))

-- After this line the tally is r: what was counted, with what is read from the line on, is what is counted now, with what is read after it.
pub record Counted (l : Line) (t : Tally) (r : Option Tally) : Type 0 where
  pub nodes : IfSome r (λ r. r.nodes ≤ t.nodes + 1)
  pub steps : IfSome r (λ r. r.steps ≤ t.steps + 1)
  pub is : (n : ℕ) (ls : List Line) → plus t.nodes t.steps (sizes_found (read_from t.room n (l ∷ ls))) ≡ goes_on r n ls

unfoldable pub measured : Result Records BadLine → Sizes
measured (Ok r) = sized r.nodes r.steps
measured (Err e) = wrong_at e.0
