-- What the code's places say of a text.
use Rattle.std.specs.Prelude.{ℕ, zero, suc, ◌+◌, ◌≤◌, ◌≡◌, true, false, [], ◌++◌, eqb, length, get_or, drop}
use Rattle.spec_policy.specs.Bytes.{Bytes}
use Rattle.spec_text.specs.Words.{ascii, lines}
use Rattle.text_forms.specs.Table.{form_count, form_at}
use Rattle.text_fault.specs.Expected.{line_number}

-- Line n begins at `start`; after the last there is an empty one at the end.
pub record Starts (text : Bytes) (n start : ℕ) : Type 0 where
  pub inside : start ≤ length text
  pub is : line_number text n ≡ get_or (lines (drop start text)) 0 []

-- ---- the first words of the first i forms, one after another

unfoldable pub between : ℕ → Bytes
between i = elim (eqb i 0) [ true ↦ [] | false ↦ elim (eqb (i + 1) form_count) [ true ↦ ascii " or " | false ↦ ascii ", " ] ]

unfoldable pub words_to : ℕ → Bytes
words_to zero = []
words_to (suc i) = words_to i ++ (between i ++ ascii (form_at i).name)
