-- Laws of what is expected: the usage of a form, or the first words of all.
use Prim.Native.Nat.{ℕ, ◌+◌}
use native.Mathlib.Numerals.{add-one}
use mathlib.Core.Option.{none}
use mathlib.Core.Path.{◌≡◌, refl, sym, ap, ◌∙◌}
use mathlib.Core.List.{◌++◌}
use borrow.Author.Tests.{eq-eqb, ne_eqb}
use Rattle.spec_policy.specs.Bytes.{Bytes}
use Rattle.spec_text.specs.Words.{ascii}
use Rattle.spec_text.specs.Forms.{forms}
use Rattle.text_forms.specs.Table.{form_count, no_form, form_at}
use Rattle.text_fault.specs.Expected.{expected}
use Rattle.text_fault.specs.Places.{between, words_to}

pub usage-other : words_to form_count ≡ expected none
unfolding expected words_to between ascii form_at no_form forms
usage-other = refl

-- ---- the words one after another

pub words_more : (i : ℕ) (name : Bytes) → name ≡ ascii (form_at i).name → words_to i ++ (between i ++ name) ≡ words_to (i + 1)
unfolding words_to
words_more i name e = ap (λ (w : Bytes). words_to i ++ (between i ++ w)) e ∙ ap words_to (sym (add-one i))

module _ (i : ℕ) where
  pub between_first : i ≡ 0 → between 0 ≡ between i
  between_first e = ap between (sym e)

  module _ (n : i ≡ 0 → ⊥) where
    pub between-last : i + 1 ≡ form_count → ascii " or " ≡ between i
    unfolding between
    between-last e = rw (between, ne_eqb i 0 n, eq-eqb (i + 1) form_count e)

    pub between-others : (i + 1 ≡ form_count → ⊥) → ascii ", " ≡ between i
    unfolding between
    between-others m = rw (between, ne_eqb i 0 n, ne_eqb (i + 1) form_count m)
