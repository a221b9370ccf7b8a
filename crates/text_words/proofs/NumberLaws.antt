-- Laws of a number read digit by digit.
use Prim.Native.Nat.{ℕ, ◌+◌, ◌*◌, ◌-◌, ◌≤◌, ◌<◌}
use native.Mathlib.Numerals.{add-one}
use native.Mathlib.Omega.{arith}
use mathlib.Core.Path.{◌≡◌, sym, ap, ◌∙◌}
use mathlib.Core.Bool.{true, false, ◌&&◌}
use mathlib.Core.List.{◌∷◌}
use mathlib.Core.Option.{none, some}
use borrow.Author.Tests.{le-leb, lt-leb}
use lib.Dec.{leb}
use lib.ListN.{length, get_or, drop, drop_of_length-le}
use lib.Seq.{drop-cons}
use Rattle.std.specs.Char.{is_ascii_digit}
use Rattle.spec_policy.specs.Bytes.{Bytes}
use Rattle.spec_text.specs.Numerals.{number_from}

module _ (word : Bytes) (most n i : ℕ) (l : i < length word) where
  here : drop i word ≡ get_or word i 0 ∷ drop (i + 1) word
  here = drop-cons word i 0 l ∙ ap (λ (k : ℕ). get_or word i 0 ∷ drop k word) (sym (add-one i))

  pub not-digit : is_ascii_digit (get_or word i 0) ≡ false → number_from most n (drop i word) ≡ none
  unfolding number_from
  not-digit h =
      let e : (leb 48 (get_or word i 0) && leb (get_or word i 0) 57) ≡ false = h in
      ap (number_from most n) here ∙ rw (number_from, e)

  module _ (digit : is_ascii_digit (get_or word i 0) ≡ true) (m : ℕ) (is : m ≡ n * 10 + (get_or word i 0 - 48)) where
    d : (leb 48 (get_or word i 0) && leb (get_or word i 0) 57) ≡ true
    d = digit

    pub too_large : most < m → number_from most n (drop i word) ≡ none
    unfolding number_from
    too_large h = ap (number_from most n) here ∙ rw (number_from, d, lt-leb (n * 10 + (get_or word i 0 - 48)) most (omega arith))

    pub digit-more : m ≤ most → number_from most n (drop i word) ≡ number_from most m (drop (i + 1) word)
    unfolding number_from
    digit-more h =
        ap (number_from most n) here
        ∙ rw (number_from, d, le-leb (n * 10 + (get_or word i 0 - 48)) most (omega arith))
        (ap (λ (x : ℕ). number_from most x (drop (i + 1) word)) (sym is))

pub all_digits : (word : Bytes) (most n i : ℕ) → length word ≤ i → number_from most n (drop i word) ≡ some n
unfolding number_from
all_digits word most n i h = ap (number_from most n) (drop_of_length-le word {i = i} h)
