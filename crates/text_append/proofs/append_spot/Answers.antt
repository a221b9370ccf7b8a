use Rattle.std.proofs.Common.{ap, sym, ◌∙◌, ℕ, Some}
use Rattle.spec_text.specs.Words.{ascii}
use Rattle.faults.specs.Meaning.{spot_of}
use Rattle.text_append.specs.Refusal.{spot_words}
use Rattle.text_append.proofs.AddedLaws.{nothing, joined, named}
use Rattle.text_append.proofs.append_spot.Goals as goal

pub returns-in-None : goal.returns-in-None
unfolding spot_words spot_of
returns-in-None c = named (nothing _ _) (sym (ap (λ p. spot_words (spot_of p)) c.in-None.is))

pub returns-in-Some : goal.returns-in-Some
unfolding spot_words spot_of ascii
returns-in-Some c =
    named (joined c.append-named.ensures c.append_number.ensures)
    (ap (λ (p : ℕ). spot_words (spot_of (Some p))) c.from.ensures ∙ sym (ap (λ p. spot_words (spot_of p)) c.in-Some.is))
