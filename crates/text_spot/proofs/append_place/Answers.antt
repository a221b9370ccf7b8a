-- No text, or four.
use Rattle.std.proofs.Common.{sym, ap, ◌∙◌, ℕ, Some}
use Rattle.spec_text.specs.Words.{ascii}
use Rattle.spec_text.specs.Where.{place_words, spot_says}
use Rattle.faults.specs.Meaning.{spot_of, fault_of}
use Rattle.text_append.proofs.AddedLaws.{nothing, joined, named}
use Rattle.text_spot.proofs.append_place.Goals as goal

pub returns-in-None : goal.returns-in-None
unfolding place_words spot_of
returns-in-None c = named (nothing _ _) (sym (ap (λ s. place_words (spot_of s) (spot_says c.args.nodes.now (fault_of c.args.fault))) c.in-None.is))

pub returns-in-Some : goal.returns-in-Some
unfolding place_words spot_of ascii
returns-in-Some c =
    let says = spot_says c.args.nodes.now (fault_of c.args.fault) in
    named (joined c.append-named.ensures (joined c.append_number-numbered.ensures (joined c.append-told.ensures c.append_record.ensures)))
    (ap (λ (p : ℕ). place_words (spot_of (Some p)) says) c.from.ensures ∙ sym (ap (λ s. place_words (spot_of s) says) c.in-Some.is))
