use Rattle.std.proofs.Common.{◌∷◌, ap, sym, ◌∙◌, ℕ}
use Rattle.spec_text.specs.Words.{space}
use Rattle.spec_text.specs.Numerals.{decimal}
use Rattle.text_append.proofs.AddedLaws.{nothing, joined, named, member-none, member-first, member-next}
use Rattle.text_append.proofs.append_member.Goals as goal

pub returns-then-first : goal.returns-then-first
returns-then-first c = named c.append_number.ensures (ap decimal c.from.ensures ∙ member-first _ _ _ (sym c.has.ensures ∙ c.if-has.true) c.if-first.true)

pub returns-else-first : goal.returns-else-first
returns-else-first c =
    named (joined c.append-spaced.ensures c.append_number-else-first.ensures)
    (ap (λ (n : ℕ). space ∷ decimal n) c.from-else-first.ensures ∙ member-next _ _ _ (sym c.has.ensures ∙ c.if-has.true) c.if-first.false)

pub returns-else-has : goal.returns-else-has
returns-else-has c = named (nothing _ _) (member-none _ _ _ (sym c.has.ensures ∙ c.if-has.false))
