use Rattle.std.proofs.Common.{◌≡◌, ◌+◌, ap, ◌∙◌, ℕ, rules}
use Rattle.std.specs.Prelude.{count_by, eqb}
use Rattle.spec_text.specs.Words.{newline}
use Rattle.text_fault.proofs.StartLaws.{counted-lines}
use Rattle.text_fault.proofs.line_count.Goals as goal

pub returns : goal.returns
returns c = let e : c.count.result ≡ count_by (λ b. eqb b newline) c.args.text.now = search rules in ap (λ (n : ℕ). n + 1) e ∙ counted-lines c.args.text.now
