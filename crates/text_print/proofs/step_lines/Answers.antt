use Rattle.std.proofs.Common.{rules, ◌∙◌, ap, length, arith, length-append}
use Rattle.spec_text.specs.Forms.{size}
use Rattle.text_forms.specs.Meant.{sort_of}
use lib.Seq.{take_all}
use Rattle.text_append.proofs.AddedLaws.{nothing, joined, named}
use Rattle.text_print.proofs.PrintLaws.{steps-more, steps-over}
use Rattle.text_print.proofs.step_lines.Goals as goal

pub record_line-end-requires : goal.record_line-end-requires
unfolding size sort_of
record_line-end-requires g c = let s = c.in-Some.ensures.steps in search rules

pub loop-i-preserved : goal.loop-i-preserved
unfolding sort_of
loop-i-preserved g c =
    let s = c.in-Some.ensures.steps in
    let long = s.0.1.1 ∙ c.loop-i.invariant.2 in (
      search rules,
      search rules,
      search rules,
      omega (arith, long, ap length s.0.1.0, length-append c.in-Some.step.now),
      λ x r h. c.loop-i.invariant.4 x r (named (joined c.append_lead-led.ensures (joined c.record_line-end.ensures h)) (steps-more _ _ _ _ _ _ _ _ _ _ (grind (arith, take_all)) long s.0.1.0 s.1 s.2)),
    )

pub returns : goal.returns
returns g c = c.loop-i.invariant.4 _ _ (named (nothing _ _) (steps-over _ _ _ _ (let s = c.in-None.ensures.steps in search rules)))
