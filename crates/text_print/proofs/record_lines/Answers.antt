use Rattle.std.proofs.Common.{rules, ◌∙◌, arith}
use Rattle.std.specs.Iterator.Adapters.{enumerate_source}
use Rattle.std.specs.Slice.Iter.{chunks_exact_rest}
use Rattle.spec_text.specs.Forms.{size}
use Rattle.text_forms.specs.Meant.{sort_of}
use Rattle.text_append.proofs.AddedLaws.{nothing, joined, named}
use Rattle.text_print.specs.Led.{led_records}
use Rattle.text_print.proofs.PrintLaws.{nodes-more, nodes-over, owned-more, owned-over}
use Rattle.text_print.proofs.record_lines.Goals as goal

pub loop-i-init : goal.loop-i-init
unfolding led_records size
loop-i-init g c = (search rules, search rules, search rules, search rules, search rules, search rules)

pub counted-requires : goal.counted-requires
unfolding size sort_of
counted-requires g c = let s = c.in-Some.ensures.steps in search rules

pub record_line-named-requires : goal.record_line-named-requires
unfolding size sort_of
record_line-named-requires g c = let s = c.in-Some.ensures.steps in search rules

pub loop-i-preserved : goal.loop-i-preserved
unfolding sort_of
loop-i-preserved g c =
    let s = c.in-Some.ensures.steps in
    let long = s.0.1.1 ∙ c.loop-i.invariant.2 in
    let back = c.split_at.ensures.back in
    let told = rw c.split_at.ensures.front at c.step_lines-end.ensures in
    let count = c.from.ensures ∙ c.counted.ensures in
    let had = c.min-had.ensures in
    let own = rw (← back) at (owned-more (g.L.Lead.words c.args.lead.now) c.in-Some.node.now (chunks_exact_rest (enumerate_source c.next.new.self)) (chunks_exact_rest (enumerate_source c.loop-i.i-iterator)) c.loop-i.left.now _ _ long s.0.1.0 count had) in (
      search rules,
      search rules,
      search rules,
      omega arith,
      omega (arith, own, c.loop-i.invariant.4),
      λ x r h. c.loop-i.invariant.5 x r (named (joined c.record_line-named.ensures (joined told (rw back at h))) (nodes-more _ _ _ _ _ _ _ long s.0.1.0 count had _ _ _ _ s.1 s.2)),
    )

pub returns-clause-told : goal.returns-clause-told
returns-clause-told g c = c.loop-i.invariant.5 _ _ (named (nothing _ _) (nodes-over _ _ _ _ _ (let s = c.in-None.ensures.steps in search rules)))

pub returns-clause-steps : goal.returns-clause-steps
returns-clause-steps g c =
    let s = c.in-None.ensures.steps in
    let rest = chunks_exact_rest (enumerate_source c.loop-i.i-iterator) in
    let e = owned-over rest c.loop-i.left.now (search rules) in
    omega (arith, e, c.loop-i.invariant.4)
