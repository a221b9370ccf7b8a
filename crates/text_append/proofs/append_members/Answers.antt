use Rattle.std.proofs.Common.{Bool, ◌&&◌, not, ◌+◌, ◌-◌, ap, arith}
use Rattle.spec_text.specs.Printing.{listing}
use Rattle.text_append.specs.Added.{led}
use Rattle.text_append.proofs.AddedLaws.{nothing, joined, named, members-more, none_left}
use Rattle.text_append.proofs.append_members.Goals as goal

pub loop-a-init : goal.loop-a-init
unfolding led
loop-a-init c = λ x e h. h

pub loop-a-preserved : goal.loop-a-preserved
loop-a-preserved c = λ x e h.
    let rest = named h (ap (λ (b : Bool). led (c.loop-a.first && not b) (listing c.args.set.bits (c.loop-a.a + 1) (64 - (c.loop-a.a + 1)))) c.has.ensures) in
    c.loop-a.invariant x e (named (joined c.append_member-end.ensures rest) (members-more _ _ _ (omega arith)))

pub returns : goal.returns
returns c = c.loop-a.invariant _ _ (named (nothing _ _) (none_left _ _ _ (omega arith)))
