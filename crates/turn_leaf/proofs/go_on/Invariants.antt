use Rattle.file_records.specs.Code.{code_from}
use Rattle.turn_leaf.proofs.LeafRuns.{far, Going}
use Rattle.turn_leaf.proofs.go_on.Given as goal

abbrev pub invariant-loop-t : goal.invariant-loop-t
invariant-loop-t l = Going l.counting l.policy l.first l.initial.counts l.counts (code_from l.policy l.first l.count) l.action l.offset l.counter l.o l.n

abbrev pub decreases-loop-t : goal.decreases-loop-t
decreases-loop-t l = far (code_from l.policy l.first l.count) l.o
