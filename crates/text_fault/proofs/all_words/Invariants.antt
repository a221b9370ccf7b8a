use Rattle.text_append.specs.Added.{Added}
use Rattle.text_fault.specs.Places.{words_to}
use Rattle.text_fault.proofs.all_words.Given as goal

-- the words of the forms passed stand in the buffer
abbrev pub invariant-loop-i : goal.invariant-loop-i
invariant-loop-i l = Added l.initial.out l.at (words_to l.i) l.out l.end
