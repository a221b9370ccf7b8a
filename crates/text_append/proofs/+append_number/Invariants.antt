use Rattle.text_append.proofs.+append_number.Given as goal

-- the number has a digit less at each call
abbrev pub decreases-append_number : goal.decreases-append_number
decreases-append_number l = l.n
