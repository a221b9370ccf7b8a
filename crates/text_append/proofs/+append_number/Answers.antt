use Rattle.std.proofs.Common.{arith}
use Rattle.text_append.proofs.AddedLaws.{joined, named, decimal-one, decimal-last}
use Rattle.text_append.proofs.+append_number.Goals as goal

-- a number below ten is its one digit
pub returns-then-n-lt10 : goal.returns-then-n-lt10
returns-then-n-lt10 t c = named c.append_digit.ensures (decimal-one _ (omega arith))

-- the digits before the last, and the last
pub returns : goal.returns
returns t c = named (joined c.append_number-end.ensures c.append_digit-2.ensures) (decimal-last _ (omega arith))
