-- Which request the code's call stands for.
use Rattle.spec_turns.specs.Turn.{Request, opening, offer, close}
use Rattle.call_answer.specs.declared.Call.{Call}
use Rattle.call_answer.specs.declared.Call.TheVariants.{Open, Offer, Close}

unfoldable pub asked : Call → Request
asked Open = opening
asked (Offer a) = offer a
asked Close = close
