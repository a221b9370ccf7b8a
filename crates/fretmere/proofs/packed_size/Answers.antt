-- `packed_size` meets its contract.
use mathlib.Core.Path.{◌∙◌, sym}
use Rattle.fretmere.proofs.WordLaws.{size-word, refused-size}
use Rattle.fretmere.proofs.packed_size.Goals as goal

pub returns-in-Ok : goal.returns-in-Ok
returns-in-Ok c x e = c.from.ensures ∙ size-word _ x (sym c.in-Ok.is ∙ e)

pub returns-in-Err : goal.returns-in-Err
returns-in-Err c x e = c.fault_word.ensures ∙ refused-size _ x (sym c.in-Err.is ∙ e)
