-- `packed` meets its contract.
use native.Mathlib.Omega.{arith}
use mathlib.Core.Path.{◌∙◌, sym, subst}
use Rattle.fretmere.specs.Words.{Few}
use Rattle.fretmere.proofs.WordLaws.{answered-word, refused-word}
use Rattle.fretmere.proofs.packed.Goals as goal

pub overflow_cast-result : goal.overflow_cast-result
overflow_cast-result c = let h = subst Few c.in-Ok.is c.requires in omega arith

pub overflow_add-result : goal.overflow_add-result
overflow_add-result c = let h = subst Few c.in-Ok.is c.requires in omega arith

pub returns-in-Ok : goal.returns-in-Ok
returns-in-Ok c x e = let h = answered-word _ x (sym c.in-Ok.is ∙ e) in omega (arith, h, c.from.ensures)

pub returns-in-Err : goal.returns-in-Err
returns-in-Err c x e = c.fault_word.ensures ∙ refused-word _ x (sym c.in-Err.is ∙ e)
