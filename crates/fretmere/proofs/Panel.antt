-- After every answered call the panel reads how many leaves run.
use Prim.Native.Nat.{ℕ}
use mathlib.Core.Path.{◌≡◌, sym, ◌∙◌}
use Rattle.spec_policy.specs.Bytes.{Bytes, Small}
use Rattle.spec_turns.specs.Status.{Status}
use Rattle.spec_turns.specs.Turn.{Request}
use Rattle.spec_turns.specs.Entries.{answers, entry}
use Rattle.laws_turns.specs.Calls.{Leaves}
use Rattle.laws_turns.proofs.Lasting.{answered-leaves}
use Rattle.fretmere.specs.Panel.{PanelTold}
use Rattle.fretmere.proofs.WordLaws.{count-word}

pub panel-told : (policy state room : Bytes) → Small policy → (q : Request) (n : ℕ) (s : Status) → (entry policy q state room).reply ≡ answers n s
    → PanelTold policy state room q
panel-told policy state room small q n s e =
    let l : Leaves policy state room q = answered-leaves policy state room small q n s e in
    record { told = sym (count-word _ l.size) ∙ l.counted }
