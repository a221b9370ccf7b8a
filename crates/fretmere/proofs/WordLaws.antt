-- An answer and the word that stands for it.
use Prim.Native.Nat.{ℕ, ◌+◌, ◌*◌}
use native.Mathlib.Omega.{arith}
use mathlib.Core.Path.{◌≡◌, refl, sym, ap, subst}
use lib.ListN.{length}
use borrow.Author.Tests.{eq-eqb, ne_eqb}
use Rattle.spec_policy.specs.Bytes.{Bytes}
use Rattle.spec_policy.specs.Spots as spots
use Rattle.spec_check.specs.Check.{Answer as Checked, passes, refused}
use Rattle.spec_turns.specs.Status.{status_number}
use Rattle.spec_turns.specs.Saved.{state_size, count_at}
use Rattle.spec_turns.specs.Turn.{Request}
use Rattle.spec_turns.specs.Entries.{Reply, answers, refuses, entry}
use Rattle.laws_turns.proofs.Bounds.{answered-emits}
use Rattle.faults.specs.declared.Fault.{Fault}
use Rattle.faults.specs.Meaning.{fault_of, fault_value, fault_word}
use Rattle.faults.proofs.Once.{value-means}
use Rattle.std.specs.Prelude.{Ok, Err}
use Rattle.call_answer.specs.declared.Answered.{Answered}
use Rattle.call_answer.specs.Replies as guard
use Rattle.call_answer.specs.Replies.{spoken}
use Rattle.spec_writer.specs.Writing as writing
use Rattle.file_writer.specs.Replies as replies
use Rattle.fretmere.specs.Words.{Says, word, Few, count_word, size_word}

pub answered-word : (a : Answered) (x : Reply) → Ok a ≡ spoken x → a.status * 65536 + a.events ≡ word x
unfolding spoken word
answered-word a (answers k t) e =
    let said : ◌≡◌ {A = Answered} a (record { events = k; status = status_number t }) = cc in
    omega (arith, ap (λ (b : Answered). b.events) said, ap (λ (b : Answered). b.status) said)
answered-word a (refuses k) e = cc

pub refused-word : (f : Fault) (x : Reply) → Err f ≡ spoken x → fault_word (fault_of f) ≡ word x
unfolding spoken word
refused-word f (answers n s) e = cc
refused-word f (refuses g) e = let a : fault_value g ≡ f = cc in ap fault_word (value-means f g a)

few : (policy : Bytes) (q : Request) (state room : Bytes) (x : Reply) → (entry policy q state room).reply ≡ x → Few (spoken x)
unfolding spoken
few policy q state room (answers n s) e = let h = (answered-emits policy q state room n s e).room-enough in omega arith
few policy q state room (refuses k) e = tt

-- the answer of a call has few events
pub few-answer : (policy : Bytes) (q : Request) (state room : Bytes) (r : guard.Answer) → r ≡ spoken (entry policy q state room).reply → Few r
few-answer policy q state room r e = subst Few (sym e) (few policy q state room (entry policy q state room).reply refl)

-- ---- the check's answer

pub passed-says : {r e : ℕ} (x : Checked) (a b : ℕ) → passes r e ≡ x → Says x 0 a b r e
passed-says {r} {e} x a b p = subst (λ (y : Checked). Says y 0 a b r e) p (refl, (refl, refl))

pub refused_says : {f : spots.Fault} {n : ℕ} (x : Checked) (a b : ℕ) → n ≡ fault_word f → refused f ≡ x → Says x n a b a b
refused_says {f} {n} x a b w p = subst (λ (y : Checked). Says y n a b a b) p (w, (refl, refl))

-- ---- the count

pub count-word : (state : Bytes) → length state ≡ state_size → count_at state ≡ count_word state
unfolding count_word
count-word state h = sym (rw (eq-eqb (length state) state_size h, count_word))

pub no-count : (state : Bytes) → (length state ≡ state_size → ⊥) → fault_word (spots.bare_fault 11) ≡ count_word state
unfolding count_word
no-count state h = sym (rw (ne_eqb (length state) state_size h, count_word))

-- ---- the writer's answer

pub size-word : (n : ℕ) (x : writing.Reply) → Ok n ≡ replies.spoken x → n ≡ size_word x
unfolding replies.spoken size_word
size-word n (writing.wrote k) e = cc
size-word n (writing.refuses k) e = cc

pub refused-size : (f : Fault) (x : writing.Reply) → Err f ≡ replies.spoken x → fault_word (fault_of f) ≡ size_word x
unfolding replies.spoken size_word
refused-size f (writing.wrote n) e = cc
refused-size f (writing.refuses g) e = let a : fault_value g ≡ f = cc in ap fault_word (value-means f g a)
