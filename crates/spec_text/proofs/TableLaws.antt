-- What the table of lines gives: what every form passes, the form found passes; its first word leads to it again, and is a word.
use Prim.Native.Nat.{ℕ}
use native.Mathlib.Omega.{arith}
use mathlib.Core.Path.{◌≡◌, refl, subst}
use mathlib.Core.Bool.{Bool, true, false, ◌&&◌}
use mathlib.Core.List.{List, [], ◌∷◌}
use mathlib.Core.Option.{some}
use lib.Dec.{T, eqb, leb, leb→le}
use lib.ListN.{length}
use Rattle.actions.proofs.Tests.{of-yes, and_left, and_right}
use Rattle.spec_policy.specs.Lists.{every}
use Rattle.spec_text.specs.Words.{ascii, same_bytes, mark}
use Rattle.spec_text.specs.Forms.{Sort, node, step, same_sort, Form, forms, first_of, named, of_kind}
use Rattle.spec_text.proofs.WordLaws.{in_line, plain, Word}

-- P of every form in the list
All : (Form → Type 0) → List Form → Type 0
All P [] = Unit {0}
All P (f ∷ fs) = P f × All P fs

module _ (p : Form → Bool) (P : Form → Type 0) (f : Form) where
  first-is : (fs : List Form) → All P fs → first_of p fs ≡ some f → T (p f) × P f
  unfolding All first_of
  first-is [] a e = let z : ◌≡◌ {A = ℕ} 0 1 = cc in absurd (omega arith)
  first-is (g ∷ fs) a e = go (p g) refl (first-is fs a.1)
    where
      go : (b : Bool) → p g ≡ b → (first_of p fs ≡ some f → T (p f) × P f) → T (p f) × P f
      go true t r =
          let h : some g ≡ some f = rw (first_of, t) at e in
          let q : g ≡ f = cc in
          subst (λ (x : Form). T (p x) × P x) q (of-yes (p g) t, a.0)
      go false t r = r (rw (first_of, t) at e)

each-passes : (q : Form → Bool) (fs : List Form) → T (every q fs) → All (λ f. T (q f)) fs
unfolding All every
each-passes q [] h = tt
each-passes q (f ∷ fs) h = (and_left (q f) (every q fs) h, each-passes q fs (and_right (q f) (every q fs) h))

-- what every form of the list passes, the form found passes
pub first_passes : (p q : Form → Bool) (f : Form) (fs : List Form) → T (every q fs) → first_of p fs ≡ some f → T (q f)
first_passes p q f fs h e = (first-is p (λ g. T (q g)) f fs (each-passes q fs h) e).1

sort-is : (s t : Sort) → T (same_sort s t) → s ≡ t
unfolding same_sort
sort-is node node h = refl
sort-is node step h = absurd h
sort-is step node h = absurd h
sort-is step step h = refl

Sound : Form → Type 0
Sound f = (named (ascii f.name) ≡ some f) × T (every plain (ascii f.name) && leb 1 (length (ascii f.name)))

all_sound : All Sound forms
unfolding All Sound forms named first_of ascii same_bytes every plain in_line mark
all_sound =
    ((refl, tt), ((refl, tt), ((refl, tt), ((refl, tt), ((refl, tt), ((refl, tt), ((refl, tt), ((refl, tt), ((refl, tt), ((refl, tt), ((refl, tt), ((refl, tt), ((refl, tt), ((refl, tt), ((refl, tt), tt)))))))))))))))

-- A form found by a record's kind.
pub record Kind (s : Sort) (f : Form) : Type 0 where
  pub sort : f.sort ≡ s
  pub found : named (ascii f.name) ≡ some f
  pub word : Word (ascii f.name)

pub kind-is : (s : Sort) (k : ℕ) (f : Form) → of_kind s k ≡ some f → Kind s f
unfolding of_kind Sound
kind-is s k f e =
    let r = first-is (λ g. same_sort g.sort s && eqb g.kind k) Sound f forms all_sound e in
    let w = r.1.1 in
    let l = every plain (ascii f.name) in
    let m = leb 1 (length (ascii f.name)) in
    record {
      sort = sort-is f.sort s (and_left (same_sort f.sort s) (eqb f.kind k) r.0);
      found = r.1.0;
      word = record { letters = and_left l m w; some = leb→le 1 (length (ascii f.name)) (and_right l m w) };
    }
