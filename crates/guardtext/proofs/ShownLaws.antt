-- What is printed of a file, as the code finds it.
use Prim.Native.Char.{code}
use Prim.Native.Nat.{ℕ, ◌≤◌, ◌<◌}
use native.Mathlib.Omega.{arith}
use mathlib.Core.Path.{◌≡◌, refl, sym, ap, ◌∙◌}
use mathlib.Core.Bool.{Bool, true, false}
use mathlib.Core.List.{[], ◌∷◌, ◌++◌, append_assoc}
use lib.Dec.{ltb}
use lib.ListN.{length, length-append}
use borrow.Author.Tests.{lt-ltb, le-ltb, ltb-false}
use Rattle.actions.specs.Sets.{ActionSet}
use Rattle.spec_policy.specs.Bytes.{Bytes, Small}
use Rattle.spec_policy.specs.Records.{node_place, step_place, node_bytes, step_bytes}
use Rattle.spec_policy.specs.Lists.{every}
use Rattle.spec_policy.specs.Spots.{Fault, bare_fault}
use Rattle.spec_check.specs.Layout.{CountsFit}
use Rattle.spec_check.specs.Check.{Answer, passes, refused, check}
use Rattle.spec_check.specs.Passed.{breaks}
use Rattle.spec_check.proofs.Passed.{refused-number}
use Rattle.spec_check.proofs.Rows.{counts-fit}
use Rattle.laws_check.proofs.Inside.{small-fault}
use Rattle.spec_text.specs.Words.{ascii, newline, space}
use Rattle.spec_text.specs.Reading.{records, read_text}
use Rattle.spec_text.specs.Where.{fault_says}
use Rattle.spec_text.specs.Files.{ThereAndBack}
use Rattle.spec_text.proofs.ShownLaws.{shown-text}
use Rattle.spec_text.proofs.Printable.{there_and_back, read-printed}
use Rattle.spec_text.proofs.RemarkLaws.{read-after, fault-in}
use Rattle.spec_text.proofs.WordLaws.{in_line}
use Rattle.text_append.specs.Refusal.{refusal}
use Rattle.text_append.specs.Added.{Added, Tells}
use Rattle.text_append.proofs.AddedLaws.{named, tells, refusal-short}
use Rattle.text_spot.proofs.ShortLaws.{fault-short}
use Rattle.text_print.proofs.Lengths.{records-less}
use Rattle.text_print.proofs.FileLaws.{pass_fits, nodes-few, steps-few, nodes-small, steps-small}
use Rattle.guardtext.specs.Shown.{text_room, records_text, heading, refused_text, answered, shown, ReadsBack}

-- ---- files whose counts are to be believed

pub refused-fits : {file : Bytes} {f : Fault} → check file ≡ refused f → 4 ≤ f.number → CountsFit file
unfolding breaks
refused-fits {file} {f} h l = counts-fit file ((refused-number file f h).lower-kept 3 (omega arith))

-- ---- which of the texts

module _ (file : Bytes) (f : Fault) where
  pub bare-text : f.number < 4 → refusal f ≡ refused_text file f
  unfolding refused_text
  bare-text h = rw (refused_text, lt-ltb f.number 4 h)

  pub full-text : 4 ≤ f.number → heading (node_bytes file) f ++ records_text file ≡ refused_text file f
  unfolding refused_text
  full-text h = rw (refused_text, le-ltb f.number 4 h)

pub shown-long : (input : Bytes) → 6646 < length input → refusal (bare_fault 1) ≡ shown input
unfolding shown
shown-long input h = rw (shown, lt-ltb 6646 (length input) h)

pub shown-short : (input : Bytes) (a : Answer) → length input ≤ 6646 → a ≡ check input → answered a input ≡ shown input
unfolding shown
shown-short input a h e = rw (shown, le-ltb 6646 (length input) h) (ap (λ (x : Answer). answered x input) e)

-- ---- room enough

module _ (file : Bytes) (small : Small file) where
  module _ (fit : CountsFit file) where
    -- with 700 bytes to spare
    pub records-short : length (records_text file) ≤ 130_340
    unfolding records_text
    records-short =
        let a = nodes-few file fit in
        let b = steps-few file fit in
        omega (arith, records-less (node_bytes file) (step_bytes file) (nodes-small file small) (steps-small file small) (omega arith) (omega arith))

  module _ (f : Fault) (h : check file ≡ refused f) where
    heading-short : CountsFit file → length (heading (node_bytes file) f) ≤ 111
    unfolding heading ascii
    heading-short fit =
        let s = small-fault file f h in
        let l = nodes-few file fit in
        let a = fault-short (node_bytes file) (omega arith) f (omega (arith, s.number_small)) (λ p e. omega (arith, s.spot-small p e)) in
        simp length-append (omega (arith, a))

    refused-less : length (refused_text file f) ≤ text_room
    unfolding refused_text
    refused-less = go (ltb f.number 4) refl
      where
        go : (b : Bool) → ltb f.number 4 ≡ b → length (refused_text file f) ≤ text_room
        go true e = let s = small-fault file f h in rw (refused_text, e) (omega (arith, refusal-short f s.number_small s.spot-small))
        go false e =
            let fit : CountsFit file = refused-fits h (ltb-false f.number 4 e) in
            rw (refused_text, e) (simp length-append (omega (arith, heading-short fit, records-short fit)))

  answered_less : (a : Answer) → check file ≡ a → length (answered a file) ≤ text_room
  unfolding answered
  answered_less (passes r e) h = omega (arith, records-short (pass_fits h))
  answered_less (refused f) h = refused-less f h

  -- Whatever the file, there is room for what is shown of it.
  pub shown-less : length (shown file) ≤ text_room
  unfolding shown
  shown-less = go (ltb 6646 (length file)) refl
    where
      go : (b : Bool) → ltb 6646 (length file) ≡ b → length (shown file) ≤ text_room
      go true e = rw (shown, e) (omega (arith, refusal-short (bare_fault 1) (omega arith) (λ p w. let z : ◌≡◌ {A = ℕ} 0 1 = cc in absurd (omega arith))))
      go false e = rw (shown, e) (answered_less (check file) refl)

pub told : (input : Bytes) {before after x : Bytes} {r : ℕ} → Small input → text_room ≤ length before → Added before 0 x after r → x ≡ shown input → Tells after r (shown input)
told input small room p e = tells (named p e) (omega (arith, shown-less input small))

-- ---- what is shown is read again

-- of a file that keeps rule 3 there is no byte too many
short-file : (file : Bytes) → CountsFit file → length file ≤ 6646
unfolding step_place node_place
short-file file c = omega (arith, c.long, c.few-nodes, c.few-steps)

module _ (file : Bytes) (back : ThereAndBack file) where
  text-is : records_text file ≡ back.text
  unfolding records_text
  text-is = shown-text (node_bytes file) (step_bytes file) back.text back.prints

  -- a remark before it
  pub headed : (f : Fault) → read_text (heading (node_bytes file) f ++ records_text file) ≡ records (node_bytes file) (step_bytes file)
  unfolding heading ascii every in_line
  headed f =
      let w = fault_says (node_bytes file) f in
      ap (λ (t : Bytes). read_text (heading (node_bytes file) f ++ t)) text-is
      ∙ ap (λ (t : Bytes). read_text (code "#" ∷ space ∷ t)) (append_assoc w (newline ∷ []) back.text)
      ∙ read-after (space ∷ w) (node_bytes file) (step_bytes file) back.text (fault-in (node_bytes file) f) back.prints

pub every-file-shown : (file : Bytes) (r e : ActionSet) → Small file → check file ≡ passes r e → ReadsBack file
unfolding ReadsBack answered
every-file-shown file r e small h =
    let back = read-printed file r e small h in
    ap read_text (sym (shown-short file (passes r e) (short-file file (pass_fits h)) (sym h)) ∙ text-is file back) ∙ back.reads

pub refused-file-shown : (file : Bytes) (f : Fault) → Small file → check file ≡ refused f → 7 ≤ f.number → ReadsBack file
unfolding ReadsBack answered breaks
refused-file-shown file f small h l =
    let kept = (refused-number file f h).lower-kept in
    let back = there_and_back file small (kept 3 (omega arith)) (kept 4 (omega arith)) (kept 6 (omega arith)) in
    let fit : CountsFit file = refused-fits h (omega arith) in
    ap read_text (sym (full-text file f (omega arith) ∙ shown-short file (refused f) (short-file file fit) (sym h))) ∙ headed file back f
