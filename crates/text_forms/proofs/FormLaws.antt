-- Laws of the table of lines: the code's rows are the definition's, and a form is found place by place.
use Prim.Native.Nat.{ℕ, ◌+◌, ◌-◌, ◌≤◌, ◌<◌}
use native.Mathlib.Numerals.{add-one}
use native.Mathlib.Omega.{arith}
use mathlib.Core.Path.{◌≡◌, refl, sym, ap, ◌∙◌, subst}
use mathlib.Core.Bool.{Bool, true, false, ◌&&◌}
use mathlib.Core.List.{List, [], ◌∷◌, map}
use mathlib.Core.Option.{Option, none, some}
use lib.Dec.{eqb, eqb→eq}
use lib.ListN.{get_or, drop}
use lib.Seq.{drop-cons}
use Rattle.actions.proofs.Tests.{of-yes, and_right}
use Rattle.spec_policy.specs.Lists.{listed}
use Rattle.spec_text.specs.Words.{ascii}
use Rattle.spec_text.specs.Forms.{Sort, node, step, Form, forms, first_of, same_sort, of_kind}
use Rattle.text_forms.specs.declared.forms.Form as code
use Rattle.text_forms.specs.Usage.{usage}
use Rattle.text_forms.specs.Table.{form_count, node_forms, no_form, form_at}
use Rattle.text_forms.specs.Meant.{sort_of, slots_of, Means}
use Rattle.text_forms.proofs.TableLaws.{same_at, same_parts}

-- ---- the code's rows

-- The rows are the forms, told part by part over the whole table.
pub row-means : (rows : List code.Form)
    → map (λ (c : code.Form). c.name.now) rows ≡ map (λ (f : Form). ascii f.name) forms
    → map (λ (c : code.Form). c.usage.now) rows ≡ map usage forms
    → map (λ (c : code.Form). sort_of c.sort) rows ≡ map (λ (f : Form). f.sort) forms
    → map (λ (c : code.Form). c.kind) rows ≡ map (λ (f : Form). f.kind) forms
    → map (λ (c : code.Form). c.room) rows ≡ map (λ (f : Form). f.room) forms
    → map slots_of rows ≡ map (λ (f : Form). f.slots) forms
    → (d : code.Form) (i : ℕ) → i < form_count → Means (form_at i) (get_or rows i d)
unfolding form_at forms
row-means rows n u s k r p d i h = record {
  name = same_parts (λ (c : code.Form). c.name.now) (λ (f : Form). ascii f.name) rows forms n d no_form i h;
  usage = same_parts (λ (c : code.Form). c.usage.now) usage rows forms u d no_form i h;
  sort = same_parts (λ (c : code.Form). sort_of c.sort) (λ (f : Form). f.sort) rows forms s d no_form i h;
  kind = same_parts (λ (c : code.Form). c.kind) (λ (f : Form). f.kind) rows forms k d no_form i h;
  room = same_parts (λ (c : code.Form). c.room) (λ (f : Form). f.room) rows forms r d no_form i h;
  slots = same_parts slots_of (λ (f : Form). f.slots) rows forms p d no_form i h;
}

-- ---- which forms are nodes, and which are steps

pub form-node : (form : ℕ) → form < node_forms → (form_at form).sort ≡ node
unfolding listed form_at no_form forms
form-node form h = same_at (λ i. (form_at i).sort) (λ i. node) node_forms refl form h

pub form-step : (form : ℕ) → node_forms ≤ form → form < form_count → (form_at form).sort ≡ step
unfolding listed form_at no_form forms
form-step form l h =
    let z : node_forms + (form - node_forms) ≡ form = omega arith in
    subst (λ (i : ℕ). (form_at i).sort ≡ step) z
    (same_at (λ i. (form_at (node_forms + i)).sort) (λ i. step) (form_count - node_forms) refl (form - node_forms) (omega arith))

-- ---- the first form that passes a test

here : (i : ℕ) → i < form_count → drop i forms ≡ form_at i ∷ drop (i + 1) forms
unfolding forms form_at
here i h = drop-cons forms i no_form h ∙ ap (λ (n : ℕ). form_at i ∷ drop n forms) (sym (add-one i))

module _ (p : Form → Bool) where
  -- the forms from place i on are left to be looked at
  unfoldable pub first_from : ℕ → Option Form
  first_from i = first_of p (drop i forms)

  pub first-all : first_of p forms ≡ first_from 0
  unfolding first_from
  first-all = refl

  pub first-here : (i : ℕ) → i < form_count → p (form_at i) ≡ true → first_from i ≡ some (form_at i)
  unfolding first_from first_of
  first-here i h e = ap (first_of p) (here i h) ∙ rw (first_of, e)

  pub first-later : (i : ℕ) → i < form_count → p (form_at i) ≡ false → first_from i ≡ first_from (i + 1)
  unfolding first_from first_of
  first-later i h e = ap (first_of p) (here i h) ∙ rw (first_of, e)

  pub first-none : (i : ℕ) → i ≡ form_count → first_from i ≡ none
  unfolding first_from first_of forms
  first-none i e = ap first_from e

-- what was found passes the test
first-tested : (p : Form → Bool) (fs : List Form) (f : Form) → first_of p fs ≡ some f → p f ≡ true
unfolding first_of
first-tested p [] f e = let z : ◌≡◌ {A = ℕ} 0 1 = cc in absurd (omega arith)
first-tested p (g ∷ fs) f e = go (p g) refl (first-tested p fs f)
  where
    go : (b : Bool) → p g ≡ b → (first_of p fs ≡ some f → p f ≡ true) → p f ≡ true
    go true t r =
        let h : some g ≡ some f = rw (first_of, t) at e in
        let q : g ≡ f = cc in
        subst (λ (x : Form). p x ≡ true) q t
    go false t r = r (rw (first_of, t) at e)

pub kind-found : (s : Sort) (k : ℕ) (f : Form) → of_kind s k ≡ some f → k ≡ f.kind
unfolding of_kind
kind-found s k f e =
    let a = same_sort f.sort s in
    let b = eqb f.kind k in
    let t = of-yes (a && b) (first-tested (λ g. same_sort g.sort s && eqb g.kind k) forms f e) in
    sym (eqb→eq f.kind k (and_right a b t))
