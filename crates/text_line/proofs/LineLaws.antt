-- Laws of a line read by its words.
use mathlib.Core.Path.{◌≡◌, sym, ap, ◌∙◌}
use mathlib.Core.List.{List, [], ◌∷◌}
use mathlib.Core.Option.{Option, none, some}
use Rattle.spec_policy.specs.Bytes.{Bytes}
use Rattle.spec_text.specs.Forms.{Fields, Form, named, bare}
use Rattle.spec_text.specs.Reading.{nothing, unreadable, entry_if, filled, line_of}

pub line-nothing : (ws : List Bytes) → ws ≡ [] → line_of ws ≡ nothing
unfolding line_of
line-nothing ws e = ap line_of e

module _ (us : List Bytes) (w : Bytes) (ws : List Bytes) (first : us ≡ w ∷ ws) where
  pub line-unknown : named w ≡ none → line_of us ≡ unreadable
  unfolding line_of
  line-unknown e = ap line_of first ∙ rw (line_of, e)

  pub line-known : (f : Form) (o : Option Fields) → named w ≡ some f → o ≡ filled f.slots ws (bare f) → line_of us ≡ entry_if f o
  unfolding line_of
  line-known f o e h = ap line_of first ∙ rw (line_of, e) (ap (entry_if f) (sym h))
