-- What is told of a line that is wrong, by its kind.
use Prim.Native.String.{String}
use Rattle.std.specs.Prelude.{List, [], ◌∷◌, ◌++◌, get_or}
use Rattle.spec_policy.specs.Bytes.{Bytes}
use Rattle.spec_text.specs.Words.{ascii}
use Rattle.spec_text.specs.Forms.{Sort, node, step, Form}

-- what follows the name of a form of this kind
unfoldable pub usages : Sort → List String
usages node = "" ∷ " {ACTIONS} START" ∷ "" ∷ "" ∷ " LEFT RIGHT" ∷ " LEFT RIGHT" ∷ " LEFT RIGHT" ∷ " LEFT RIGHT" ∷ []
usages step = "" ∷ " TAKE DONE" ∷ " TO" ∷ " TO" ∷ " ACTION TO" ∷ " {ACTIONS} YES NO" ∷ " AMOUNT YES NO" ∷ "" ∷ "" ∷ []

unfoldable pub usage : Form → Bytes
usage f = ascii f.name ++ ascii (get_or (usages f.sort) f.kind "")
