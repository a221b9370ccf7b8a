-- The table of lines by places.
use Rattle.std.specs.Prelude.{ℕ, [], Option, Some, None, get_or}
use Rattle.std.proofs.Math.Option as math
use Rattle.spec_text.specs.Forms.{Form, node, forms}

abbrev pub form_count : ℕ
form_count = 15

-- how many of them are nodes, which stand first
abbrev pub node_forms : ℕ
node_forms = 7

-- a form that is none
unfoldable pub no_form : Form
no_form = record { name = ""; sort = node; kind = 0; room = 0; slots = [] }

unfoldable pub form_at : ℕ → Form
form_at i = get_or forms i no_form

-- the form at a place, where one was found
unfoldable pub form_found : Option ℕ → math.Option Form
form_found None = math.none
form_found (Some i) = math.some (form_at i)
