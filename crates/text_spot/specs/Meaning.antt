-- What the code's structs and options stand for.
use Rattle.std.specs.Prelude.{Option, Some, None}
use Rattle.spec_text.specs.Where as told
use Rattle.text_forms.specs.Meant.{sort_of}
use Rattle.text_spot.specs.declared.Record.{Record}
use Rattle.text_spot.specs.declared.Owner.{Owner}

abbrev pub record_of : Record → told.Which
record_of r = told.aRecord (sort_of r.sort) r.number

abbrev pub which_of : Option Record → told.Which
which_of None = told.no_record
which_of (Some r) = record_of r

abbrev pub owner_of : Option Owner → told.Owner
owner_of None = told.no_leaf
owner_of (Some o) = told.leaf_at o.leaf o.offset
