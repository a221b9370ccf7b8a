-- The definitions of this crate that computing opens, by one name: a proof that computes with them says `unfolding opened`.
use Rattle.actions.specs.Sets.{is_action, has, EMPTY, single, union, common, difference, is_empty, within, meets}

unfoldable pub opened : Unit {0}
unfolding is_action has EMPTY single union common difference is_empty within meets
opened = tt
