use Rattle.std.proofs.Common.{rules}
use Rattle.spec_text.specs.Where.{rule_sort}
use Rattle.text_forms.specs.Meant.{sort_of}
use Rattle.text_spot.proofs.rule_sort.Goals as goal

pub returns-then-contains : goal.returns-then-contains
unfolding sort_of rule_sort
returns-then-contains c = search rules

pub returns-else-contains : goal.returns-else-contains
unfolding sort_of rule_sort
returns-else-contains c = search rules
