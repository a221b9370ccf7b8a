-- Every definition from which the check is computed, by one name: a proof by computation says `unfolding opened`.
use Rattle.spec_check.specs.Layout.{broken1, broken2, broken3, node_fits, no_action, no_first, no_second, no_operand, step_fits, wrong4, broken4}
use Rattle.spec_check.specs.Children.{later, children, one_parent, wrong5, broken5}
use Rattle.spec_check.specs.Leaves.{every_leaf, first_in_leaves}
use Rattle.spec_check.specs.Targets.{target_fits, asks_within, leads_well, targets_fit, wrong6, broken6}
use Rattle.spec_check.specs.Modes.{is_idle, is_pending, is_closing, same_mode, stands, onward, leads, marked, reached_by, leads_if, stepped, walked, marks, mode_fits, modes_fit, wrong7, broken7}
use Rattle.spec_check.specs.Possible.{join_at, pass_on, passed_on, possible, possible_at, branches_taken, all_taken, wrong8, broken8}
use Rattle.spec_check.specs.Interference.{step_effects, code_effects, leaf_effects, effects, interfere, crossed, wrong9, broken9}
use Rattle.spec_check.specs.Spread.{ins_count, spread_of, spread, wrong10, broken10}
use Rattle.spec_check.specs.Check.{rules, tried, check}

unfoldable pub opened : Unit {0}
unfolding broken1 broken2 broken3 node_fits no_action no_first no_second no_operand step_fits wrong4 broken4 later children one_parent wrong5 broken5 every_leaf first_in_leaves target_fits asks_within leads_well targets_fit wrong6 broken6 is_idle is_pending is_closing same_mode stands onward leads marked reached_by leads_if stepped walked marks mode_fits modes_fit wrong7 broken7 join_at pass_on passed_on possible possible_at branches_taken all_taken wrong8 broken8 step_effects code_effects leaf_effects effects interfere crossed wrong9 broken9 ins_count spread_of spread wrong10 broken10 rules tried check
opened = tt
