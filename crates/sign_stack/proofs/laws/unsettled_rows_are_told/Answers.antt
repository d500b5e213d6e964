-- Proved in OutcomeLaws.
use Rattle.sign_stack.proofs.OutcomeLaws.{sign_holds, none_is_unsettled, none_is_held_up, settled_is_given, rule_settled}
use Rattle.sign_stack.proofs.laws.unsettled_rows_are_told.Goals as goal

pub returns : goal.returns
returns c = record { sign = sign_holds; none = none_is_unsettled; held_up = none_is_held_up; given = settled_is_given; rule = rule_settled }
