-- Proved in RuleLaws.
use Rattle.sign_stack.proofs.RuleLaws.{sign_is, rule_is}
use Rattle.sign_stack.proofs.laws.rows_give_signs.Goals as goal

pub returns : goal.returns
returns c = record { sign = sign_is; rule = rule_is }
