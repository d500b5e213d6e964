-- The laws of SignLaws, and of sign_stack.
use Rattle.acl_model.specs.RuleNumbers.{numbers_of_sign}
use Rattle.acl_model.specs.declared.rule.Sign.TheVariants.{Grant, Deny}
use Rattle.sign_stack.proofs.OutcomeLaws.{none_is_unsettled}
use Rattle.token_stack.specs.SignRows.{level_rows}
use Rattle.token_stack.proofs.SignLaws.{rows_sign_holds, rows_sign, rows_rule}
use Rattle.token_stack.proofs.sign_laws.standing_rows_give_signs.Goals as goal

pub returns : goal.returns
returns c = record {
  holds = λ rules d list place surely possibly element s r given. rows_sign_holds rules d list place surely possibly element r s given;
  sign = rows_sign;
  rule = rows_rule;
  none = λ rules surely possibly levels. none_is_unsettled (numbers_of_sign Grant rules) (numbers_of_sign Deny rules) (level_rows surely possibly levels);
}
