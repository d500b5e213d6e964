-- The laws of SignLaws.
use Rattle.token_stack.proofs.SignLaws.{open_rows_are, open_sign, open_rule}
use Rattle.token_stack.proofs.sign_laws.standing_tokens_give_signs.Goals as goal

pub returns : goal.returns
returns c = record { levels = open_rows_are; sign = open_sign; rule = open_rule }
