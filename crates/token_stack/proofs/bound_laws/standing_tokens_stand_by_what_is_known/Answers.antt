-- The laws of BoundRows.
use Rattle.token_stack.proofs.BoundRows.{plain_row, tokens_stand_by}
use Rattle.token_stack.proofs.bound_laws.standing_tokens_stand_by_what_is_known.Goals as goal

pub returns : goal.returns
returns c = record {
  rows = plain_row;
  known = λ names rules d list i tokens known distinct few plain spells. tokens_stand_by names rules d list spells i tokens known distinct few plain;
}
