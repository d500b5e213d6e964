-- The laws of BoundRows.
use Rattle.token_stack.proofs.BoundRows.{stands_right, settled_row}
use Rattle.token_stack.proofs.bound_laws.standing_sets_are_right.Goals as goal

pub returns : goal.returns
returns c = record {
  right = λ names rules d list i known surely possibly few few_rules spells. stands_right names rules d list spells i known surely possibly few_rules;
  settled = λ names rules d list i known surely possibly level place n rule few spells.
      settled_row names rules d list spells i known surely possibly level place n rule;
}
