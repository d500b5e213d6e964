-- The laws of BoundRows.
use Rattle.token_stack.proofs.BoundRows.{sure_select, select_may, sure_rules_grow, may_rules_shrink, settled_rule, plain_rules, rules-in_order}
use Rattle.token_stack.proofs.bound_laws.rules_lie_between_bounds.Goals as goal

pub returns : goal.returns
returns c = record {
  sure = λ names rules d list known place n few spells. sure_select names rules d list spells known place n;
  may = λ names rules d list known place n few few_rules spells. select_may names rules d list spells known place n few_rules;
  sure_grows = λ names rules d list known more place n few spells. sure_rules_grow names rules d list spells known more place n;
  may_shrinks = λ names rules d list known more place n few spells. may_rules_shrink names rules d list spells known more place n;
  settled = λ names rules d list known place n rule few spells. settled_rule names rules d list spells known place n rule;
  plain = plain_rules;
  in_order = rules-in_order;
}
