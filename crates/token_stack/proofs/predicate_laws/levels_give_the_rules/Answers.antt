-- The laws of PredicateLevelLaws.
use Rattle.token_stack.proofs.PredicateLevelLaws.{levels_sure_rules, levels_may_rules}
use Rattle.token_stack.proofs.predicate_laws.levels_give_the_rules.Goals as goal

pub returns : goal.returns
returns c = record { sure = levels_sure_rules; may = levels_may_rules }
