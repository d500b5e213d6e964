-- Proved in RunLaws.
use Rattle.rule_automata.proofs.RunLaws.{selected_is, selected_at}
use Rattle.rule_automata.proofs.laws.states_take_the_rules_that_select.Goals as goal

pub returns : goal.returns
returns c = record { chain = selected_is; place = selected_at }
