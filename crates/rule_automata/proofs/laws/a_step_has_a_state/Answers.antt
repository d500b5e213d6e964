-- Proved in StateLists and ReadLaws.
use Rattle.rule_automata.proofs.StateLists.{length-states_from, closed-states_from}
use Rattle.rule_automata.proofs.ReadLaws.{state_found}
use Rattle.rule_automata.proofs.laws.a_step_has_a_state.Goals as goal

pub returns : goal.returns
returns c = record {
  count = λ names rules. length-states_from names rules 0;
  closed = λ names rules. closed-states_from names rules 0;
  found = state_found;
}
