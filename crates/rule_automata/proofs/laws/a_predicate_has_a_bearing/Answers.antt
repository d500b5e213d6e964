-- Proved in PredLists, TableLaws and ReadLaws.
use Rattle.rule_automata.proofs.PredLists.{length-suffixes_of}
use Rattle.rule_automata.proofs.TableLaws.{length-bearings}
use Rattle.rule_automata.proofs.ReadLaws.{pred_found, of_pred}
use Rattle.rule_automata.proofs.laws.a_predicate_has_a_bearing.Goals as goal

pub returns : goal.returns
returns c = record {
  bearings = λ names rules. length-bearings 0 0 rules;
  suffixes = λ names rules. length-suffixes_of names 0 rules;
  found = pred_found;
  each = of_pred;
}
