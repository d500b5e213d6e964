use Rattle.std.proofs.Common.{◌∙◌}
use Rattle.predicate_walk.specs.Truths.{preds_in}
use Rattle.predicate_walk.proofs.NameLaws.{tests_found}
use Rattle.predicate_walk.proofs.TextLaws.{refs_need}
use Rattle.predicate_walk.proofs.machine.Machine.new.Goals as goal

pub invariant_of-result : goal.invariant_of-result
invariant_of-result c = record {
  deep_is = c.in_ok-find_answers.ensures;
  tests_are = tests_found (preds_in c.args.preds.now) c.in_ok-find_name_rows.field-0 c.in_ok-find_answers-2.field-0
      c.in_ok-find_name_rows.ensures c.in_ok-find_answers-2.ensures;
  texts_are = c.do_any_compare_texts.ensures ∙ refs_need c.args.preds.now;
}
