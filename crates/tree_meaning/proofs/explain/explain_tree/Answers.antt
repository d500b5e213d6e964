use Rattle.std.proofs.Common.{◌∙◌, ◌++◌, [], ap}
use Rattle.std.specs.List.{flat_map}
use Rattle.tree_meaning.specs.inside.StepMarks.{marked_steps, begun_rule, row_below}
use Rattle.tree_meaning.specs.inside.ExplainWalk.{explanations_in, told_if_unselected, told_from}
use Rattle.tree_meaning.proofs.ToldLaws.{few_rules, explain_is}
use Rattle.tree_meaning.proofs.explain.explain_tree.Goals as goal

pub tell_if_unselected-requires-clause-few : goal.tell_if_unselected-requires-clause-few
tell_if_unselected-requires-clause-few c = few_rules c.args.rules.now _ (ap marked_steps c.as_slice-2.ensures.value ∙ c.in_ok-row.ensures) c.requires

pub explain_all-requires-clause-few : goal.explain_all-requires-clause-few
explain_all-requires-clause-few c = few_rules c.args.rules.now _ (ap marked_steps c.as_slice-3.ensures.value ∙ c.in_ok-row.ensures) c.requires

pub returns : goal.returns
returns c = record {
  exact =
      c.in_ok-explain_all.ensures
      ∙ ap (λ row. explanations_in c.tell_if_unselected.new.told.items ++ told_from row [] c.args.doc.now.root) (ap marked_steps c.as_slice-3.ensures.value ∙ c.in_ok-row.ensures)
      ∙ ap (λ told. told ++ told_from (flat_map begun_rule c.args.rules.now) [] c.args.doc.now.root)
      (c.in_ok-tell_if_unselected.ensures
      ∙ ap (λ told. explanations_in told ++ told_if_unselected (row_below c.args.doc.now.root (marked_steps c.as_slice-2.result.now))) c.new-told.ensures.items
      ∙ ap (λ row. told_if_unselected (row_below c.args.doc.now.root row)) (ap marked_steps c.as_slice-2.ensures.value ∙ c.in_ok-row.ensures))
      ∙ explain_is c.args.doc.now c.args.rules.now;
}
