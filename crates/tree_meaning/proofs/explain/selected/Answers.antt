use Rattle.std.proofs.Common.{◌∙◌, ◌++◌, [], true, None, ap, sym, map}
use Rattle.tree_meaning.specs.inside.StepMarks.{marked_steps, begun_steps}
use Rattle.tree_meaning.specs.inside.ExplainWalk.{explanations_in, told_from}
use Rattle.tree_meaning.proofs.ToldLaws.{one_rule, places_told, selected_are}
use Rattle.acl_model.specs.declared.rule.Sign.TheVariants.{Grant}
use Rattle.tree_meaning.proofs.explain.selected.Goals as goal

pub explain_all-requires-clause-few : goal.explain_all-requires-clause-few
explain_all-requires-clause-few c =
    one_rule c.args.path.now.steps _
    (ap marked_steps c.as_slice-3.ensures.value ∙ c.in_ok-begin.ensures
    ∙ ap (λ row. marked_steps row ++ begun_steps Grant None true c.as_slice.result.now) c.new-row.ensures.items
    ∙ ap (begun_steps Grant None true) c.as_slice.ensures)

pub returns : goal.returns
returns c = record {
  exact =
      c.in_ok-places.ensures
      ∙ sym (places_told c.explain_all.new.told.items)
      ∙ ap (map (λ told. told.place))
      (c.in_ok-explain_all.ensures
      ∙ ap (λ told. explanations_in told ++ told_from (marked_steps c.as_slice-3.result.now) [] c.args.doc.now.root) c.new-told.ensures.items
      ∙ ap (λ row. told_from row [] c.args.doc.now.root)
      (ap marked_steps c.as_slice-3.ensures.value ∙ c.in_ok-begin.ensures
      ∙ ap (λ row. marked_steps row ++ begun_steps Grant None true c.as_slice.result.now) c.new-row.ensures.items
      ∙ ap (begun_steps Grant None true) c.as_slice.ensures))
      ∙ selected_are c.args.doc.now c.args.path.now;
}
