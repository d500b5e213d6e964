-- The walk from the root makes the view.
use Rattle.std.proofs.Common.{◌∙◌, ap}
use Rattle.tree_meaning.specs.inside.StepMarks.{marked_steps}
use Rattle.tree_meaning.proofs.MarkLaws.{root_view}
use Rattle.tree_meaning.proofs.view.view_tree.Goals as goal

pub returns-in-Some : goal.returns-in-Some
returns-in-Some c = record {
  exact =
      root_view c.args.doc.now c.args.rules.now (marked_steps c.as_slice-2.result.now) c.in_ok-root.field-0 _
      (ap marked_steps c.as_slice-2.ensures.value ∙ c.in_ok-row.ensures) c.in_ok-root.ensures.view c.in-Some.is;
}

pub returns : goal.returns
returns c = record {
  exact =
      root_view c.args.doc.now c.args.rules.now (marked_steps c.as_slice-2.result.now) c.in_ok-root.field-0 _
      (ap marked_steps c.as_slice-2.ensures.value ∙ c.in_ok-row.ensures) c.in_ok-root.ensures.view c.in-None.is;
}
