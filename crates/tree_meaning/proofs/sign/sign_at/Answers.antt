-- The walk from the root finds the sign.
use Rattle.std.proofs.Common.{◌∙◌, ap}
use Rattle.std.specs.List.{flat_map}
use Rattle.acl_model.specs.declared.rule.Sign.TheVariants.{Deny}
use Rattle.tree_meaning.specs.inside.StepMarks.{marked_steps, begun_rule, sign_from}
use Rattle.tree_meaning.proofs.SignLaws.{sign_found}
use Rattle.tree_meaning.proofs.sign.sign_at.Goals as goal

pub returns : goal.returns
returns c = record {
  exact =
      c.in_ok-found.ensures
      ∙ ap (λ row. sign_from row Deny c.args.doc.now.root c.as_slice-4.result.now) (ap marked_steps c.as_slice-3.ensures.value ∙ c.in_ok-row.ensures)
      ∙ ap (sign_from (flat_map begun_rule c.args.rules.now) Deny c.args.doc.now.root) c.as_slice-4.ensures
      ∙ sign_found c.args.doc.now c.args.rules.now c.args.place.now;
}
