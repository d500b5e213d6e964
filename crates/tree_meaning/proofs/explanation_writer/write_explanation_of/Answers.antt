use Rattle.std.proofs.Common.{◌∙◌, [], ap}
use Rattle.acl_model.specs.Explain.{explanation_lines}
use Rattle.acl_outside.proofs.Remaining.{Writes-last}
use Rattle.tree_meaning.specs.inside.Decided.{told_below}
use Rattle.tree_meaning.proofs.DecidedLaws.{lines_are_explained}
use Rattle.tree_meaning.proofs.TurnLaws.{Writes-good, Writes-bad}
use Rattle.tree_meaning.proofs.explanation_writer.write_explanation_of.Goals as goal

pub returns-in-Ok-write_decided : goal.returns-in-Ok-write_decided
returns-in-Ok-write_decided g c = record {
  written = Writes-good c.in-Ok-write_decided.is
      (Writes-last c.write_decided.ensures
      (ap (λ entries. explanation_lines c.args.rules.now (told_below entries [] c.args.doc.now.root)) (c.as_slice.ensures.value ∙ c.in-Ok.ensures) ∙ lines_are_explained c.args.doc.now c.args.rules.now));
}

pub returns-in-Ok : goal.returns-in-Ok
returns-in-Ok g c = record {
  written = Writes-bad c.in-Err-write_decided.is
      (Writes-last c.write_decided.ensures
      (ap (λ entries. explanation_lines c.args.rules.now (told_below entries [] c.args.doc.now.root)) (c.as_slice.ensures.value ∙ c.in-Ok.ensures) ∙ lines_are_explained c.args.doc.now c.args.rules.now));
}
