use Rattle.std.proofs.Common.{◌∙◌, ap}
use Rattle.acl_outside.proofs.Remaining.{Writes-last}
use Rattle.tree_meaning.specs.inside.Shows.{written_of}
use Rattle.tree_meaning.proofs.ShowLaws.{all_written}
use Rattle.tree_meaning.proofs.TurnLaws.{Writes-good, Writes-bad}
use Rattle.tree_meaning.proofs.view_writer.write_view.Goals as goal

pub returns-in-Ok-write_shown : goal.returns-in-Ok-write_shown
returns-in-Ok-write_shown g c = record {
  written = Writes-good c.in-Ok-write_shown.is
      (Writes-last c.write_shown.ensures (ap (λ s. (written_of c.args.doc.now.root s).text) (c.as_slice.ensures.value ∙ c.in-Ok.ensures) ∙ all_written c.args.doc.now c.args.rules.now));
}

pub returns-in-Ok : goal.returns-in-Ok
returns-in-Ok g c = record {
  written = Writes-bad c.in-Err-write_shown.is
      (Writes-last c.write_shown.ensures (ap (λ s. (written_of c.args.doc.now.root s).text) (c.as_slice.ensures.value ∙ c.in-Ok.ensures) ∙ all_written c.args.doc.now c.args.rules.now));
}
