-- A hospital is a document, and its elements and lines fit u32. So the counts are its numbers.
use Rattle.sample_maker.proofs.Numbers.{sample_elements_fit, sample_lines_fit, sample_is_document, line_is}
use Rattle.sample_maker.proofs.line.sample_line.Goals as goal

pub elements_in-requires : goal.elements_in-requires
elements_in-requires c = sample_elements_fit c.args.doc.now c.args.n c.requires.made c.requires.few

pub lines_in-requires : goal.lines_in-requires
lines_in-requires c = sample_lines_fit c.args.doc.now c.args.n c.requires.made c.requires.few

pub lines_of_view-requires-clause-form : goal.lines_of_view-requires-clause-form
lines_of_view-requires-clause-form c = sample_is_document c.args.doc.now c.args.n c.requires.made c.requires.few

pub lines_of_view-requires-clause-few : goal.lines_of_view-requires-clause-few
lines_of_view-requires-clause-few c = sample_lines_fit c.args.doc.now c.args.n c.requires.made c.requires.few

pub returns : goal.returns
returns c = record {
  exact =
      line_is c.in_ok-line.line c.args.doc.now c.args.n c.elements_in.result c.lines_in.result c.in_ok-view.view c.requires.made c.requires.few
      c.in_ok-line.ensures c.elements_in.ensures c.lines_in.ensures c.in_ok-view.ensures;
}
