use Rattle.esis_lines.proofs.Passing.{text_reads}
use Rattle.esis_lines.proofs.Kept.{document_lines-all}
use Rattle.acl_model.specs.Lines.{lines}
use Rattle.acl_model.specs.Text.{text}
use Rattle.esis_lines.proofs.laws.what_is_written_is_read.Goals as goal

pub returns : goal.returns
returns c = record {
  text = λ d is. (is, document_lines-all (lines (text d)) (text_reads d is).kept);
  read = λ d is. (text_reads d is).run_is 1;
}
