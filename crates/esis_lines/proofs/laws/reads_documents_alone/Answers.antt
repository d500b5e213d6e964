use Rattle.esis_lines.proofs.Taken.{document_read}
use Rattle.esis_lines.proofs.laws.reads_documents_alone.Goals as goal

pub returns : goal.returns
returns c = document_read
