use Rattle.esis_lines.proofs.Dropping.{read_document}
use Rattle.esis_lines.proofs.laws.reads_every_document.Goals as goal

pub returns : goal.returns
returns c = read_document
