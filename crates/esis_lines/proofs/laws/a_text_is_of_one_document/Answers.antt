use Rattle.esis_lines.proofs.Dropping.{one_document}
use Rattle.esis_lines.proofs.laws.a_text_is_of_one_document.Goals as goal

pub returns : goal.returns
returns c = one_document
