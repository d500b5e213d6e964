use Rattle.esis_lines.proofs.FirstRefused.{refused_alone}
use Rattle.esis_lines.proofs.laws.what_is_refused_is_no_document.Goals as goal

pub returns : goal.returns
returns c = refused_alone
