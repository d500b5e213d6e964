use Rattle.merkle_chunks.proofs.RangeLemmas.{document_header-in_range}
use Rattle.merkle_chunks.proofs.laws.headers_of_documents_are_in_range.Goals as goal

pub returns : goal.returns
returns c = λ d key good within. document_header-in_range d good within key
