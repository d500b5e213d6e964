use Rattle.merkle_chunks.proofs.Places.{one_header}
use Rattle.merkle_chunks.proofs.laws.a_header_has_its_own_bytes.Goals as goal

pub returns : goal.returns
returns c = one_header
