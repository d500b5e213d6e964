use Rattle.merkle_chunks.proofs.StreamBytes.{plain-bytes}
use Rattle.merkle_chunks.proofs.laws.streams_are_bytes.Goals as goal

pub returns : goal.returns
returns c = plain-bytes
