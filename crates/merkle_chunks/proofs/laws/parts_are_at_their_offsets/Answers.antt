use Rattle.merkle_chunks.proofs.FileLemmas.{header_of_file, fragment_of_file, node_of_file, length-file, root_of_file}
use Rattle.merkle_chunks.proofs.laws.parts_are_at_their_offsets.Goals as goal

pub returns : goal.returns
returns c = record { header = header_of_file; fragment = fragment_of_file; node = node_of_file; size = length-file; root = root_of_file }
