use Rattle.merkle_chunks.proofs.FileLemmas.{cipher_stream-made, file_is}
use Rattle.merkle_chunks.proofs.laws.files_are_made_by_their_parts.Goals as goal

pub returns : goal.returns
returns c = record { cipher = λ d key cipher is_key. cipher_stream-made d key is_key cipher; whole = file_is }
