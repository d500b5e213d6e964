use Rattle.merkle_chunks.proofs.FileLemmas.{length-cipher_fragments, fragment_is_locked}
use Rattle.merkle_chunks.proofs.StreamBytes.{fragment_unlocks}
use Rattle.merkle_chunks.proofs.laws.fragments_are_enciphered_one_by_one.Goals as goal

pub returns : goal.returns
returns c = record {
  count = length-cipher_fragments;
  locked = λ d key index is_key lt. fragment_is_locked d key is_key index lt;
  unlocked = fragment_unlocks;
}
