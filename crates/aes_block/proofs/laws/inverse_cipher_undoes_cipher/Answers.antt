-- The laws of proofs/KeyStates.antt.
use Rattle.aes_block.proofs.KeyStates.{deciphered, enciphered, AreBytes-cipher, AreBytes-inverse_cipher}
use Rattle.aes_block.proofs.laws.inverse_cipher_undoes_cipher.Goals as goal

pub returns : goal.returns
returns c = record {
  deciphered = deciphered;
  enciphered = enciphered;
  cipher = AreBytes-cipher;
  inverse = AreBytes-inverse_cipher;
}
