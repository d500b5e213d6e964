-- The examples of proofs/Vectors.antt.
use Rattle.aes_block.proofs.Vectors.{mul_example, sub_byte_example, cipher_128, cipher_256}
use Rattle.aes_block.proofs.laws.definitions_give_the_examples.Goals as goal

pub returns : goal.returns
returns c = record {
  product = mul_example;
  substitution = sub_byte_example;
  key_of_16_bytes = cipher_128;
  key_of_32_bytes = cipher_256;
}
