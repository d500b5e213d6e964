-- The law of proofs/FieldLaws.antt.
use Rattle.aes_block.proofs.FieldLaws.{mul_inverse, inverse_of_zero}
use Rattle.aes_block.proofs.laws.field_inverse_is_an_inverse.Goals as goal

pub returns : goal.returns
returns c = record { product = mul_inverse; zero = inverse_of_zero }
