-- The laws of proofs/BitStrings.antt.
use Rattle.acl_bits.proofs.BitStrings.{bits_of_bytes-bytes_of, number_of-bits_of, length-bits_of, bits_of-number_of, number_of-lt}
use Rattle.acl_bits.proofs.bit_writer.bits_put_are_bits_taken.Goals as goal

pub returns : goal.returns
returns c = record {
  bits = bits_of_bytes-bytes_of;
  value = number_of-bits_of;
  length = length-bits_of;
  again = bits_of-number_of;
  small = number_of-lt;
}
