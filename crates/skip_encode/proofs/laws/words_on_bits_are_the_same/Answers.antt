use Rattle.skip_encode.proofs.BitWords.{bits_of-same, number_after-same, bytes_of-same}
use Rattle.skip_encode.proofs.laws.words_on_bits_are_the_same.Goals as goal

pub returns-clause-bits : goal.returns-clause-bits
returns-clause-bits c = bits_of-same

pub returns-clause-number : goal.returns-clause-number
returns-clause-number c = number_after-same

pub returns-clause-bytes : goal.returns-clause-bytes
returns-clause-bytes c = bytes_of-same
