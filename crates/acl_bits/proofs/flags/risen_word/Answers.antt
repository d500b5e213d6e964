-- Each bit of the word, by the laws of `or`, `and` and a shift.
use Rattle.acl_bits.proofs.FlagWords.{risen_word_bit}
use Rattle.acl_bits.proofs.flags.risen_word.Goals as goal

pub returns : goal.returns
returns c =
    λ i h. risen_word_bit c.args.own c.args.tests c.args.deep c.args.below c.args.carry i c.requires h
