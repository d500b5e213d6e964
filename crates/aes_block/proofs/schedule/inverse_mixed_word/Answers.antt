use Rattle.std.proofs.Common.{◌∙◌, arith}
use Rattle.std.specs.Prelude.{slice_index}
use Rattle.aes_block.specs.Aes.{inverse_mix_word, inverse_sub_byte, word_product}
use Rattle.aes_block.specs.inside.ColumnWords.{word_byte}
use Rattle.aes_block.proofs.Substitution.{inverse_sub_byte-sub_byte}
use Rattle.aes_block.proofs.schedule.inverse_mixed_word.Goals as goal

pub returns : goal.returns
returns c =
    c.inverse_mixed.ensures
    ∙ (λ i. word_product inverse_mix_word (inverse_sub_byte (slice_index (c.substituted-s.ensures i) 0))
    (inverse_sub_byte (slice_index (c.substituted-s.ensures i) 1)) (inverse_sub_byte (slice_index (c.substituted-s.ensures i) 2))
    (inverse_sub_byte (slice_index (c.substituted-s.ensures i) 3)))
    ∙ (λ i. word_product inverse_mix_word (inverse_sub_byte-sub_byte (word_byte c.args.word 0) (omega arith) i)
    (inverse_sub_byte-sub_byte (word_byte c.args.word 1) (omega arith) i)
    (inverse_sub_byte-sub_byte (word_byte c.args.word 2) (omega arith) i)
    (inverse_sub_byte-sub_byte (word_byte c.args.word 3) (omega arith) i))
