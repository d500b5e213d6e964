use Rattle.std.proofs.Common.{◌∙◌, arith}
use Rattle.aes_block.specs.Aes.{sub_byte, mix_word, word_product}
use Rattle.aes_block.proofs.WordLemmas.{mixed_entries}
use Rattle.aes_block.proofs.rounds.mixed.Goals as goal

pub returns : goal.returns
returns c =
    mixed_entries c.first_byte.result c.second_byte.result c.third_byte.result c.fourth_byte.result (omega arith) (omega arith) (omega arith) (omega arith)
    ∙ (λ i. word_product mix_word (sub_byte (c.first_byte.ensures i)) (sub_byte (c.second_byte.ensures i)) (sub_byte (c.third_byte.ensures i)) (sub_byte (c.fourth_byte.ensures i)))
