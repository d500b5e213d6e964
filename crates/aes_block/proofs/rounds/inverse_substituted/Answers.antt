use Rattle.std.proofs.Common.{ℕ, ◌<◌, [], ◌∷◌, get_or, ◌∙◌, arith, subst, sym}
use Rattle.aes_block.specs.Aes.{inverse_sub_byte}
use Rattle.aes_block.specs.declared.tables.TheConstants.{INVERSE_SUB_BYTE}
use Rattle.aes_block.proofs.Substitution.{inverse_sub_byte-lt}
use Rattle.aes_block.proofs.TableEntries.{inverse_sub_byte_at}
use Rattle.aes_block.proofs.WordLemmas.{word_bytes_of}
use Rattle.aes_block.proofs.rounds.inverse_substituted.Goals as goal

pub returns : goal.returns
returns c =
    let lt : (x : ℕ) → x < 256 → get_or INVERSE_SUB_BYTE x 0 < 256 = λ x h. subst (λ (y : ℕ). y < 256) (sym (inverse_sub_byte_at x h)) (inverse_sub_byte-lt x h) in
    word_bytes_of c.from_be_bytes.result (get_or INVERSE_SUB_BYTE c.first_byte.result 0) (get_or INVERSE_SUB_BYTE c.second_byte.result 0)
    (get_or INVERSE_SUB_BYTE c.third_byte.result 0) (get_or INVERSE_SUB_BYTE c.fourth_byte.result 0)
    (lt c.first_byte.result (omega arith)) (lt c.second_byte.result (omega arith)) (lt c.third_byte.result (omega arith)) (lt c.fourth_byte.result (omega arith)) c.from_be_bytes.ensures
    ∙ (λ i. inverse_sub_byte_at c.first_byte.result (omega arith) i ∷ inverse_sub_byte_at c.second_byte.result (omega arith) i ∷ inverse_sub_byte_at c.third_byte.result (omega arith) i ∷ inverse_sub_byte_at c.fourth_byte.result (omega arith) i ∷ [])
    ∙ (λ i. inverse_sub_byte (c.first_byte.ensures i) ∷ inverse_sub_byte (c.second_byte.ensures i) ∷ inverse_sub_byte (c.third_byte.ensures i) ∷ inverse_sub_byte (c.fourth_byte.ensures i) ∷ [])
