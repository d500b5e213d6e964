use Rattle.std.proofs.Common.{◌≡◌, ℕ, ◌<◌, [], ◌∷◌, get_or, ◌∙◌, bit_xor, arith, subst, sym}
use Rattle.std.proofs.lemmas.Nat.{xor_of_8}
use lib.Bits.{xor_zero_r}
use Rattle.aes_block.specs.Aes.{sub_byte, xor_bytes}
use Rattle.aes_block.specs.declared.tables.TheConstants.{SUB_BYTE}
use Rattle.aes_block.proofs.Substitution.{sub_byte-lt}
use Rattle.aes_block.proofs.TableEntries.{sub_byte_at}
use Rattle.aes_block.proofs.WordLemmas.{word_bytes_of}
use Rattle.aes_block.proofs.schedule.turned.Goals as goal

pub returns : goal.returns
unfolding xor_bytes
returns c =
    let k = c.args.constant in
    let lt : (x : ℕ) → x < 256 → get_or SUB_BYTE x 0 < 256 = λ x h. subst (λ (y : ℕ). y < 256) (sym (sub_byte_at x h)) (sub_byte-lt x h) in
    let plain : (x : ℕ) → x < 256 → get_or SUB_BYTE x 0 ≡ bit_xor (sub_byte x) 0 = λ x h. sub_byte_at x h ∙ sym (xor_zero_r (sub_byte x)) in
    word_bytes_of c.from_be_bytes.result (bit_xor (get_or SUB_BYTE c.second_byte.result 0) k) (get_or SUB_BYTE c.third_byte.result 0)
    (get_or SUB_BYTE c.fourth_byte.result 0) (get_or SUB_BYTE c.first_byte.result 0)
    (xor_of_8 (get_or SUB_BYTE c.second_byte.result 0) k (lt c.second_byte.result (omega arith)) (omega arith))
    (lt c.third_byte.result (omega arith)) (lt c.fourth_byte.result (omega arith)) (lt c.first_byte.result (omega arith))
    c.from_be_bytes.ensures
    ∙ (λ i. bit_xor (sub_byte_at c.second_byte.result (omega arith) i) k ∷ plain c.third_byte.result (omega arith) i
    ∷ plain c.fourth_byte.result (omega arith) i ∷ plain c.first_byte.result (omega arith) i ∷ [])
    ∙ (λ i. bit_xor (sub_byte (c.second_byte.ensures i)) k ∷ bit_xor (sub_byte (c.third_byte.ensures i)) 0
    ∷ bit_xor (sub_byte (c.fourth_byte.ensures i)) 0 ∷ bit_xor (sub_byte (c.first_byte.ensures i)) 0 ∷ [])
