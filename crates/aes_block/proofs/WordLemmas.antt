-- The bytes of words: of a sum, of a word made from bytes, and of a sum of four table entries.
use Rattle.std.proofs.Common.{◌≡◌, ℕ, ◌/◌, ◌%◌, ◌^◌, ◌<◌, List, [], ◌∷◌, get_or, refl, ap, ◌∙◌, bit_xor}
use Rattle.std.specs.Int.{w32, from_be_bytes}
use Rattle.std.proofs.lemmas.Nat.{xor_shr, xor_mod, be_bytes_4}
use Rattle.aes_block.specs.Aes.{xor4, xor_bytes, word_product, mix_word, inverse_mix_word, sub_byte, inverse_sub_byte}
use Rattle.aes_block.specs.inside.ColumnWords.{word_bytes}
use Rattle.aes_block.specs.declared.tables.TheConstants.{MIX_FIRST, MIX_SECOND, MIX_THIRD, MIX_FOURTH, INVERSE_MIX_FIRST, INVERSE_MIX_SECOND, INVERSE_MIX_THIRD, INVERSE_MIX_FOURTH}
use Rattle.aes_block.proofs.States.{byte_lt}
use Rattle.aes_block.proofs.TableEntries.{mix_first_at, mix_second_at, mix_third_at, mix_fourth_at, inverse_mix_first_at, inverse_mix_second_at, inverse_mix_third_at, inverse_mix_fourth_at}

-- the byte above the k lowest bits
xor_byte : (x y k : ℕ) → bit_xor x y / 2 ^ k % 256 ≡ bit_xor (x / 2 ^ k % 256) (y / 2 ^ k % 256)
xor_byte x y k = ap (λ (z : ℕ). z % 256) (xor_shr x y k) ∙ xor_mod (x / 2 ^ k) (y / 2 ^ k) 8

-- the bytes of a sum are the sums of the bytes
pub word_bytes-xor : (x y : ℕ) → word_bytes (bit_xor x y) ≡ xor_bytes (word_bytes x) (word_bytes y)
unfolding xor_bytes
word_bytes-xor x y =
    λ i. xor_byte x y 24 i ∷ xor_byte x y 16 i ∷ xor_byte x y 8 i ∷ xor_mod x y 8 i ∷ []

-- a word made from four bytes has these bytes
pub word_bytes_of : (word a b c d : ℕ) → a < 256 → b < 256 → c < 256 → d < 256
    → word ≡ from_be_bytes w32 (a ∷ b ∷ c ∷ d ∷ []) → word_bytes word ≡ a ∷ b ∷ c ∷ d ∷ []
word_bytes_of word a b c d la lb lc ld made =
    be_bytes_4 (a ∷ b ∷ c ∷ d ∷ []) word refl (byte_lt (a ∷ b ∷ c ∷ d ∷ []) (la, (lb, (lc, (ld, tt))))) made

sum_of_four : (p q r s p0 p1 p2 p3 q0 q1 q2 q3 r0 r1 r2 r3 s0 s1 s2 s3 : ℕ)
    → word_bytes p ≡ p0 ∷ p1 ∷ p2 ∷ p3 ∷ [] → word_bytes q ≡ q0 ∷ q1 ∷ q2 ∷ q3 ∷ []
    → word_bytes r ≡ r0 ∷ r1 ∷ r2 ∷ r3 ∷ [] → word_bytes s ≡ s0 ∷ s1 ∷ s2 ∷ s3 ∷ []
    → word_bytes (bit_xor (bit_xor (bit_xor p q) r) s)
    ≡ xor4 p0 q0 r0 s0 ∷ xor4 p1 q1 r1 s1 ∷ xor4 p2 q2 r2 s2 ∷ xor4 p3 q3 r3 s3 ∷ []
unfolding xor_bytes
sum_of_four p q r s p0 p1 p2 p3 q0 q1 q2 q3 r0 r1 r2 r3 s0 s1 s2 s3 ep eq er es =
    word_bytes-xor (bit_xor (bit_xor p q) r) s
    ∙ ap (λ (l : List ℕ). xor_bytes l (word_bytes s)) (word_bytes-xor (bit_xor p q) r)
    ∙ ap (λ (l : List ℕ). xor_bytes (xor_bytes l (word_bytes r)) (word_bytes s)) (word_bytes-xor p q)
    ∙ (λ i. xor_bytes (xor_bytes (xor_bytes (ep i) (eq i)) (er i)) (es i))

-- the sum of the table entries for four bytes is the mixed column of the substituted bytes
pub mixed_entries : (j k l m : ℕ) → j < 256 → k < 256 → l < 256 → m < 256
    → word_bytes (bit_xor (bit_xor (bit_xor (get_or MIX_FIRST j 0) (get_or MIX_SECOND k 0)) (get_or MIX_THIRD l 0)) (get_or MIX_FOURTH m 0))
    ≡ word_product mix_word (sub_byte j) (sub_byte k) (sub_byte l) (sub_byte m)
mixed_entries j k l m lj lk ll lm =
    sum_of_four (get_or MIX_FIRST j 0) (get_or MIX_SECOND k 0) (get_or MIX_THIRD l 0) (get_or MIX_FOURTH m 0)
    _ _ _ _ _ _ _ _ _ _ _ _ _ _ _ _ (mix_first_at j lj) (mix_second_at k lk) (mix_third_at l ll) (mix_fourth_at m lm)

-- the same for the inverse tables
pub inverse_mixed_entries : (j k l m : ℕ) → j < 256 → k < 256 → l < 256 → m < 256
    → word_bytes (bit_xor (bit_xor (bit_xor (get_or INVERSE_MIX_FIRST j 0) (get_or INVERSE_MIX_SECOND k 0)) (get_or INVERSE_MIX_THIRD l 0)) (get_or INVERSE_MIX_FOURTH m 0))
    ≡ word_product inverse_mix_word (inverse_sub_byte j) (inverse_sub_byte k) (inverse_sub_byte l) (inverse_sub_byte m)
inverse_mixed_entries j k l m lj lk ll lm =
    sum_of_four (get_or INVERSE_MIX_FIRST j 0) (get_or INVERSE_MIX_SECOND k 0) (get_or INVERSE_MIX_THIRD l 0) (get_or INVERSE_MIX_FOURTH m 0)
    _ _ _ _ _ _ _ _ _ _ _ _ _ _ _ _ (inverse_mix_first_at j lj) (inverse_mix_second_at k lk) (inverse_mix_third_at l ll) (inverse_mix_fourth_at m lm)
