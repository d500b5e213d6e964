-- A column that is multiplied by the matrix of one of the two fixed words, and then by that of the other, is unchanged.
use Rattle.std.proofs.Common.{◌≡◌, ℕ, ◌+◌, ◌-◌, ◌<◌, List, true, refl, sym, ap, ◌∙◌, bit_xor, eqb}
use lib.Bits.{xor_zero_r}
use Rattle.aes_block.specs.Field.{product, remainder, mul}
use Rattle.aes_block.specs.Aes.{xor4, word_entry, word_product_row, mix_word, inverse_mix_word}
use Rattle.aes_block.proofs.Bytes.{passes_below, same_below}
use Rattle.aes_block.proofs.FieldLaws.{mul-xor, xor_swap}

-- what byte j of a column contributes to row r, where the column is multiplied by a and then by o
abbrev through : List ℕ → List ℕ → ℕ → ℕ → ℕ → ℕ
through o a r j x =
    xor4 (mul (word_entry o r) (mul (word_entry a (4 - j)) x))
    (mul (word_entry o (r + 3)) (mul (word_entry a (5 - j)) x))
    (mul (word_entry o (r + 2)) (mul (word_entry a (6 - j)) x))
    (mul (word_entry o (r + 1)) (mul (word_entry a (7 - j)) x))

undone_00 : passes_below 256 (λ x. eqb (through inverse_mix_word mix_word 0 0 x) x) ≡ true
unfolding mul product remainder
undone_00 = refl

undone_01 : passes_below 256 (λ x. eqb (through inverse_mix_word mix_word 0 1 x) 0) ≡ true
unfolding mul product remainder
undone_01 = refl

undone_02 : passes_below 256 (λ x. eqb (through inverse_mix_word mix_word 0 2 x) 0) ≡ true
unfolding mul product remainder
undone_02 = refl

undone_03 : passes_below 256 (λ x. eqb (through inverse_mix_word mix_word 0 3 x) 0) ≡ true
unfolding mul product remainder
undone_03 = refl

undone_10 : passes_below 256 (λ x. eqb (through inverse_mix_word mix_word 1 0 x) 0) ≡ true
unfolding mul product remainder
undone_10 = refl

undone_11 : passes_below 256 (λ x. eqb (through inverse_mix_word mix_word 1 1 x) x) ≡ true
unfolding mul product remainder
undone_11 = refl

undone_12 : passes_below 256 (λ x. eqb (through inverse_mix_word mix_word 1 2 x) 0) ≡ true
unfolding mul product remainder
undone_12 = refl

undone_13 : passes_below 256 (λ x. eqb (through inverse_mix_word mix_word 1 3 x) 0) ≡ true
unfolding mul product remainder
undone_13 = refl

undone_20 : passes_below 256 (λ x. eqb (through inverse_mix_word mix_word 2 0 x) 0) ≡ true
unfolding mul product remainder
undone_20 = refl

undone_21 : passes_below 256 (λ x. eqb (through inverse_mix_word mix_word 2 1 x) 0) ≡ true
unfolding mul product remainder
undone_21 = refl

undone_22 : passes_below 256 (λ x. eqb (through inverse_mix_word mix_word 2 2 x) x) ≡ true
unfolding mul product remainder
undone_22 = refl

undone_23 : passes_below 256 (λ x. eqb (through inverse_mix_word mix_word 2 3 x) 0) ≡ true
unfolding mul product remainder
undone_23 = refl

undone_30 : passes_below 256 (λ x. eqb (through inverse_mix_word mix_word 3 0 x) 0) ≡ true
unfolding mul product remainder
undone_30 = refl

undone_31 : passes_below 256 (λ x. eqb (through inverse_mix_word mix_word 3 1 x) 0) ≡ true
unfolding mul product remainder
undone_31 = refl

undone_32 : passes_below 256 (λ x. eqb (through inverse_mix_word mix_word 3 2 x) 0) ≡ true
unfolding mul product remainder
undone_32 = refl

undone_33 : passes_below 256 (λ x. eqb (through inverse_mix_word mix_word 3 3 x) x) ≡ true
unfolding mul product remainder
undone_33 = refl

redone_00 : passes_below 256 (λ x. eqb (through mix_word inverse_mix_word 0 0 x) x) ≡ true
unfolding mul product remainder
redone_00 = refl

redone_01 : passes_below 256 (λ x. eqb (through mix_word inverse_mix_word 0 1 x) 0) ≡ true
unfolding mul product remainder
redone_01 = refl

redone_02 : passes_below 256 (λ x. eqb (through mix_word inverse_mix_word 0 2 x) 0) ≡ true
unfolding mul product remainder
redone_02 = refl

redone_03 : passes_below 256 (λ x. eqb (through mix_word inverse_mix_word 0 3 x) 0) ≡ true
unfolding mul product remainder
redone_03 = refl

redone_10 : passes_below 256 (λ x. eqb (through mix_word inverse_mix_word 1 0 x) 0) ≡ true
unfolding mul product remainder
redone_10 = refl

redone_11 : passes_below 256 (λ x. eqb (through mix_word inverse_mix_word 1 1 x) x) ≡ true
unfolding mul product remainder
redone_11 = refl

redone_12 : passes_below 256 (λ x. eqb (through mix_word inverse_mix_word 1 2 x) 0) ≡ true
unfolding mul product remainder
redone_12 = refl

redone_13 : passes_below 256 (λ x. eqb (through mix_word inverse_mix_word 1 3 x) 0) ≡ true
unfolding mul product remainder
redone_13 = refl

redone_20 : passes_below 256 (λ x. eqb (through mix_word inverse_mix_word 2 0 x) 0) ≡ true
unfolding mul product remainder
redone_20 = refl

redone_21 : passes_below 256 (λ x. eqb (through mix_word inverse_mix_word 2 1 x) 0) ≡ true
unfolding mul product remainder
redone_21 = refl

redone_22 : passes_below 256 (λ x. eqb (through mix_word inverse_mix_word 2 2 x) x) ≡ true
unfolding mul product remainder
redone_22 = refl

redone_23 : passes_below 256 (λ x. eqb (through mix_word inverse_mix_word 2 3 x) 0) ≡ true
unfolding mul product remainder
redone_23 = refl

redone_30 : passes_below 256 (λ x. eqb (through mix_word inverse_mix_word 3 0 x) 0) ≡ true
unfolding mul product remainder
redone_30 = refl

redone_31 : passes_below 256 (λ x. eqb (through mix_word inverse_mix_word 3 1 x) 0) ≡ true
unfolding mul product remainder
redone_31 = refl

redone_32 : passes_below 256 (λ x. eqb (through mix_word inverse_mix_word 3 2 x) 0) ≡ true
unfolding mul product remainder
redone_32 = refl

redone_33 : passes_below 256 (λ x. eqb (through mix_word inverse_mix_word 3 3 x) x) ≡ true
unfolding mul product remainder
redone_33 = refl

-- the sum of two sums of four
xor4-xor4 : (a b c d e f g h : ℕ) → bit_xor (xor4 a b c d) (xor4 e f g h) ≡ xor4 (bit_xor a e) (bit_xor b f) (bit_xor c g) (bit_xor d h)
xor4-xor4 a b c d e f g h =
    xor_swap (bit_xor (bit_xor a b) c) d (bit_xor (bit_xor e f) g) h
    ∙ ap (λ (x : ℕ). bit_xor x (bit_xor d h))
    (xor_swap (bit_xor a b) c (bit_xor e f) g ∙ ap (λ (x : ℕ). bit_xor x (bit_xor c g)) (xor_swap a b e f))

-- the sum of the rows of a four-by-four table is the sum of its columns
xor4_turned : (a0 a1 a2 a3 b0 b1 b2 b3 c0 c1 c2 c3 d0 d1 d2 d3 : ℕ)
    → xor4 (xor4 a0 a1 a2 a3) (xor4 b0 b1 b2 b3) (xor4 c0 c1 c2 c3) (xor4 d0 d1 d2 d3)
    ≡ xor4 (xor4 a0 b0 c0 d0) (xor4 a1 b1 c1 d1) (xor4 a2 b2 c2 d2) (xor4 a3 b3 c3 d3)
xor4_turned a0 a1 a2 a3 b0 b1 b2 b3 c0 c1 c2 c3 d0 d1 d2 d3 =
    ap (λ (x : ℕ). bit_xor (bit_xor x (xor4 c0 c1 c2 c3)) (xor4 d0 d1 d2 d3)) (xor4-xor4 a0 a1 a2 a3 b0 b1 b2 b3)
    ∙ ap (λ (x : ℕ). bit_xor x (xor4 d0 d1 d2 d3))
    (xor4-xor4 (bit_xor a0 b0) (bit_xor a1 b1) (bit_xor a2 b2) (bit_xor a3 b3) c0 c1 c2 c3)
    ∙ xor4-xor4 (bit_xor (bit_xor a0 b0) c0) (bit_xor (bit_xor a1 b1) c1) (bit_xor (bit_xor a2 b2) c2) (bit_xor (bit_xor a3 b3) c3) d0 d1 d2 d3

mul-xor4 : (k a b c d : ℕ) → mul k (xor4 a b c d) ≡ xor4 (mul k a) (mul k b) (mul k c) (mul k d)
mul-xor4 k a b c d =
    mul-xor k (bit_xor (bit_xor a b) c) d
    ∙ ap (λ (x : ℕ). bit_xor x (mul k d)) (mul-xor k (bit_xor a b) c
    ∙ ap (λ (x : ℕ). bit_xor x (mul k c)) (mul-xor k a b))

-- a row of the product with a sum is the sum of the rows of the products
pub word_product_row-xor : (a : List ℕ) (r b0 b1 b2 b3 k0 k1 k2 k3 : ℕ)
    → word_product_row a r (bit_xor b0 k0) (bit_xor b1 k1) (bit_xor b2 k2) (bit_xor b3 k3)
    ≡ bit_xor (word_product_row a r b0 b1 b2 b3) (word_product_row a r k0 k1 k2 k3)
word_product_row-xor a r b0 b1 b2 b3 k0 k1 k2 k3 =
    (λ i. xor4 (mul-xor (word_entry a r) b0 k0 i) (mul-xor (word_entry a (r + 3)) b1 k1 i)
    (mul-xor (word_entry a (r + 2)) b2 k2 i) (mul-xor (word_entry a (r + 1)) b3 k3 i))
    ∙ sym (xor4-xor4 (mul (word_entry a r) b0) (mul (word_entry a (r + 3)) b1)
    (mul (word_entry a (r + 2)) b2) (mul (word_entry a (r + 1)) b3)
    (mul (word_entry a r) k0) (mul (word_entry a (r + 3)) k1)
    (mul (word_entry a (r + 2)) k2) (mul (word_entry a (r + 1)) k3))

-- a row of the product with a product
rows_product : (o0 o1 o2 o3 a0 a1 a2 a3 b0 b1 b2 b3 c0 c1 c2 c3 d0 d1 d2 d3 : ℕ)
    → xor4 (mul o0 (xor4 a0 a1 a2 a3)) (mul o1 (xor4 b0 b1 b2 b3)) (mul o2 (xor4 c0 c1 c2 c3)) (mul o3 (xor4 d0 d1 d2 d3))
    ≡ xor4 (xor4 (mul o0 a0) (mul o1 b0) (mul o2 c0) (mul o3 d0)) (xor4 (mul o0 a1) (mul o1 b1) (mul o2 c1) (mul o3 d1))
    (xor4 (mul o0 a2) (mul o1 b2) (mul o2 c2) (mul o3 d2)) (xor4 (mul o0 a3) (mul o1 b3) (mul o2 c3) (mul o3 d3))
rows_product o0 o1 o2 o3 a0 a1 a2 a3 b0 b1 b2 b3 c0 c1 c2 c3 d0 d1 d2 d3 =
    (λ i. xor4 (mul-xor4 o0 a0 a1 a2 a3 i) (mul-xor4 o1 b0 b1 b2 b3 i) (mul-xor4 o2 c0 c1 c2 c3 i) (mul-xor4 o3 d0 d1 d2 d3 i))
    ∙ xor4_turned (mul o0 a0) (mul o0 a1) (mul o0 a2) (mul o0 a3) (mul o1 b0) (mul o1 b1) (mul o1 b2) (mul o1 b3)
    (mul o2 c0) (mul o2 c1) (mul o2 c2) (mul o2 c3) (mul o3 d0) (mul o3 d1) (mul o3 d2) (mul o3 d3)

-- row r of the product of o and the product of a and a column
abbrev pub twice_row : List ℕ → List ℕ → ℕ → ℕ → ℕ → ℕ → ℕ → ℕ
twice_row o a r b0 b1 b2 b3 =
    word_product_row o r (word_product_row a 0 b0 b1 b2 b3) (word_product_row a 1 b0 b1 b2 b3)
    (word_product_row a 2 b0 b1 b2 b3) (word_product_row a 3 b0 b1 b2 b3)

twice_row_through : (o a : List ℕ) (r b0 b1 b2 b3 : ℕ)
    → twice_row o a r b0 b1 b2 b3 ≡ xor4 (through o a r 0 b0) (through o a r 1 b1) (through o a r 2 b2) (through o a r 3 b3)
twice_row_through o a r b0 b1 b2 b3 =
    rows_product (word_entry o r) (word_entry o (r + 3)) (word_entry o (r + 2)) (word_entry o (r + 1))
    (mul (word_entry a 0) b0) (mul (word_entry a 3) b1) (mul (word_entry a 2) b2) (mul (word_entry a 1) b3)
    (mul (word_entry a 1) b0) (mul (word_entry a 0) b1) (mul (word_entry a 3) b2) (mul (word_entry a 2) b3)
    (mul (word_entry a 2) b0) (mul (word_entry a 1) b1) (mul (word_entry a 0) b2) (mul (word_entry a 3) b3)
    (mul (word_entry a 3) b0) (mul (word_entry a 2) b1) (mul (word_entry a 1) b2) (mul (word_entry a 0) b3)

only_0 : (x : ℕ) → xor4 x 0 0 0 ≡ x
only_0 x = simp xor_zero_r

only_1 : (x : ℕ) → xor4 0 x 0 0 ≡ x
only_1 x = simp xor_zero_r

only_2 : (x : ℕ) → xor4 0 0 x 0 ≡ x
only_2 x = simp xor_zero_r

only_3 : (x : ℕ) → xor4 0 0 0 x ≡ x
only_3 x = refl

pub undone_row_0 : (b0 b1 b2 b3 : ℕ) → b0 < 256 → b1 < 256 → b2 < 256 → b3 < 256 → twice_row inverse_mix_word mix_word 0 b0 b1 b2 b3 ≡ b0
undone_row_0 b0 b1 b2 b3 l0 l1 l2 l3 =
    twice_row_through inverse_mix_word mix_word 0 b0 b1 b2 b3
    ∙ (λ i. xor4 (same_below 256 (through inverse_mix_word mix_word 0 0) (λ x. x) undone_00 b0 l0 i) (same_below 256 (through inverse_mix_word mix_word 0 1) (λ x. 0) undone_01 b1 l1 i)
    (same_below 256 (through inverse_mix_word mix_word 0 2) (λ x. 0) undone_02 b2 l2 i) (same_below 256 (through inverse_mix_word mix_word 0 3) (λ x. 0) undone_03 b3 l3 i))
    ∙ only_0 b0

pub undone_row_1 : (b0 b1 b2 b3 : ℕ) → b0 < 256 → b1 < 256 → b2 < 256 → b3 < 256 → twice_row inverse_mix_word mix_word 1 b0 b1 b2 b3 ≡ b1
undone_row_1 b0 b1 b2 b3 l0 l1 l2 l3 =
    twice_row_through inverse_mix_word mix_word 1 b0 b1 b2 b3
    ∙ (λ i. xor4 (same_below 256 (through inverse_mix_word mix_word 1 0) (λ x. 0) undone_10 b0 l0 i) (same_below 256 (through inverse_mix_word mix_word 1 1) (λ x. x) undone_11 b1 l1 i)
    (same_below 256 (through inverse_mix_word mix_word 1 2) (λ x. 0) undone_12 b2 l2 i) (same_below 256 (through inverse_mix_word mix_word 1 3) (λ x. 0) undone_13 b3 l3 i))
    ∙ only_1 b1

pub undone_row_2 : (b0 b1 b2 b3 : ℕ) → b0 < 256 → b1 < 256 → b2 < 256 → b3 < 256 → twice_row inverse_mix_word mix_word 2 b0 b1 b2 b3 ≡ b2
undone_row_2 b0 b1 b2 b3 l0 l1 l2 l3 =
    twice_row_through inverse_mix_word mix_word 2 b0 b1 b2 b3
    ∙ (λ i. xor4 (same_below 256 (through inverse_mix_word mix_word 2 0) (λ x. 0) undone_20 b0 l0 i) (same_below 256 (through inverse_mix_word mix_word 2 1) (λ x. 0) undone_21 b1 l1 i)
    (same_below 256 (through inverse_mix_word mix_word 2 2) (λ x. x) undone_22 b2 l2 i) (same_below 256 (through inverse_mix_word mix_word 2 3) (λ x. 0) undone_23 b3 l3 i))
    ∙ only_2 b2

pub undone_row_3 : (b0 b1 b2 b3 : ℕ) → b0 < 256 → b1 < 256 → b2 < 256 → b3 < 256 → twice_row inverse_mix_word mix_word 3 b0 b1 b2 b3 ≡ b3
undone_row_3 b0 b1 b2 b3 l0 l1 l2 l3 =
    twice_row_through inverse_mix_word mix_word 3 b0 b1 b2 b3
    ∙ (λ i. xor4 (same_below 256 (through inverse_mix_word mix_word 3 0) (λ x. 0) undone_30 b0 l0 i) (same_below 256 (through inverse_mix_word mix_word 3 1) (λ x. 0) undone_31 b1 l1 i)
    (same_below 256 (through inverse_mix_word mix_word 3 2) (λ x. 0) undone_32 b2 l2 i) (same_below 256 (through inverse_mix_word mix_word 3 3) (λ x. x) undone_33 b3 l3 i))
    ∙ only_3 b3

pub redone_row_0 : (b0 b1 b2 b3 : ℕ) → b0 < 256 → b1 < 256 → b2 < 256 → b3 < 256 → twice_row mix_word inverse_mix_word 0 b0 b1 b2 b3 ≡ b0
redone_row_0 b0 b1 b2 b3 l0 l1 l2 l3 =
    twice_row_through mix_word inverse_mix_word 0 b0 b1 b2 b3
    ∙ (λ i. xor4 (same_below 256 (through mix_word inverse_mix_word 0 0) (λ x. x) redone_00 b0 l0 i) (same_below 256 (through mix_word inverse_mix_word 0 1) (λ x. 0) redone_01 b1 l1 i)
    (same_below 256 (through mix_word inverse_mix_word 0 2) (λ x. 0) redone_02 b2 l2 i) (same_below 256 (through mix_word inverse_mix_word 0 3) (λ x. 0) redone_03 b3 l3 i))
    ∙ only_0 b0

pub redone_row_1 : (b0 b1 b2 b3 : ℕ) → b0 < 256 → b1 < 256 → b2 < 256 → b3 < 256 → twice_row mix_word inverse_mix_word 1 b0 b1 b2 b3 ≡ b1
redone_row_1 b0 b1 b2 b3 l0 l1 l2 l3 =
    twice_row_through mix_word inverse_mix_word 1 b0 b1 b2 b3
    ∙ (λ i. xor4 (same_below 256 (through mix_word inverse_mix_word 1 0) (λ x. 0) redone_10 b0 l0 i) (same_below 256 (through mix_word inverse_mix_word 1 1) (λ x. x) redone_11 b1 l1 i)
    (same_below 256 (through mix_word inverse_mix_word 1 2) (λ x. 0) redone_12 b2 l2 i) (same_below 256 (through mix_word inverse_mix_word 1 3) (λ x. 0) redone_13 b3 l3 i))
    ∙ only_1 b1

pub redone_row_2 : (b0 b1 b2 b3 : ℕ) → b0 < 256 → b1 < 256 → b2 < 256 → b3 < 256 → twice_row mix_word inverse_mix_word 2 b0 b1 b2 b3 ≡ b2
redone_row_2 b0 b1 b2 b3 l0 l1 l2 l3 =
    twice_row_through mix_word inverse_mix_word 2 b0 b1 b2 b3
    ∙ (λ i. xor4 (same_below 256 (through mix_word inverse_mix_word 2 0) (λ x. 0) redone_20 b0 l0 i) (same_below 256 (through mix_word inverse_mix_word 2 1) (λ x. 0) redone_21 b1 l1 i)
    (same_below 256 (through mix_word inverse_mix_word 2 2) (λ x. x) redone_22 b2 l2 i) (same_below 256 (through mix_word inverse_mix_word 2 3) (λ x. 0) redone_23 b3 l3 i))
    ∙ only_2 b2

pub redone_row_3 : (b0 b1 b2 b3 : ℕ) → b0 < 256 → b1 < 256 → b2 < 256 → b3 < 256 → twice_row mix_word inverse_mix_word 3 b0 b1 b2 b3 ≡ b3
redone_row_3 b0 b1 b2 b3 l0 l1 l2 l3 =
    twice_row_through mix_word inverse_mix_word 3 b0 b1 b2 b3
    ∙ (λ i. xor4 (same_below 256 (through mix_word inverse_mix_word 3 0) (λ x. 0) redone_30 b0 l0 i) (same_below 256 (through mix_word inverse_mix_word 3 1) (λ x. 0) redone_31 b1 l1 i)
    (same_below 256 (through mix_word inverse_mix_word 3 2) (λ x. 0) redone_32 b2 l2 i) (same_below 256 (through mix_word inverse_mix_word 3 3) (λ x. x) redone_33 b3 l3 i))
    ∙ only_3 b3
