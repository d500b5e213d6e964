-- Multiplication in the field distributes over addition, and `field_inverse` of a byte is its inverse.
use Rattle.std.proofs.Common.{◌≡◌, ℕ, zero, suc, ◌+◌, ◌*◌, ◌/◌, ◌%◌, ◌^◌, ◌<◌, true, refl, sym, ap, ◌∙◌, subst, arith, bit_xor, eqb}
use Rattle.std.proofs.lemmas.Nat.{xor_mod, xor_shr}
use lib.Bits.{xor_assoc, xor_comm, xor_self, xor_zero_r}
use Rattle.aes_block.specs.Field.{coefficient, modulus, product, remainder, mul, squares_product, field_inverse}
use Rattle.aes_block.proofs.Bytes.{passes_below, same_below}

-- (a + b) + (c + d) is (a + c) + (b + d)
pub xor_swap : (a b c d : ℕ) → bit_xor (bit_xor a b) (bit_xor c d) ≡ bit_xor (bit_xor a c) (bit_xor b d)
xor_swap a b c d =
    xor_assoc a b (bit_xor c d)
    ∙ ap (bit_xor a) (sym (xor_assoc b c d) ∙ ap (λ (x : ℕ). bit_xor x d) (xor_comm b c) ∙ xor_assoc c b d)
    ∙ sym (xor_assoc a c (bit_xor b d))

pub coefficient-xor : (p q i : ℕ) → coefficient (bit_xor p q) i ≡ bit_xor (coefficient p i) (coefficient q i)
coefficient-xor p q i = ap (λ (x : ℕ). x % 2) (xor_shr p q i) ∙ xor_mod (p / 2 ^ i) (q / 2 ^ i) 1

-- a number times a sum of two bits
times_bits : (c a b : ℕ) → a < 2 → b < 2 → c * bit_xor a b ≡ bit_xor (c * a) (c * b)
times_bits c zero b la lb = let z : c * 0 ≡ 0 = omega arith in rw z refl
times_bits c (suc zero) zero la lb = let z : c * 0 ≡ 0 = omega arith in rw z (sym (xor_zero_r (c * 1)))
times_bits c (suc zero) (suc zero) la lb = let z : c * 0 ≡ 0 = omega arith in z ∙ sym (xor_self (c * 1))
times_bits c (suc zero) (suc (suc n)) la lb = absurd (omega arith)
times_bits c (suc (suc n)) b la lb = absurd (omega arith)

bit_lt : (p i : ℕ) → coefficient p i < 2
bit_lt p i = omega arith

times_coefficient : (c p q i : ℕ) → c * coefficient (bit_xor p q) i ≡ bit_xor (c * coefficient p i) (c * coefficient q i)
times_coefficient c p q i =
    ap (λ (x : ℕ). c * x) (coefficient-xor p q i)
    ∙ times_bits c (coefficient p i) (coefficient q i) (bit_lt p i) (bit_lt q i)

product-xor : (a p q n : ℕ) → product a (bit_xor p q) n ≡ bit_xor (product a p n) (product a q n)
unfolding product
product-xor a p q zero = refl
product-xor a p q (suc n) =
    (λ i. bit_xor (times_coefficient (a * 2 ^ n) p q n i) (product-xor a p q n i))
    ∙ xor_swap (a * 2 ^ n * coefficient p n) (a * 2 ^ n * coefficient q n) (product a p n) (product a q n)

-- one step of polynomial division
abbrev reduced : ℕ → ℕ → ℕ
reduced n p = bit_xor p (modulus * 2 ^ n * coefficient p (8 + n))

reduced-xor : (n p q : ℕ) → reduced n (bit_xor p q) ≡ bit_xor (reduced n p) (reduced n q)
reduced-xor n p q =
    ap (bit_xor (bit_xor p q)) (times_coefficient (modulus * 2 ^ n) p q (8 + n))
    ∙ xor_swap p q (modulus * 2 ^ n * coefficient p (8 + n)) (modulus * 2 ^ n * coefficient q (8 + n))

remainder-xor : (n p q : ℕ) → remainder n (bit_xor p q) ≡ bit_xor (remainder n p) (remainder n q)
unfolding remainder
remainder-xor zero p q = refl
remainder-xor (suc n) p q = ap (remainder n) (reduced-xor n p q) ∙ remainder-xor n (reduced n p) (reduced n q)

-- the product with a sum is the sum of the products
pub mul-xor : (a p q : ℕ) → mul a (bit_xor p q) ≡ bit_xor (mul a p) (mul a q)
unfolding mul
mul-xor a p q = ap (remainder 7) (product-xor a p q 8) ∙ remainder-xor 7 (product a p 8) (product a q 8)

-- a byte other than 0 times its `field_inverse` is 1
mul_inverse_test : passes_below 255 (λ x. eqb (mul (x + 1) (field_inverse (x + 1))) 1) ≡ true
unfolding mul product remainder squares_product field_inverse
mul_inverse_test = refl

pub mul_inverse : (x : ℕ) → 0 < x → x < 256 → mul x (field_inverse x) ≡ 1
mul_inverse zero pos lt = absurd (omega arith)
mul_inverse (suc n) pos lt =
    let e : suc n ≡ n + 1 = omega arith in
    subst (λ (x : ℕ). mul x (field_inverse x) ≡ 1) (sym e)
    (same_below 255 (λ x. mul (x + 1) (field_inverse (x + 1))) (λ _. 1) mul_inverse_test n (omega arith))

pub inverse_of_zero : field_inverse 0 ≡ 0
unfolding mul product remainder squares_product field_inverse
inverse_of_zero = refl
