-- The field GF(2^8) of FIPS 197 (2001, updated 2023), section 4. Each number is a polynomial over the field of two
-- elements: bit i of the number is the coefficient of x^i (3.2). The sum of two polynomials is their `bit_xor` (4.1).
use Rattle.std.specs.Prelude.{ℕ, zero, suc, ◌+◌, ◌*◌, ◌/◌, ◌%◌, ◌^◌, bit_xor}

-- the coefficient of x^i in a polynomial: bit i of the number (3.2)
abbrev pub coefficient : ℕ → ℕ → ℕ
coefficient p i = p / 2 ^ i % 2

-- the product of two polynomials, the second of degree less than n (4.2)
unfoldable pub product : ℕ → ℕ → ℕ → ℕ
product a b zero = 0
product a b (suc n) = bit_xor (a * 2 ^ n * coefficient b n) (product a b n)

-- the modulus m(x) = x^8 + x^4 + x^3 + x + 1 (4.2)
abbrev pub modulus : ℕ
modulus = 0x11b

-- the remainder modulo m(x) of a polynomial of degree less than n + 8: for each term above x^7, the highest first, m(x)
-- times a power of x is subtracted (4.2)
unfoldable pub remainder : ℕ → ℕ → ℕ
remainder zero p = p
remainder (suc n) p = remainder n (bit_xor p (modulus * 2 ^ n * coefficient p (8 + n)))

-- the product of two bytes in the field (4.2)
unfoldable pub mul : ℕ → ℕ → ℕ
mul a b = remainder 7 (product a b 8)

-- the product of b^2, b^4 and so on: n factors, each the square of the one before it. Defined by this project.
unfoldable pub squares_product : ℕ → ℕ → ℕ
squares_product b zero = 1
squares_product b (suc n) = mul (mul b b) (squares_product (mul b b) n)

-- the inverse of a byte other than 0, and 0 for 0: the power b^254, which is the product of b^2,
-- b^4 and so on to b^128 (4.4)
unfoldable pub field_inverse : ℕ → ℕ
field_inverse b = squares_product b 7

-- the power x^n in the field, which gives the round constants (4.2, 5.2)
unfoldable pub power_of_x : ℕ → ℕ
power_of_x zero = 1
power_of_x (suc n) = mul 2 (power_of_x n)
