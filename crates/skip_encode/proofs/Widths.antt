-- Lemmas on least widths and numbers of binary digits.
use Rattle.std.proofs.Common.{◌≡◌, ℕ, zero, suc, ◌+◌, ◌*◌, ◌^◌, ◌<◌, ◌≤◌, nat_lt, cond, Bool, true, false, ap, ◌∙◌, refl, ⊎_elim, arith}
use Rattle.std.proofs.lemmas.Bool.{cases_Bool}
use Rattle.std.proofs.lemmas.Bool.Decides.{nat_tests}
use Rattle.std.proofs.Math.Pow.{pow_mono}
use Rattle.std.proofs.lemmas.Grind.{pow_more}
use Rattle.acl_model.specs.Width.{first_from, least_width, binary_length}
use Rattle.acl_model.proofs.WidthLaws.{least_width-least, least_width-one}

-- A width up to 32 that fits, where no smaller one does, is the least width.
pub least_width-is : (size : ℕ → ℕ) (w : ℕ) → w ≤ 32 → size w < 2 ^ w → ((v : ℕ) → v < w → 2 ^ v ≤ size v) → w ≡ least_width size
least_width-is size w within fits least =
    least_width-one size w (least_width size) (record { fits = fits; least = least }) (least_width-least size w within fits)

-- 0 has no digits.
pub binary_length-zero : (n : ℕ) → n ≡ 0 → 0 ≡ binary_length n
binary_length-zero n none = least_width-is (λ w. n) 0 (omega arith) (omega arith) (λ v below. omega arith)

-- A number from a power of two up to the next has one digit more than the exponent.
pub binary_length-between : (n k : ℕ) → k < 32 → 2 ^ k ≤ n → n < 2 * 2 ^ k → k + 1 ≡ binary_length n
binary_length-between n k within low high =
    let next : 2 ^ (k + 1) ≡ 2 ^ k * 2 = pow_more 2 k in
    least_width-is (λ w. n) (k + 1) (omega arith) (omega arith)
    (λ v below. let less : 2 ^ v ≤ 2 ^ k = pow_mono (omega arith) in omega arith)

-- A power of two whose exponent is below the number of digits is at most the number.
pub binary_length-above : (n v : ℕ) → n < 2 ^ 32 → v < binary_length n → 2 ^ v ≤ n
binary_length-above n v small below = (least_width-least (λ w. n) 32 (omega arith) small).least v below

-- A number is less than two to the power of its number of digits.
pub binary_length-fits : (n : ℕ) → n < 2 ^ 32 → n < 2 ^ binary_length n
binary_length-fits n small = (least_width-least (λ w. n) 32 (omega arith) small).fits

-- A number below 2^k has at most k digits.
pub binary_length-few : (n k : ℕ) → k ≤ 32 → n < 2 ^ k → binary_length n ≤ k
binary_length-few n k within small = ⊎_elim
    (λ more. let top : 2 ^ k ≤ 2 ^ 32 = pow_mono within in let low = binary_length-above n k (omega arith) (grind (arith, nat_tests)) in absurd (omega arith))
    (λ few. grind (arith, nat_tests))
    (cases_Bool (nat_lt k (binary_length n)))

-- Equal sizes have equal searches.
first_from-same : (size other : ℕ → ℕ) → ((w : ℕ) → size w ≡ other w) → (more from : ℕ)
    → first_from (λ w. nat_lt (size w) (2 ^ w)) more from ≡ first_from (λ w. nat_lt (other w) (2 ^ w)) more from
unfolding first_from
first_from-same size other alike zero from = refl
first_from-same size other alike (suc more) from =
    ap (λ n. cond (nat_lt n (2 ^ from)) from (first_from (λ w. nat_lt (size w) (2 ^ w)) more (from + 1))) (alike from)
    ∙ ap (λ n. cond (nat_lt (other from) (2 ^ from)) from n) (first_from-same size other alike more (from + 1))

-- Equal sizes have equal least widths.
pub least_width-same : (size other : ℕ → ℕ) → ((w : ℕ) → size w ≡ other w) → least_width size ≡ least_width other
unfolding least_width
least_width-same size other alike = first_from-same size other alike 32 0

-- A search that ends before its limit found a number that passes.
pub first_from-early : (test : ℕ → Bool) (more from : ℕ) → first_from test more from < from + more → test (first_from test more from) ≡ true
unfolding first_from
first_from-early test zero from early = absurd (omega arith)
first_from-early test (suc more) from early = elim_test (test from) from (first_from test more (from + 1)) refl early (λ later. first_from-early test more (from + 1) (omega (arith, later)))
  where
    elim_test : (b : Bool) (here there : ℕ) → test here ≡ b → cond b here there < from + suc more → (there < from + suc more → test there ≡ true) → test (cond b here there) ≡ true
    elim_test true here there is within after = is
    elim_test false here there is within after = after within

-- A search doesn't go past its limit.
pub first_from-most : (test : ℕ → Bool) (more from : ℕ) → first_from test more from ≤ from + more
unfolding first_from
first_from-most test zero from = omega arith
first_from-most test (suc more) from =
    let rest = first_from-most test more (from + 1) in
    elim (test from) as (λ b. cond b from (first_from test more (from + 1)) ≤ from + suc more) [ true ↦ omega arith | false ↦ omega arith ]

-- A least width is at most 32.
pub least_width-most : (size : ℕ → ℕ) → least_width size ≤ 32
unfolding least_width
least_width-most size = first_from-most (λ w. nat_lt (size w) (2 ^ w)) 32 0
