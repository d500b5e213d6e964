-- Widths: how many bits the lengths within a parent take. Defined by this project (VLDB 2004: the Skip index encodes
-- sizes relative to the parent).
use Rattle.std.specs.Prelude.{ℕ, zero, suc, ◌+◌, ◌^◌, ◌<◌, ◌≤◌, Bool, nat_lt, if◌then◌else◌}

-- the first number that passes the test, among a given count of numbers from `from` on; where none passes, the number
-- after them
unfoldable pub first_from : (ℕ → Bool) → ℕ → ℕ → ℕ
first_from test zero from = from
first_from test (suc more) from = if test from then from else first_from test more (from + 1)

-- the least width w such that the size, which depends on w, is below 2^w; and 32 where no lower width fits
unfoldable pub least_width : (ℕ → ℕ) → ℕ
least_width size = first_from (λ w. nat_lt (size w) (2 ^ w)) 32 0

-- the number of binary digits of n, and 0 for 0; at most 32
abbrev pub binary_length : ℕ → ℕ
binary_length n = least_width (λ w. n)

-- w is the least width for a size: the size is below 2^w, and no lower width has this property.
pub record IsLeastWidth (size : ℕ → ℕ) (w : ℕ) : Type 0 where
  pub fits : size w < 2 ^ w
  pub least : (v : ℕ) → v < w → 2 ^ v ≤ size v
