-- A row is a set of numbers from 0 to 255, given as the list of its members in rising order. Defined by this project.
use Rattle.std.specs.Prelude.{◌≡◌, ℕ, zero, suc, ◌+◌, ◌*◌, ◌/◌, ◌%◌, ◌^◌, ◌<◌, Bool, true, false, ◌==◌, if◌then◌else◌, List, [], ◌∷◌, length, filter, All, slice_index}
use Rattle.std.specs.List.{range_with_len, list_any}
use Rattle.std.specs.List.Sorted.{IsStrictlyIncreasing}
use Rattle.std.specs.Int.{bit_at}

-- the set of the numbers from 0 to 255 that pass the test
unfoldable pub row_of : (ℕ → Bool) → List ℕ
row_of test = filter test (range_with_len 0 256)

-- whether the number is one of the members
unfoldable pub is_member : List ℕ → ℕ → Bool
is_member members n = list_any (λ m. m == n) members

-- The list is a set: its members strictly increase, and each is below 256.
pub record IsRow (members : List ℕ) : Type 0 where
  pub rising : IsStrictlyIncreasing members
  pub small : All (λ m. m < 256) members

-- ---- the four machine words that hold a set

-- whether the words contain the number: bit n % 64 of word n / 64 is 1
unfoldable pub is_set : List ℕ → ℕ → Bool
is_set words n = bit_at (slice_index words (n / 64)) (n % 64) == 1

-- n is the least number that the words contain.
pub record IsFirst (words : List ℕ) (n : ℕ) : Type 0 where
  pub within : n < 256
  pub has : is_set words n ≡ true
  pub none : (k : ℕ) → k < n → is_set words k ≡ false

-- the set of the numbers that the words contain
abbrev pub members_of : List ℕ → List ℕ
members_of words = row_of (is_set words)

-- There are four words, each of 64 bits.
pub record AreWords (words : List ℕ) : Type 0 where
  pub four : length words ≡ 4
  pub fit : (k : ℕ) → slice_index words k < 2 ^ 64

-- the number below 2 ^ n whose bit i is 1 exactly where i passes the test
unfoldable pub number_with : (ℕ → Bool) → ℕ → ℕ
number_with test zero = 0
number_with test (suc n) = number_with test n + (if test n then 2 ^ n else 0)

-- word k: bit i is 1 exactly where 64 * k + i is a member
abbrev pub word_of : List ℕ → ℕ → ℕ
word_of members k = number_with (λ i. is_member members (64 * k + i)) 64

-- the four words that contain exactly the members below 256
unfoldable pub words_of : List ℕ → List ℕ
words_of members =
    word_of members 0 ∷ word_of members 1 ∷ word_of members 2 ∷ word_of members 3 ∷ []
