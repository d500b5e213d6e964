-- Lists of flags, and the machine words that hold them, 64 flags to a word. Defined by this project.
use Rattle.std.specs.Prelude.{◌≡◌, ℕ, zero, suc, ◌+◌, ◌*◌, ◌/◌, ◌<◌, ◌≤◌, Bool, false, ◌&&◌, ◌||◌, List, [], ◌∷◌, length, map}
use Rattle.std.specs.List.{range_with_len}
use Rattle.acl_bits.specs.Row.{is_set}

-- The flags of an element (`own`), updated from those of a child (`below`). Flag n is set in three cases: it was set;
-- test n passes, and flag n - 1 of the child is set; or flag n is deep, and set for the child. For the first flag,
-- `before` is used in place of flag n - 1 of the child. The result is as long as the shortest of the four lists.
unfoldable pub risen : Bool → List Bool → List Bool → List Bool → List Bool → List Bool
risen before [] deep below own = []
risen before (t ∷ tests) [] below own = []
risen before (t ∷ tests) (d ∷ deep) [] own = []
risen before (t ∷ tests) (d ∷ deep) (b ∷ below) [] = []
risen before (t ∷ tests) (d ∷ deep) (b ∷ below) (o ∷ own) =
    (o || ((t && before) || (d && b))) ∷ risen b tests deep below own

-- ---- the words that hold a list

-- the first `len` flags of the words: flag n is bit n % 64 of word n / 64
abbrev pub flags_of : List ℕ → ℕ → List Bool
flags_of words len = map (is_set words) (range_with_len 0 len)

-- The words hold `len` flags: there are exactly as many words as these need, and no bit after the last flag is set.
pub record HoldFlags (words : List ℕ) (len : ℕ) : Type 0 where
  pub exact : length words ≡ (len + 63) / 64
  pub clear : (n : ℕ) → len ≤ n → is_set words n ≡ false

-- whether `risen` sets a flag: it was set, or its test passes and the flag before it is set for the child, or it is
-- deep and set for the child
abbrev pub rises : Bool → Bool → Bool → Bool → Bool → Bool
rises own test before deep below = own || ((test && before) || (deep && below))

-- the flag with the index n - 1, or `first` where n is 0
abbrev pub flag_before : (ℕ → Bool) → Bool → ℕ → Bool
flag_before flag first zero = first
flag_before flag first (suc n) = flag n

-- There are as many new words as old ones, and each flag of the new words is the one that `rises` gives.
pub record AreRisen (old new tests deep below : List ℕ) : Type 0 where
  pub long : length new ≡ length old
  pub flags : (n : ℕ) → n < 64 * length old
      → is_set new n
      ≡ rises (is_set old n) (is_set tests n) (flag_before (is_set below) false n) (is_set deep n)
      (is_set below n)
