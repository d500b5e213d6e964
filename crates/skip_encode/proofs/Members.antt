-- Sets of numbers: the definitions of `acl_model` and `acl_bits` are the same, and so are the sets that the code
-- builds.
use Rattle.std.proofs.Common.{◌≡◌, ℕ, zero, suc, ◌<◌, ◌≤◌, ◌==◌, nat_eq, eqb, ◌||◌, Bool, true, false, cond, List, [], ◌∷◌, ◌++◌, length, length-append, map, refl, ap, sym, ◌∙◌, arith}
use Rattle.std.proofs.lemmas.List.{append_assoc}
use Rattle.std.proofs.lemmas.Bool.Decides.{nat_tests}
use Rattle.acl_model.specs.Stream.{has_member, numbers_with, set_bits}
use mir.Val.{bool_byte}
use Rattle.skip_encode.proofs.BitWords.{one_bit}
use Rattle.acl_bits.specs.FilledBits.{bits_of as string_of}
use Rattle.acl_bits.specs.Row.{row_of, is_member}
use Rattle.acl_bits.specs.inside.RowLaws.{numbers_below, row_of-same, row_of-numbers_below, is_member-row_of}

-- The set of the numbers that pass a test is the same by both definitions.
pub numbers_with-row_of : (test : ℕ → Bool) → numbers_with test ≡ row_of test
unfolding numbers_with row_of
numbers_with-row_of test = refl

-- Membership is the same by both definitions.
pub has_member-is_member : (members : List ℕ) (n : ℕ) → has_member members n ≡ is_member members n
unfolding is_member
has_member-is_member members n = refl

-- Two tests that agree below 256 give the same set.
pub numbers_with-same : (test other : ℕ → Bool) → ((k : ℕ) → k < 256 → test k ≡ other k) → numbers_with test ≡ numbers_with other
numbers_with-same test other alike = numbers_with-row_of test ∙ row_of-same test other alike ∙ sym (numbers_with-row_of other)

-- At most n numbers are below n.
pub length-numbers_below : (test : ℕ → Bool) (n : ℕ) → length (numbers_below test n) ≤ n
unfolding numbers_below
length-numbers_below test zero = omega arith
length-numbers_below test (suc n) =
    let before = length-numbers_below test n in
    let one : (b : Bool) → length (cond b (n ∷ []) []) ≤ 1 = λ b. elim b as (λ v. length (cond v (n ∷ []) []) ≤ 1) [ true ↦ omega arith | false ↦ omega arith ] in
    let both = length-append (numbers_below test n) (cond (test n) (n ∷ []) []) in
    omega (arith, one (test n))

-- The set of the numbers that pass a test has at most 256 numbers.
pub length-numbers_with : (test : ℕ → Bool) → length (numbers_with test) ≤ 256
length-numbers_with test =
    let is : numbers_with test ≡ numbers_below test 256 = numbers_with-row_of test ∙ row_of-numbers_below test in
    let few = length-numbers_below test 256 in
    omega (arith, ap length is)

-- A set that equals the set of its members below 256 has at most 256 numbers.
pub length-whole : (members : List ℕ) → row_of (is_member members) ≡ members → length members ≤ 256
length-whole members whole =
    let few = length-numbers_with (is_member members) in
    omega (arith, ap length (numbers_with-row_of (is_member members) ∙ whole))

-- A number is the tag, or in the tag set, or a member already: the order of these tests doesn't matter.
joined : (tag k : ℕ) (old below : Bool) → ((eqb k tag || old) || below) ≡ ((eqb tag k || below) || old)
joined tag k true true = grind (arith, nat_tests)
joined tag k true false = grind (arith, nat_tests)
joined tag k false true = grind (arith, nat_tests)
joined tag k false false = grind (arith, nat_tests)

-- Adding an element's tag and tag set gives the members with this element counted.
pub members-element : (tag : ℕ) (below old : List ℕ)
    → row_of (λ m. is_member (row_of (λ k. k == tag || is_member old k)) m || is_member below m)
    ≡ numbers_with (λ n. (nat_eq tag n || has_member below n) || has_member old n)
members-element tag below old =
    row_of-same (λ m. is_member (row_of (λ k. k == tag || is_member old k)) m || is_member below m) (λ n. (nat_eq tag n || has_member below n) || has_member old n)
    (λ k small.
    ap (λ b. b || is_member below k) (is_member-row_of (λ j. j == tag || is_member old j) k small)
    ∙ joined tag k (is_member old k) (is_member below k)
    ∙ ap (λ b. (eqb tag k || b) || is_member old k) (sym (has_member-is_member below k))
    ∙ ap (λ b. (eqb tag k || has_member below k) || b) (sym (has_member-is_member old k)))
    ∙ sym (numbers_with-row_of (λ n. (nat_eq tag n || has_member below n) || has_member old n))

-- ---- the bits of a set

-- The bits of a set that isn't empty are 1 and a bit for each member.
pub set_bits-some : (members below : List ℕ) → 1 ≤ length below → set_bits members below ≡ true ∷ map (has_member below) members
set_bits-some members [] some = absurd (omega arith)
set_bits-some members (n ∷ below) some = refl

-- The bits of the empty set are 0.
pub set_bits-none : (members below : List ℕ) → length below ≡ 0 → set_bits members below ≡ false ∷ []
set_bits-none members [] none = refl
set_bits-none members (n ∷ below) none = absurd (omega arith)

-- After the bit of the next member is appended, the bits of the members after it are left.
pub set_bits-put : (bits new all : List Bool) (left rest below : List ℕ) (n value : ℕ) (bit : Bool)
    → new ≡ bits ++ string_of 1 value → value ≡ bool_byte bit → bit ≡ is_member below n → left ≡ n ∷ rest
    → bits ++ map (has_member below) left ≡ all → new ++ map (has_member below) rest ≡ all
set_bits-put bits new all left rest below n value bit grown byte is next before =
    ap (λ l. l ++ map (has_member below) rest)
    (grown ∙ ap (λ v. bits ++ string_of 1 v) byte ∙ ap (λ l. bits ++ l) (one_bit bit) ∙ ap (λ b. bits ++ (b ∷ [])) (is ∙ sym (has_member-is_member below n)))
    ∙ append_assoc bits (has_member below n ∷ []) (map (has_member below) rest)
    ∙ ap (λ l. bits ++ map (has_member below) l) (sym next)
    ∙ before
