-- The steps of two loops: the search for a width, and reading the members of a set.
use Rattle.std.proofs.Common.{◌≡◌, ℕ, suc, ◌+◌, ◌-◌, ◌^◌, ◌<◌, ◌≤◌, Bool, true, false, cond, nat_lt, nat_eq, None, Some, List, [], ◌∷◌, ◌||◌, ◌≢◌, refl, ap, sym, ◌∙◌, arith}
use Rattle.std.specs.Option.{option_and_then}
use Rattle.std.proofs.lemmas.Bool.Decides.{nat_tests}
use Rattle.acl_bits.specs.Row.{row_of, is_member}
use Rattle.acl_model.specs.Width.{first_from, least_width, binary_length}
use Rattle.skip_decode.specs.inside.HeadReading.{take_bits, with_number, take_members}

-- ---- widths

pub search-start : (n : ℕ) → first_from (λ w. nat_lt n (2 ^ w)) 32 0 ≡ binary_length n
unfolding least_width
search-start n = refl

-- Where a width is enough, the search ends with it.
pub search-here : (n w : ℕ) → w < 32 → n < 2 ^ w → first_from (λ v. nat_lt n (2 ^ v)) (32 - w) w ≡ w
unfolding first_from
search-here n w within fits =
    let more : 32 - w ≡ suc (31 - w) = omega arith in
    let test : nat_lt n (2 ^ w) ≡ true = grind (arith, nat_tests) in
    ap (λ k. first_from (λ v. nat_lt n (2 ^ v)) k w) more
    ∙ ap (λ b. cond b w (first_from (λ v. nat_lt n (2 ^ v)) (31 - w) (w + 1))) test

-- Where a width isn't enough, the search continues with the next.
pub search-on : (n w : ℕ) → w < 32 → 2 ^ w ≤ n → first_from (λ v. nat_lt n (2 ^ v)) (32 - w) w ≡ first_from (λ v. nat_lt n (2 ^ v)) (32 - (w + 1)) (w + 1)
unfolding first_from
search-on n w within above =
    let more : 32 - w ≡ suc (31 - w) = omega arith in
    let less : 31 - w ≡ 32 - (w + 1) = omega arith in
    let test : nat_lt n (2 ^ w) ≡ false = grind (arith, nat_tests) in
    ap (λ k. first_from (λ v. nat_lt n (2 ^ v)) k w) more
    ∙ ap (λ b. cond b w (first_from (λ v. nat_lt n (2 ^ v)) (31 - w) (w + 1))) test
    ∙ ap (λ k. first_from (λ v. nat_lt n (2 ^ v)) k (w + 1)) less

-- The search ends at 32.
pub search-end : (n w : ℕ) → 32 ≤ w → first_from (λ v. nat_lt n (2 ^ v)) (32 - w) w ≡ w
unfolding first_from
search-end n w past =
    let none : 32 - w ≡ 0 = omega arith in
    ap (λ k. first_from (λ v. nat_lt n (2 ^ v)) k w) none

-- ---- members

-- After the bit of the next member is read, the members after it are left.
pub members-next : (left rest below : List ℕ) (bits after : List Bool) (m value : ℕ) → left ≡ m ∷ rest → take_bits 1 bits ≡ Some (value, after)
    → take_members left below bits ≡ take_members rest (cond (nat_eq value 1) (with_number below m) below) after
unfolding take_members
members-next left rest below bits after m value is bit =
    ap (λ l. take_members l below bits) is
    ∙ ap (option_and_then (λ b. take_members rest (cond (nat_eq b.0 1) (with_number below m) below) b.1)) bit

-- Where no bit is left for a member, the read fails.
pub members-short : (left rest below : List ℕ) (bits : List Bool) (m : ℕ) → left ≡ m ∷ rest → take_bits 1 bits ≡ None → take_members left below bits ≡ None
unfolding take_members
members-short left rest below bits m is bit =
    ap (λ l. take_members l below bits) is
    ∙ ap (option_and_then (λ b. take_members rest (cond (nat_eq b.0 1) (with_number below m) below) b.1)) bit

-- Where the bit is 1, the member is added.
pub members-one : (left rest below new : List ℕ) (bits after : List Bool) (m value : ℕ) → left ≡ m ∷ rest → take_bits 1 bits ≡ Some (value, after)
    → value ≡ 1 → new ≡ with_number below m → take_members rest new after ≡ take_members left below bits
members-one left rest below new bits after m value is bit one joins =
    let test : nat_eq value 1 ≡ true = grind (arith, nat_tests) in
    ap (λ l. take_members rest l after) (joins ∙ sym (ap (λ b. cond b (with_number below m) below) test))
    ∙ sym (members-next left rest below bits after m value is bit)

-- Where the bit is not 1, the set stays the same.
pub members-other : (left rest below new : List ℕ) (bits after : List Bool) (m value : ℕ) → left ≡ m ∷ rest → take_bits 1 bits ≡ Some (value, after)
    → value ≢ 1 → new ≡ below → take_members rest new after ≡ take_members left below bits
members-other left rest below new bits after m value is bit other stays =
    let test : nat_eq value 1 ≡ false = grind (arith, nat_tests) in
    ap (λ l. take_members rest l after) (stays ∙ sym (ap (λ b. cond b (with_number below m) below) test))
    ∙ sym (members-next left rest below bits after m value is bit)

-- Where no members are left, the set is complete.
pub members-end : (left below : List ℕ) (bits : List Bool) → left ≡ [] → take_members left below bits ≡ Some (below, bits)
unfolding take_members
members-end left below bits none = ap (λ l. take_members l below bits) none

pub with_number-is : (numbers : List ℕ) (n : ℕ) → with_number numbers n ≡ row_of (λ m. nat_eq m n || is_member numbers m)
unfolding with_number
with_number-is numbers n = refl
