-- The bits after a head, and how many members a tag set has.
use Rattle.std.proofs.Common.{◌≡◌, ℕ, zero, suc, ◌+◌, ◌*◌, ◌/◌, ◌<◌, ◌≤◌, Bool, true, false, cond, ◌||◌, nat_eq, List, [], ◌∷◌, length, take, drop, refl, ap, sym, ◌∙◌, arith}
use Rattle.std.proofs.lemmas.Bool.Decides.{nat_tests}
use Rattle.acl_bits.specs.FilledBits.{number_of, number_after}
use Rattle.acl_bits.specs.Row.{row_of, is_member}
use Rattle.acl_bits.specs.inside.RowLaws.{row_of-same, is_member-row_of, row_of-numbers_below, numbers_below}
use Rattle.acl_bits.proofs.Members.{length-numbers_below}
use Rattle.skip_decode.specs.declared.head.Head.{Head}
use Rattle.skip_decode.specs.StreamSteps.{met_with}
use Rattle.skip_decode.specs.inside.HeadReading.{head_bytes}

-- Bits after a number don't make it less.
pub number_after-least : (high : ℕ) (bits : List Bool) → high ≤ number_after high bits
unfolding number_after
number_after-least high [] = omega arith
number_after-least high (true ∷ bits) = let more = number_after-least (2 * high + 1) bits in omega (arith, more)
number_after-least high (false ∷ bits) = let more = number_after-least (2 * high + 0) bits in omega (arith, more)

-- Where the first bit is zero, all bits are exactly where those after it are.
pub zeros-on : (bits : List Bool) → 1 ≤ length bits → number_of (take 1 bits) ≡ 0
    → nat_eq (number_of (drop 1 bits)) 0 ≡ nat_eq (number_of bits) 0
unfolding number_after
zeros-on [] some first = absurd (omega (arith, some))
zeros-on (true ∷ bits) some first = absurd (omega (arith, first))
zeros-on (false ∷ bits) some first = refl

-- Where the first bit is one, not all bits are zero.
pub zeros-not : (bits : List Bool) → 1 ≤ length bits → (number_of (take 1 bits) ≡ 0 → ⊥) → nat_eq (number_of bits) 0 ≡ false
unfolding number_after
zeros-not [] some first = absurd (omega (arith, some))
zeros-not (true ∷ bits) some first = let more = number_after-least 1 bits in grind (arith, nat_tests, more)
zeros-not (false ∷ bits) some first = absurd (first refl)

-- No bits are all zero.
pub zeros-end : (bits : List Bool) → length bits < 1 → nat_eq (number_of bits) 0 ≡ true
unfolding number_after
zeros-end [] none = refl
zeros-end (bit ∷ bits) none = absurd (omega (arith, none))

pub ruleset zeros = (zeros-on, zeros-not, zeros-end)

-- The numbers met, with those of a set, and with one more.
pub met-more : (met : List ℕ) (head : Head)
    → row_of (λ n. nat_eq n head.tag || is_member (row_of (λ m. is_member met m || is_member head.below m)) n) ≡ met_with met head
met-more met head = row_of-same
    (λ n. nat_eq n head.tag || is_member (row_of (λ m. is_member met m || is_member head.below m)) n)
    (λ n. nat_eq n head.tag || (is_member met n || is_member head.below n))
    (λ k small. ap (λ b. nat_eq k head.tag || b) (is_member-row_of (λ m. is_member met m || is_member head.below m) k small))

-- The numbers met, with those of a set, where the number of the name is in no set.
pub met-same : (met : List ℕ) (head : Head) → 256 ≤ head.tag
    → row_of (λ m. is_member met m || is_member head.below m) ≡ met_with met head
met-same met head large = row_of-same
    (λ m. is_member met m || is_member head.below m)
    (λ n. nat_eq n head.tag || (is_member met n || is_member head.below n))
    (λ k small.
    let other : nat_eq k head.tag ≡ false = grind (arith, nat_tests) in
    sym (ap (λ b. b || (is_member met k || is_member head.below k)) other))

-- ---- how many members a set has

few_below : (p : ℕ → Bool) (n : ℕ) → length (numbers_below p n) ≤ n
unfolding numbers_below
few_below p zero = omega arith
few_below p (suc n) =
    let more = length-numbers_below p n in
    let rest = few_below p n in
    let one : cond (p n) 1 0 ≤ 1 = elim (p n) as (λ b. cond b 1 0 ≤ 1) [ true ↦ omega arith | false ↦ omega arith ] in
    omega (arith, more, rest, one)

-- A set has at most 256 members.
pub few_members : (members : List ℕ) → row_of (is_member members) ≡ members → length members ≤ 256
few_members members whole =
    let same = ap (λ (l : List ℕ). length l) (sym whole ∙ row_of-numbers_below (is_member members)) in
    let few = few_below (is_member members) 256 in
    omega (arith, same, few)

-- A head has at most 48 bytes.
pub few_head_bytes : (members number inner w : ℕ) → members ≤ 256 → number ≤ 32 → w ≤ 32 → head_bytes members number inner w ≤ 48
few_head_bytes members number inner w few narrow wide =
    elim (nat_eq inner 1) as (λ b. (2 + number + cond b members 0 + w + 7) / 8 ≤ 48) [ true ↦ omega arith | false ↦ omega arith ]
