-- The bits of a head are read as that head.
use Rattle.std.proofs.Common.{◌≡◌, ℕ, zero, suc, ◌+◌, ◌-◌, ◌/◌, ◌^◌, ◌<◌, ◌≤◌, Bool, true, false, cond, ◌&&◌, ◌||◌, nat_lt, nat_eq, Option, None, Some, List, [], ◌∷◌, ◌++◌, length, map, count_by, refl, ap, sym, ◌∙◌, subst, arith, inl, inr, ◌⊎◌, ⊎_elim}
use Rattle.std.specs.Prelude.{slice_get}
use Rattle.std.specs.Option.{option_and_then, option_map}
use Rattle.std.proofs.lemmas.Bool.Decides.{nat_tests}
use Rattle.std.proofs.lemmas.Bool.{cases_Bool}
use Rattle.std.proofs.lemmas.Option.{slice_get_within}
use Rattle.acl_bits.specs.FilledBits.{number_after}
use Rattle.acl_bits.specs.Row.{row_of, is_member}
use Rattle.acl_bits.specs.inside.RowLaws.{row_of-same, row_of-numbers_below, numbers_below, is_member-row_of}
use Rattle.acl_bits.proofs.Members.{length-numbers_below, count_by-numbers_below, slice_get-numbers_below}
use Rattle.acl_model.specs.StreamBits as model
use Rattle.acl_model.specs.Width.{binary_length}
use Rattle.acl_model.specs.Stream.{has_member, numbers_with, rank, set_bits, head_bits}
use Rattle.acl_model.proofs.WidthLaws.{least_width-least}
use Rattle.acl_model.proofs.SizeLaws.{length-head_bits, length-set_bits}
use Rattle.skip_decode.specs.declared.head.Head.{Head}
use Rattle.skip_decode.specs.inside.HeadReading.{take_bits, with_number, take_members, not_empty, take_below, head_bytes, take_head_on}
use Rattle.skip_decode.specs.StreamSteps.{inner_of}
use Rattle.skip_decode.proofs.Taking.{take_bits-prefix, take_bits-model}

-- ---- sets

-- The definitions of a set of numbers in `acl_model` and in `acl_bits` are the same, and so are those of membership.
pub numbers_with-row : (p : ℕ → Bool) → numbers_with p ≡ row_of p
unfolding numbers_with row_of
numbers_with-row p = refl

pub is_member-has : (members : List ℕ) (n : ℕ) → is_member members n ≡ has_member members n
unfolding is_member
is_member-has members n = refl

-- A number below 256 is in the set of a test's numbers exactly where it passes the test.
pub has_member-row : (p : ℕ → Bool) (n : ℕ) → n < 256 → has_member (row_of p) n ≡ p n
has_member-row p n small = sym (is_member-has (row_of p) n) ∙ is_member-row_of p n small

-- Where no number passes, the set is empty.
pub row_of-none : row_of (λ n. false) ≡ []
unfolding row_of
row_of-none = refl

-- the set `numbers` with those members that are also in `below`
joined : List ℕ → List ℕ → List ℕ → List ℕ
joined [] below numbers = numbers
joined (m ∷ members) below numbers = joined members below (cond (has_member below m) (with_number numbers m) numbers)

-- One bit is read as 1 or 0.
pub one_bit : (b : Bool) (back : List Bool) → take_bits 1 (b ∷ back) ≡ Some (cond b 1 0, back)
unfolding number_after
one_bit true back = take_bits-prefix 1 (true ∷ []) back refl
one_bit false back = take_bits-prefix 1 (false ∷ []) back refl

-- Reading the bits of a set adds the members that are in it.
take_members-read : (members below numbers : List ℕ) (back : List Bool)
    → take_members members numbers (map (has_member below) members ++ back) ≡ Some (joined members below numbers, back)
unfolding take_members joined
take_members-read [] below numbers back = refl
take_members-read (m ∷ members) below numbers back =
    ap (option_and_then (λ b. take_members members (cond (nat_eq b.0 1) (with_number numbers m) numbers) b.1)) (one_bit (has_member below m) (map (has_member below) members ++ back))
    ∙ ap (λ l. take_members members l (map (has_member below) members ++ back)) (digit_test (has_member below m) (with_number numbers m) numbers)
    ∙ take_members-read members below (cond (has_member below m) (with_number numbers m) numbers) back
  where
    digit_test : (b : Bool) (one other : List ℕ) → cond (nat_eq (cond b 1 0) 1) one other ≡ cond b one other
    digit_test true one other = refl
    digit_test false one other = refl

pub or_false : (b : Bool) → b ≡ (b || false)
or_false true = refl
or_false false = refl

-- the set of a test's numbers, with one more number
with_number-row : (t : ℕ → Bool) (m : ℕ) → with_number (row_of t) m ≡ row_of (λ n. nat_eq n m || t n)
unfolding with_number
with_number-row t m = row_of-same (λ n. nat_eq n m || is_member (row_of t) n) (λ n. nat_eq n m || t n) (λ k small. ap (λ b. nat_eq k m || b) (is_member-row_of t k small))

there_too : (t : ℕ → Bool) (below : List ℕ) (m k : ℕ) (rest : Bool) → has_member below m ≡ true
    → ((nat_eq k m || t k) || (rest && has_member below k)) ≡ (t k || ((nat_eq m k || rest) && has_member below k))
there_too t below m k rest there = elim (same_number k m) [
  | inl same ↦
      let at : has_member below k ≡ true = ap (has_member below) same ∙ there in
      let one : nat_eq k m ≡ true = grind (arith, nat_tests) in
      let other : nat_eq m k ≡ true = grind (arith, nat_tests) in
      rw (at, one, other) (always (t k))
  | inr apart ↦
      let other : nat_eq m k ≡ false = grind (arith, nat_tests) in
      rw (apart, other) refl
]
  where
    same_number : (a b : ℕ) → (a ≡ b) ⊎ (nat_eq a b ≡ false)
    same_number a b = ⊎_elim (λ h. inl (grind (arith, nat_tests))) (λ h. inr h) (cases_Bool (nat_eq a b))

    always : (b : Bool) → true ≡ (b || true)
    always true = refl
    always false = refl

not_there : (t : ℕ → Bool) (below : List ℕ) (m k : ℕ) (rest : Bool) → has_member below m ≡ false
    → (t k || (rest && has_member below k)) ≡ (t k || ((nat_eq m k || rest) && has_member below k))
not_there t below m k rest absent = ⊎_elim
    (λ same.
    let equal : k ≡ m = grind (arith, nat_tests) in
    let at : has_member below k ≡ false = ap (has_member below) equal ∙ absent in
    rw at (ap (λ b. t k || b) (never rest ∙ sym (never (nat_eq m k || rest)))))
    (λ apart. rw apart refl)
    (cases_Bool (nat_eq m k))
  where
    never : (b : Bool) → (b && false) ≡ false
    never true = refl
    never false = refl

-- The test for the set after members were added.
joined-row : (members below : List ℕ) (t : ℕ → Bool) → joined members below (row_of t) ≡ row_of (λ n. t n || (has_member members n && has_member below n))
unfolding joined
joined-row [] below t = row_of-same t (λ n. t n || false) (λ k small. or_false (t k))
joined-row (m ∷ members) below t = ⊎_elim
    (λ there.
    ap (λ b. joined members below (cond b (with_number (row_of t) m) (row_of t))) there
    ∙ ap (joined members below) (with_number-row t m)
    ∙ joined-row members below (λ n. nat_eq n m || t n)
    ∙ row_of-same (λ n. (nat_eq n m || t n) || (has_member members n && has_member below n)) (λ n. t n || ((nat_eq m n || has_member members n) && has_member below n))
    (λ k small. there_too t below m k (has_member members k) there))
    (λ absent.
    ap (λ b. joined members below (cond b (with_number (row_of t) m) (row_of t))) absent
    ∙ joined-row members below t
    ∙ row_of-same (λ n. t n || (has_member members n && has_member below n)) (λ n. t n || ((nat_eq m n || has_member members n) && has_member below n))
    (λ k small. not_there t below m k (has_member members k) absent))
    (cases_Bool (has_member below m))

-- The first set is a subset of the second: each number that passes the first test passes the second.
abbrev pub IsPart : (ℕ → Bool) → (ℕ → Bool) → Type 0
IsPart q p = (k : ℕ) → k < 256 → q k ≡ true → p k ≡ true

both : (a b : Bool) → (b ≡ true → a ≡ true) → (a && b) ≡ b
both true b part = refl
both false true part = part refl
both false false part = refl

-- Where one set is a subset of another, the members of the other that are in it are that subset.
joined-part : (p q : ℕ → Bool) → IsPart q p → joined (row_of p) (row_of q) [] ≡ row_of q
joined-part p q part =
    ap (joined (row_of p) (row_of q)) (sym row_of-none)
    ∙ joined-row (row_of p) (row_of q) (λ n. false)
    ∙ row_of-same (λ n. has_member (row_of p) n && has_member (row_of q) n) q (λ k small.
    ap (λ b. b && has_member (row_of q) k) (has_member-row p k small)
    ∙ ap (λ b. p k && b) (has_member-row q k small)
    ∙ both (p k) (q k) (part k small))

-- ---- the tag set in a head

-- A set with a member isn't empty.
not_empty-some : (n : ℕ) (below : List ℕ) (back : List Bool) → not_empty (n ∷ below, back) ≡ Some (n ∷ below, back)
unfolding not_empty
not_empty-some n below back =
    let some : nat_eq (length (n ∷ below)) 0 ≡ false = grind (arith, nat_tests) in
    ap (λ b. cond b None (Some (n ∷ below, back))) some

-- The bits of an element's set are read as the set, whatever is read next.
take_set : {B : Type 0} (next : ℕ → List ℕ × List Bool → Option B) (p q : ℕ → Bool) (below : List ℕ) (back : List Bool) → below ≡ row_of q → IsPart q p
    → option_and_then (λ inner. option_and_then (next inner.0) (take_below (row_of p) inner.0 inner.1)) (take_bits 1 (set_bits (row_of p) below ++ back))
    ≡ next (inner_of below) (below, back)
unfolding take_below
take_set next p q [] back is part = ap (option_and_then (λ inner. option_and_then (next inner.0) (take_below (row_of p) inner.0 inner.1))) (one_bit false back)
take_set next p q (n ∷ below) back is part =
    ap (option_and_then (λ inner. option_and_then (next inner.0) (take_below (row_of p) inner.0 inner.1))) (one_bit true (map (has_member (n ∷ below)) (row_of p) ++ back))
    ∙ ap (λ o. option_and_then (next 1) (option_and_then not_empty o)) (take_members-read (row_of p) (n ∷ below) [] back)
    ∙ ap (λ l. option_and_then (next 1) (not_empty (l, back))) (subst (λ (l : List ℕ). joined (row_of p) l [] ≡ l) (sym is) (joined-part p q part))
    ∙ ap (option_and_then (next 1)) (not_empty-some n below back)

-- ---- indexes of members

few_below : (p : ℕ → Bool) (n : ℕ) → length (numbers_below p n) ≤ n
unfolding numbers_below
few_below p zero = omega arith
few_below p (suc n) =
    let more = length-numbers_below p n in
    let rest = few_below p n in
    let one : cond (p n) 1 0 ≤ 1 = elim (p n) as (λ b. cond b 1 0 ≤ 1) [ true ↦ omega arith | false ↦ omega arith ] in
    omega (arith, more, rest, one)

-- A set has at most 256 members.
pub length-row : (p : ℕ → Bool) → length (row_of p) ≤ 256
length-row p = let same = ap (λ (l : List ℕ). length l) (row_of-numbers_below p) in let few = few_below p 256 in omega (arith, same, few)

-- The member at the index that is a number's rank is that number.
pub rank-member : (p : ℕ → Bool) (n : ℕ) → n < 256 → p n ≡ true → slice_get (row_of p) (rank (row_of p) n) ≡ Some n
rank-member p n small passes =
    ap (λ l. slice_get l (count_by (λ m. nat_lt m n) l)) (row_of-numbers_below p)
    ∙ ap (slice_get (numbers_below p 256)) (count_by-numbers_below p 256 n (omega arith))
    ∙ slice_get-numbers_below p 256 n small passes

-- An index among at most 256 members fits the bits that the greatest index needs.
pub number-fits : (m n : ℕ) → m ≤ 256 → n < m → n < 2 ^ binary_length (m - 1)
number-fits m n few within =
    let least = least_width-least (λ w. m - 1) 8 (omega arith) (omega arith) in
    let fits = least.fits in
    omega (arith, fits)

-- ---- heads

-- The reader's size of a head in bytes is that of the head's bits.
pub head_bytes-counted : (members : List ℕ) (w tag : ℕ) (below : List ℕ) (long : ℕ)
    → head_bytes (length members) (binary_length (length members - 1)) (inner_of below) w ≡ (length (head_bits members w tag below long) + 7) / 8
head_bytes-counted members w tag [] long = let bits = length-head_bits members w tag [] long in omega (arith, bits)
head_bytes-counted members w tag (n ∷ below) long =
    let bits = length-head_bits members w tag (n ∷ below) long in
    let set = length-set_bits members n below in
    omega (arith, bits, set)

-- The bits of a head after the first are read as that head, and the bits after it are left.
pub take_head_on-read : (p q : ℕ → Bool) (w tag long : ℕ) (back : List Bool) → p tag ≡ true → tag < 256 → IsPart q p → long < 2 ^ w
    → take_head_on (row_of p) w (model.bits_of (binary_length (length (row_of p) - 1)) (rank (row_of p) tag) ++ (set_bits (row_of p) (row_of q) ++ (model.bits_of w long ++ back)))
    ≡ Some (record { tag = tag; below = row_of q; long = long; bytes = (length (head_bits (row_of p) w tag (row_of q) long) + 7) / 8 }, back)
unfolding take_head_on
take_head_on-read p q w tag long back passes small part fits =
    let members : List ℕ = row_of p in
    let number : ℕ = binary_length (length members - 1) in
    let after : List Bool = model.bits_of w long ++ back in
    let head : ℕ → ℕ → List ℕ × List Bool → Option (Head × List Bool) = λ tag inner below.
    option_map (λ long. (record { tag = tag; below = below.0; long = long.0; bytes = head_bytes (length members) number inner w }, long.1)) (take_bits w below.1) in
    let read_on : ℕ × List Bool → Option (Head × List Bool) = λ number.
    option_and_then (λ tag. option_and_then (λ inner. option_and_then (head tag inner.0) (take_below members inner.0 inner.1)) (take_bits 1 number.1)) (slice_get members number.0) in
    let at = rank-member p tag small passes in
    let within : rank members tag < length members = slice_get_within members (rank members tag) tag at in
    ap (option_and_then read_on) (take_bits-model number (rank members tag) (set_bits members (row_of q) ++ after) (number-fits (length members) (rank members tag) (length-row p) within))
    ∙ ap (option_and_then (λ tag. option_and_then (λ inner. option_and_then (head tag inner.0) (take_below members inner.0 inner.1)) (take_bits 1 (set_bits members (row_of q) ++ after)))) at
    ∙ take_set (head tag) p q (row_of q) after refl part
    ∙ ap (option_map (λ long. (record { tag = tag; below = row_of q; long = long.0; bytes = head_bytes (length members) number (inner_of (row_of q)) w }, long.1))) (take_bits-model w long back fits)
    ∙ ap (λ n. Some (record { tag = tag; below = row_of q; long = long; bytes = n }, back)) (head_bytes-counted members w tag (row_of q) long)
