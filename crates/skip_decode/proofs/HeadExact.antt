-- A head that was read has the encoder's bytes: its bits are those that the encoder writes for its tag, its tag set and
-- its length, and the bits after them are zero.
use Rattle.std.proofs.Common.{◌≡◌, ℕ, zero, suc, ◌+◌, ◌-◌, ◌*◌, ◌/◌, ◌%◌, ◌^◌, ◌<◌, ◌≤◌, Bool, true, false, cond, ◌&&◌, ◌||◌, nat_eq, nat_le, nat_lt, get_or, Some, None, List, [], ◌∷◌, ◌++◌, length, map, take, drop, replicate, count_by, filter, refl, ap, sym, ◌∙◌, subst, arith, ⊎_elim, All, append_assoc, length-append, take_at, drop_at}
use Rattle.std.specs.List.{slice_get}
use Rattle.std.specs.Option.{option_and_then}
use Rattle.std.proofs.lemmas.Bool.{cases_Bool, true≢false}
use Rattle.std.proofs.lemmas.Bool.Decides.{nat_tests}
use Rattle.std.proofs.lemmas.List.{length-take}
use Rattle.std.proofs.lemmas.List.Elements.{All-head, All-tail, All-take}
use Rattle.std.proofs.lemmas.List.Folds.{list_any_none}
use Rattle.std.proofs.lemmas.List.Kept.{AllPairs-from_increasing}
use Rattle.std.proofs.lemmas.List.Sums.{length-filter}
use Rattle.std.proofs.lemmas.Option.{same_Some, none-some, slice_get_within, get_or_from_slice_get}
use Rattle.acl_bits.specs.FilledBits.{bits_of, number_of, number_after, bits_of_bytes}
use Rattle.acl_bits.specs.Row.{row_of, is_member, IsRow}
use Rattle.acl_bits.proofs.BitStrings.{length-bits_of_bytes, number_of-bits_of, length-bits_of}
use Rattle.acl_bits.proofs.Members.{IsRow-row_of}
use Rattle.acl_model.specs.StreamBits as model
use Rattle.acl_model.specs.Width.{binary_length}
use Rattle.acl_model.specs.Stream.{has_member, rank, set_bits, head_bits}
use Rattle.acl_model.proofs.SizeLaws as sizes
use Rattle.skip_decode.specs.declared.head.Head.{Head}
use Rattle.skip_decode.specs.inside.HeadReading.{take_bits, with_number, take_members, not_empty, take_below, head_bytes, take_head_on}
use Rattle.skip_decode.specs.StreamHeads.{take_within, number_width, inner_bit, inner_at, filled_head, whole_head, head_at}
use Rattle.skip_decode.specs.StreamSteps.{inner_of}
use Rattle.skip_decode.proofs.StepKinds.{and_then_some, cond_some}
use Rattle.skip_decode.proofs.SpotHeads.{cond_option, head_with, from_below, from_inner, from_tag, from_number, head_fits}
use Rattle.skip_decode.proofs.Heads.{is_member-has, has_member-row, row_of-none, head_bytes-counted}
use Rattle.skip_decode.proofs.HeadBits.{number_after-least}
use Rattle.skip_decode.proofs.Taking.{number_same}
use Rattle.skip_decode.proofs.InnerBits.{mapped, taken, taken-one, Inner, inner_bit-at, same_inner}

-- ---- a set, as its first member and the others

-- Each number is below 256, and less than those after it.
Rises : List ℕ → Type 0
Rises [] = Unit {0}
Rises (m ∷ members) = (m < 256) × (All (λ n. m < n) members × Rises members)

rises_of : (members : List ℕ)
    → ((i j : ℕ) (d : ℕ) → i < j → j < length members → get_or members i d < get_or members j d)
    → All (λ m. m < 256) members → Rises members
unfolding Rises
rises_of [] up small = tt
rises_of (m ∷ members) up small = (
  All-head (λ m. m < 256) m members small,
  (
    (λ i d within. up 0 (suc i) d (omega arith) (omega (arith, within))),
    rises_of members (λ i j d less within. up (suc i) (suc j) d (omega (arith, less)) (omega (arith, within)))
        (All-tail (λ m. m < 256) m members small),
  ),
)

row_rises : (members : List ℕ) → IsRow members → Rises members
row_rises members row = rises_of members (AllPairs-from_increasing members row.rising) row.small

-- The first member isn't among the others.
first_apart : (m : ℕ) (members : List ℕ) → All (λ n. m < n) members → has_member members m ≡ false
first_apart m members above =
    list_any_none (λ n. nat_eq n m) members
    (λ i d within. let more = above i d within in grind (arith, nat_tests, more))

-- How many elements pass a test: the first one, and the others that do.
count_first : (p : ℕ → Bool) (n : ℕ) (ns : List ℕ) → count_by p (n ∷ ns) ≡ cond (p n) 1 0 + count_by p ns
count_first p n ns =
    sym (length-filter p (n ∷ ns)) ∙ one (p n) ∙ ap (λ k. cond (p n) 1 0 + k) (length-filter p ns)
  where
    one : (b : Bool) → length (cond b (n ∷ filter p ns) (filter p ns)) ≡ cond b 1 0 + length (filter p ns)
    one true = omega arith
    one false = omega arith

none_more : (p : ℕ → Bool) (n : ℕ) (ns : List ℕ) → p n ≡ false → count_by p ns ≡ 0 → count_by p (n ∷ ns) ≡ 0
none_more p n ns fails is =
    count_first p n ns ∙ ap (λ b. cond b 1 0 + count_by p ns) fails ∙ ap (λ k. 0 + k) is

one_more : (p : ℕ → Bool) (n i : ℕ) (ns : List ℕ) → p n ≡ true → count_by p ns ≡ i → count_by p (n ∷ ns) ≡ suc i
one_more p n i ns passes is =
    count_first p n ns ∙ ap (λ b. cond b 1 0 + count_by p ns) passes ∙ ap (λ k. 1 + k) is ∙ omega arith

-- No other member is less than the first.
none_less : (m : ℕ) (members : List ℕ) → All (λ n. m < n) members → count_by (λ n. nat_lt n m) members ≡ 0
none_less m [] above = refl
none_less m (n ∷ members) above =
    let first = All-head (λ n. m < n) n members above in
    let test : nat_lt n m ≡ false = grind (arith, nat_tests, first) in
    none_more (λ n. nat_lt n m) n members test (none_less m members (All-tail (λ n. m < n) n members above))

-- A member's index is its rank.
rank_index : (members : List ℕ) (i n : ℕ) → Rises members → slice_get members i ≡ Some n → rank members n ≡ i
unfolding Rises
rank_index [] i n rises is = absurd (none-some n is)
rank_index (m ∷ members) zero n rises is =
    let same : m ≡ n = same_Some m n is in
    let test : nat_lt m m ≡ false = grind (arith, nat_tests) in
    subst (λ (k : ℕ). rank (m ∷ members) k ≡ 0) same
    (none_more (λ n. nat_lt n m) m members test (none_less m members rises.1.0))
rank_index (m ∷ members) (suc i) n rises is =
    let above : m < get_or members i n = rises.1.0 i n (slice_get_within members i n is) in
    let there : get_or members i n ≡ n = get_or_from_slice_get members i n n is in
    let test : nat_lt m n ≡ true = grind (arith, nat_tests, above, there) in
    one_more (λ k. nat_lt k n) m i members test (rank_index members i n rises.1.1 is)

-- Each member is one.
member_there : (members : List ℕ) → All (λ n. is_member members n ≡ true) members
unfolding is_member
member_there [] i d within = absurd (omega (arith, within))
member_there (m ∷ members) zero d within =
    let own : nat_eq m m ≡ true = grind (arith, nat_tests) in ap (λ b. b || has_member members m) own
member_there (m ∷ members) (suc i) d within =
    or_true (nat_eq m (get_or members i d)) (has_member members (get_or members i d))
    (member_there members i d (omega (arith, within)))
  where
    or_true : (a b : Bool) → b ≡ true → (a || b) ≡ true
    or_true true b is = refl
    or_true false b is = is

-- ---- a tag set

-- The members of a set after one number was added, or none.
has_next : (bit : Bool) (below : List ℕ) (m k : ℕ) → k < 256
    → has_member (cond bit (with_number below m) below) k ≡ ((nat_eq k m && bit) || has_member below k)
unfolding with_number
has_next true below m k small =
    has_member-row (λ n. nat_eq n m || is_member below n) k small
    ∙ ap (λ b. nat_eq k m || b) (is_member-has below k)
    ∙ ap (λ b. b || has_member below k) (and_true (nat_eq k m))
  where
    and_true : (b : Bool) → b ≡ (b && true)
    and_true true = refl
    and_true false = refl
has_next false below m k small = ap (λ b. b || has_member below k) (and_false (nat_eq k m))
  where
    and_false : (b : Bool) → false ≡ (b && false)
    and_false true = refl
    and_false false = refl

next_row : (bit : Bool) (below : List ℕ) (m : ℕ) (test : ℕ → Bool) → below ≡ row_of test
    → (t : ℕ → Bool) × (cond bit (with_number below m) below ≡ row_of t)
unfolding with_number
next_row true below m test is = ((λ n. nat_eq n m || is_member below n), refl)
next_row false below m test is = (test, is)

-- What was read is a set. It differs from `below` in the members alone, and each member's bit says whether it is there.
record SetRead (members below : List ℕ) (bits : List Bool) (read : List ℕ × List Bool) : Type 0 where
  pub test : ℕ → Bool
  pub row : read.0 ≡ row_of test
  pub same : (k : ℕ) → k < 256 → has_member members k ≡ false → has_member read.0 k ≡ has_member below k
  pub spelled : ((k : ℕ) → k < 256 → has_member members k ≡ true → has_member below k ≡ false)
      → bits ≡ map (has_member read.0) members ++ read.1

or_left : (a b : Bool) → (a || b) ≡ false → a ≡ false
or_left true b is = is
or_left false b is = refl

or_right : (a b : Bool) → (a || b) ≡ false → b ≡ false
or_right true b is = absurd (true≢false is)
or_right false b is = is

or_second : (a b : Bool) → b ≡ true → (a || b) ≡ true
or_second true b is = refl
or_second false b is = is

own_bit : (a bit b : Bool) → a ≡ true → b ≡ false → ((a && bit) || b) ≡ bit
own_bit true true false one two = refl
own_bit true false false one two = refl
own_bit a bit true one two = absurd (true≢false two)
own_bit false bit b one two = absurd (true≢false (sym one))

other_bit : (a bit b : Bool) → a ≡ false → ((a && bit) || b) ≡ b
other_bit false bit b one = refl
other_bit true bit b one = absurd (true≢false one)

-- A member and a number that isn't one are two numbers.
two_numbers : (members : List ℕ) (m k : ℕ) → has_member members m ≡ false → has_member members k ≡ true
    → nat_eq k m ≡ false
two_numbers members m k absent there = ⊎_elim
    (λ equal.
    let same : k ≡ m = grind (arith, nat_tests, equal) in
    absurd (true≢false (sym there ∙ ap (has_member members) same ∙ absent)))
    (λ apart. apart)
    (cases_Bool (nat_eq k m))

set_read : (members below : List ℕ) (bits : List Bool) (read : List ℕ × List Bool) (test : ℕ → Bool) → Rises members
    → below ≡ row_of test → take_members members below bits ≡ Some read → SetRead members below bits read
unfolding take_members Rises
set_read [] below bits read test rises row is =
    let same : (below, bits) ≡ read = same_Some (below, bits) read is in
    subst (λ (r : List ℕ × List Bool). SetRead [] below bits r) same
    (record { test = test; row = row; same = λ k small none. refl; spelled = λ none. refl })
set_read (m ∷ members) below bits read test rises row is =
    let parts = and_then_some
    (λ (b : ℕ × List Bool). take_members members (cond (nat_eq b.0 1) (with_number below m) below) b.1)
    (take_bits 1 bits) read is in
    let bit : Bool = nat_eq parts.0.0 1 in
    let one = taken-one bits parts.0 parts.1 in
    let next = next_row bit below m test row in
    let rest = set_read members (cond bit (with_number below m) below) parts.0.1 read next.0 rises.1.1 next.1 parts.2 in
    let apart = first_apart m members rises.1.0 in
    let self : nat_eq m m ≡ true = grind (arith, nat_tests) in
    record {
      test = rest.test;
      row = rest.row;
      same = λ k small none.
          let left = or_left (nat_eq m k) (has_member members k) none in
          let other : nat_eq k m ≡ false = grind (arith, nat_tests, left) in
          rest.same k small (or_right (nat_eq m k) (has_member members k) none)
          ∙ has_next bit below m k small
          ∙ other_bit (nat_eq k m) bit (has_member below k) other;
      spelled = λ none.
          let absent : has_member below m ≡ false = none m rises.0 (ap (λ b. b || has_member members m) self) in
          let own : has_member read.0 m ≡ bit = rest.same m rises.0 apart
          ∙ has_next bit below m m rises.0
          ∙ own_bit (nat_eq m m) bit (has_member below m) self absent in
          one.0
          ∙ ap (λ l. bit ∷ l) (rest.spelled (λ k small there.
          has_next bit below m k small
          ∙ other_bit (nat_eq k m) bit (has_member below k) (two_numbers members m k apart there)
          ∙ none k small (or_second (nat_eq m k) (has_member members k) there)))
          ∙ ap (λ b. b ∷ (map (has_member read.0) members ++ read.1)) (sym own);
    }

kept_so : (set read : List ℕ × List Bool) → not_empty set ≡ Some read
    → (set ≡ read) × (nat_eq (length read.0) 0 ≡ false)
unfolding not_empty
kept_so set read is = by_test (nat_eq (length set.0) 0) refl is
  where
    by_test : (b : Bool) → nat_eq (length set.0) 0 ≡ b → cond b None (Some set) ≡ Some read
        → (set ≡ read) × (nat_eq (length read.0) 0 ≡ false)
    by_test true so found = absurd (none-some read found)
    by_test false so found =
        let same = same_Some set read found in
        (same, ap (λ (r : List ℕ × List Bool). nat_eq (length r.0) 0) (sym same) ∙ so)

-- The bits of a set that was read, with the bit that says whether it is there.
record BelowRead (members : List ℕ) (inner : ℕ) (bits : List Bool) (read : List ℕ × List Bool) : Type 0 where
  pub spelled : nat_eq inner 1 ∷ bits ≡ set_bits members read.0 ++ read.1
  pub same : inner ≡ inner_of read.0
  pub row : IsRow read.0

some_bits : (members below : List ℕ) → nat_eq (length below) 0 ≡ false
    → (set_bits members below ≡ true ∷ map (has_member below) members) × (inner_of below ≡ 1)
some_bits members [] some = absurd (true≢false some)
some_bits members (n ∷ below) some = (refl, refl)

below_read : (members : List ℕ) (inner : ℕ) (bits : List Bool) (read : List ℕ × List Bool) → Rises members → inner < 2
    → take_below members inner bits ≡ Some read → BelowRead members inner bits read
unfolding take_below
below_read members zero bits read rises small is =
    subst (λ (r : List ℕ × List Bool). BelowRead members 0 bits r) (same_Some ([], bits) read is)
    (record { spelled = refl; same = refl; row = subst IsRow row_of-none (IsRow-row_of (λ n. false)) })
below_read members (suc zero) bits read rises small is =
    let parts = and_then_some not_empty (take_members members [] bits) read is in
    let kept = kept_so parts.0 read parts.2 in
    let set = set_read members [] bits read (λ n. false) rises (sym row_of-none) (parts.1 ∙ ap Some kept.0) in
    let some = some_bits members read.0 kept.1 in
    record {
      spelled = ap (λ l. true ∷ l) (set.spelled (λ k small there. refl)) ∙ ap (λ l. l ++ read.1) (sym some.0);
      same = sym some.1;
      row = subst IsRow (sym set.row) (IsRow-row_of set.test);
    }
below_read members (suc (suc inner)) bits read rises small is = absurd (omega (arith, small))

-- ---- a head

-- The bits of a head that was read, and those after it.
record HeadRead (members : List ℕ) (w : ℕ) (bits : List Bool) (head : Head) (back : List Bool) : Type 0 where
  pub spelled : bits ≡ head_bits members w head.tag head.below head.long ++ back
  pub counted : head.bytes ≡ head_bytes (length members) (number_width (length members)) (inner_of head.below) w
  pub row : IsRow head.below
  pub fits : head.long < 2 ^ w

regroup : (a b c d : List Bool) → a ++ (b ++ (c ++ d)) ≡ (a ++ (b ++ c)) ++ d
regroup a b c d = simp append_assoc

head_made : (members : List ℕ) (w tag inner : ℕ) (below : List ℕ) (long : ℕ × List Bool) (bits : List Bool)
    → true ∷ bits ≡ head_bits members w tag below long.0 ++ long.1 → inner ≡ inner_of below → IsRow below
    → long.0 < 2 ^ w
    → HeadRead members w (true ∷ bits) (head_with (length members) w tag inner below long).0
    (head_with (length members) w tag inner below long).1
head_made members w tag inner below long bits spelled same row fits = record {
  spelled = spelled;
  counted = ap (λ i. head_bytes (length members) (number_width (length members)) i w) same;
  row = row;
  fits = fits;
}

head_on_read : (members : List ℕ) (w : ℕ) (bits : List Bool) (read : Head × List Bool) → Rises members
    → take_head_on members w bits ≡ Some read → HeadRead members w (true ∷ bits) read.0 read.1
unfolding take_head_on head_bits
head_on_read members w bits read rises is =
    let wide : ℕ = binary_length (length members - 1) in
    let number = and_then_some (from_number members w) (take_bits wide bits) read is in
    let tag = and_then_some (from_tag members w number.0.1) (slice_get members number.0.0) read number.2 in
    let inner = and_then_some (from_inner members w tag.0) (take_bits 1 number.0.1) read tag.2 in
    let below = and_then_some (from_below (length members) w tag.0 inner.0.0)
    (take_below members inner.0.0 inner.0.1) read inner.2 in
    let long = mapped (head_with (length members) w tag.0 inner.0.0 below.0.0) (take_bits w below.0.1) read below.2 in
    let one = taken wide bits number.0 number.1 in
    let index = rank_index members number.0.0 tag.0 rises tag.1 in
    let two = taken-one number.0.1 inner.0 inner.1 in
    let three = below_read members inner.0.0 inner.0.1 below.0 rises two.1 below.1 in
    let four = taken w below.0.1 long.0 long.1 in
    let number_bits : List Bool = model.bits_of wide (rank members tag.0) in
    let set : List Bool = set_bits members below.0.0 in
    let all : bits ≡ (number_bits ++ (set ++ model.bits_of w long.0.0)) ++ long.0.1 =
    one.spelled
    ∙ ap (λ k. model.bits_of wide k ++ number.0.1) (sym index)
    ∙ ap (λ l. number_bits ++ l) (two.0 ∙ three.spelled ∙ ap (λ l. set ++ l) four.spelled)
    ∙ regroup number_bits set (model.bits_of w long.0.0) long.0.1 in
    subst (λ (r : Head × List Bool). HeadRead members w (true ∷ bits) r.0 r.1) long.2
    (head_made members w tag.0 inner.0.0 below.0.0 long.0 bits (ap (λ l. true ∷ l) all) three.same three.row four.fits)

-- The bytes are a head, and bits after it that are zero.
record WholeRead (members : List ℕ) (w : ℕ) (bytes : List ℕ) (head : Head) : Type 0 where
  pub back : List Bool
  pub read : HeadRead members w (bits_of_bytes bytes) head back
  pub zeros : number_of back ≡ 0

whole_read : (members : List ℕ) (w : ℕ) (bytes : List ℕ) (head : Head) → Rises members
    → whole_head members w bytes ≡ Some head → WholeRead members w bytes head
unfolding whole_head
whole_read members w bytes head rises is =
    let first = and_then_some
    (λ (f : ℕ × List Bool). cond (nat_eq f.0 1) (option_and_then filled_head (take_head_on members w f.1)) None)
    (take_bits 1 (bits_of_bytes bytes)) head is in
    let found = cond_option (nat_eq first.0.0 1)
    (option_and_then filled_head (take_head_on members w first.0.1)) head first.2 in
    let read = and_then_some filled_head (take_head_on members w first.0.1) head found.1 in
    let filled = cond_some (nat_eq (number_of read.0.1) 0) read.0.0 head read.2 in
    let one = taken-one (bits_of_bytes bytes) first.0 first.1 in
    let bits : bits_of_bytes bytes ≡ true ∷ first.0.1 = one.0 ∙ ap (λ b. b ∷ first.0.1) found.0 in
    let own = head_on_read members w first.0.1 read.0 rises read.1 in
    let test = filled.0 in
    record {
      back = read.0.1;
      read = subst (λ (h : Head). HeadRead members w (bits_of_bytes bytes) h read.0.1) filled.1
          (subst (λ (l : List Bool). HeadRead members w l read.0.0 read.0.1) (sym bits) own);
      zeros = grind (arith, nat_tests, test);
    }

-- ---- bytes

-- Bits that make the number 0 are zero.
zero_bits : (bits : List Bool) → number_of bits ≡ 0 → bits ≡ replicate (length bits) false
unfolding number_after
zero_bits [] zeros = refl
zero_bits (true ∷ bits) zeros = let more = number_after-least 1 bits in absurd (omega (arith, more, zeros))
zero_bits (false ∷ bits) zeros = ap (λ l. false ∷ l) (zero_bits bits zeros)

-- The bytes that the bits of bytes make are those bytes.
bytes_again : (bytes : List ℕ) → All (λ b. b < 256) bytes
    → model.first_bytes (length bytes) (bits_of_bytes bytes) ≡ bytes
unfolding bits_of_bytes model.first_bytes
bytes_again [] fit = refl
bytes_again (b ∷ bytes) fit =
    let front = take_at (bits_of 8 b) (bits_of_bytes bytes) 8 (length-bits_of 8 b) in
    let back = drop_at (bits_of 8 b) (bits_of_bytes bytes) 8 (length-bits_of 8 b) in
    let all : List Bool = bits_of 8 b ++ bits_of_bytes bytes in
    ap (λ l. model.number_after 0 l ∷ model.first_bytes (length bytes) (drop 8 all)) front
    ∙ ap (λ l. model.number_after 0 (bits_of 8 b) ∷ model.first_bytes (length bytes) l) back
    ∙ ap (λ k. k ∷ model.first_bytes (length bytes) (bits_of_bytes bytes))
    (number_same 0 (bits_of 8 b) ∙ number_of-bits_of 8 b (All-head (λ b. b < 256) b bytes fit))
    ∙ ap (λ l. b ∷ l) (bytes_again bytes (All-tail (λ b. b < 256) b bytes fit))

-- Bytes whose bits are these and as few zeros as fill the last byte are the bytes of these bits.
bytes_made : (part : List ℕ) (bits back : List Bool) → All (λ b. b < 256) part → bits_of_bytes part ≡ bits ++ back
    → number_of back ≡ 0 → length part ≤ (length bits + 7) / 8
    → (part ≡ model.bytes_of bits) × (length part ≡ (length bits + 7) / 8)
unfolding model.bytes_of
bytes_made part bits back fit spelled zeros few =
    let size : 8 * length part ≡ length bits + length back =
    sym (length-bits_of_bytes part) ∙ ap length spelled ∙ length-append bits back in
    let fill : length back ≡ (8 - length bits % 8) % 8 = omega (arith, size, few) in
    let filled : bits_of_bytes part ≡ model.filled_bits bits =
    spelled ∙ ap (λ l. bits ++ l) (zero_bits back zeros ∙ ap (λ n. replicate n false) fill) in
    let whole : 8 * length part ≡ length (model.filled_bits bits) =
    sym (length-bits_of_bytes part) ∙ ap length filled in
    let count : length part ≡ length (model.filled_bits bits) / 8 = omega (arith, whole) in (
      sym (bytes_again part fit) ∙ ap (λ n. model.first_bytes n (bits_of_bytes part)) count
          ∙ ap (model.first_bytes (length (model.filled_bits bits) / 8)) filled,
      omega (arith, size, few),
    )

-- ---- the head at the start of bytes

-- the first bit of a head and the bits of the number, and the bits after the one for a tag set
front_of : List ℕ → ℕ → List Bool
front_of members tag = true ∷ model.bits_of (number_width (length members)) (rank members tag)

set_of : List ℕ → List ℕ → List Bool
set_of members [] = []
set_of members (n ∷ below) = map (has_member (n ∷ below)) members

set_split : (members below : List ℕ) → set_bits members below ≡ nat_eq (inner_of below) 1 ∷ set_of members below
unfolding set_of
set_split members [] = refl
set_split members (n ∷ below) = refl

head_split : (members : List ℕ) (w tag : ℕ) (below : List ℕ) (long : ℕ) (back : List Bool)
    → head_bits members w tag below long ++ back
    ≡ front_of members tag ++ (nat_eq (inner_of below) 1 ∷ (set_of members below ++ (model.bits_of w long ++ back)))
unfolding head_bits front_of
head_split members w tag below long back =
    sym (ap (λ l. true ∷ l)
    (regroup (model.bits_of (number_width (length members)) (rank members tag)) (set_bits members below)
    (model.bits_of w long) back))
    ∙ ap (λ l. front_of members tag ++ (l ++ (model.bits_of w long ++ back))) (set_split members below)

front_long : (members : List ℕ) (tag : ℕ) → length (front_of members tag) ≡ 1 + number_width (length members)
unfolding front_of
front_long members tag =
    let size = sizes.length-bits_of (number_width (length members)) (rank members tag) in omega (arith, size)

-- The head has the encoder's bytes.
pub record Exact (members : List ℕ) (w left : ℕ) (bytes : List ℕ) (head : Head) : Type 0 where
  pub spelled : take head.bytes bytes ≡ model.bytes_of (head_bits members w head.tag head.below head.long)
  pub counted : head.bytes ≡ length (model.bytes_of (head_bits members w head.tag head.below head.long))
  pub tag : is_member members head.tag ≡ true
  pub row : IsRow head.below
  pub part : All (λ n. is_member members n ≡ true) head.below
  pub within : head.bytes ≤ left
  pub fits : head.long < 2 ^ w

same_size : (members number w inner : ℕ) (bit : Bool) (other : ℕ) → nat_eq inner 1 ≡ bit → nat_eq other 1 ≡ bit
    → head_bytes members number inner w ≡ head_bytes members number other w
same_size members number w inner bit other one two =
    ap (λ b. (2 + number + cond b members 0 + w + 7) / 8) (one ∙ sym two)

pub taken_within : (left n : ℕ) (bytes part : List ℕ) → take_within left n bytes ≡ Some part
    → (n ≤ left) × (take n bytes ≡ part)
unfolding take_within
taken_within left n bytes part is =
    let parts = cond_some (nat_le n left) (take n bytes) part is in
    let test = parts.0 in
    (grind (arith, nat_tests, test), parts.1)

pub head_exact : (members : List ℕ) (w left : ℕ) (bytes : List ℕ) (head : Head) → IsRow members
    → All (λ b. b < 256) bytes → head_at members w left bytes ≡ Some head → Exact members w left bytes head
unfolding head_at inner_at
head_exact members w left bytes head row fit is =
    let number : ℕ = number_width (length members) in
    let inner = and_then_some
    (λ (i : ℕ). option_and_then (whole_head members w)
    (take_within left (head_bytes (length members) number i w) bytes))
    (inner_at number left bytes) head is in
    let n : ℕ = head_bytes (length members) number inner.0 w in
    let own = and_then_some (whole_head members w) (take_within left n bytes) head inner.2 in
    let front = and_then_some (inner_bit number) (take_within left ((9 + number) / 8) bytes) inner.0 inner.1 in
    let early = taken_within left ((9 + number) / 8) bytes front.0 front.1 in
    let late = taken_within left n bytes own.0 own.1 in
    let whole = subst (λ (l : List ℕ). WholeRead members w l head) (sym late.1)
    (whole_read members w own.0 head (row_rises members row) own.2) in
    let bit = subst (λ (l : List ℕ). Inner number (bits_of_bytes l) inner.0) (sym early.1)
    (inner_bit-at number front.0 inner.0 front.2) in
    let bits : List Bool = head_bits members w head.tag head.below head.long in
    let same : nat_eq inner.0 1 ≡ nat_eq (inner_of head.below) 1 =
    same_inner number ((9 + number) / 8) n bytes inner.0 (front_of members head.tag)
    (set_of members head.below ++ (model.bits_of w head.long ++ whole.back)) (nat_eq (inner_of head.below) 1) bit
    (whole.read.spelled ∙ head_split members w head.tag head.below head.long whole.back)
    (front_long members head.tag) in
    let size : n ≡ head.bytes =
    same_size (length members) number w inner.0 (nat_eq (inner_of head.below) 1) (inner_of head.below) same refl
    ∙ sym whole.read.counted in
    let counted : head.bytes ≡ (length bits + 7) / 8 =
    whole.read.counted ∙ head_bytes-counted members w head.tag head.below head.long in
    let long = length-take n bytes in
    let few : length (take n bytes) ≤ (length bits + 7) / 8 = omega (arith, long, size, counted) in
    let made = bytes_made (take n bytes) bits whole.back (All-take (λ b. b < 256) n bytes fit)
    whole.read.spelled whole.zeros few in
    let fits = head_fits (λ k. is_member members k ≡ true) members w left bytes head (member_there members) is in
    let inside = late.0 in
    record {
      spelled = ap (λ k. take k bytes) (sym size) ∙ made.0;
      counted = counted ∙ sym (sizes.length-bytes_of bits);
      tag = fits.tag;
      row = whole.read.row;
      part = fits.below;
      within = omega (arith, inside, size);
      fits = whole.read.fits;
    }

-- The size of a head by the bit for a tag set in its first bytes is the one that the head has.
pub head-size : (members : List ℕ) (w front long inner : ℕ) (bytes : List ℕ) (head : Head) → IsRow members
    → inner_bit (number_width (length members)) (take front bytes) ≡ Some inner → whole_head members w (take long bytes) ≡ Some head
    → head_bytes (length members) (number_width (length members)) inner w ≡ head.bytes
head-size members w front long inner bytes head row bit is =
    let number : ℕ = number_width (length members) in
    let whole = whole_read members w (take long bytes) head (row_rises members row) is in
    let same : nat_eq inner 1 ≡ nat_eq (inner_of head.below) 1 =
    same_inner number front long bytes inner (front_of members head.tag)
    (set_of members head.below ++ (model.bits_of w head.long ++ whole.back)) (nat_eq (inner_of head.below) 1)
    (inner_bit-at number (take front bytes) inner bit)
    (whole.read.spelled ∙ head_split members w head.tag head.below head.long whole.back)
    (front_long members head.tag) in
    same_size (length members) number w inner (nat_eq (inner_of head.below) 1) (inner_of head.below) same refl
    ∙ sym whole.read.counted
