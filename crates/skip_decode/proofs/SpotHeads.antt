-- What is true of a head that was read, whatever the bytes are: what is true of each member of the parent's tag set is
-- true of its tag and of its tag set's members, and it has at least a byte.
use Rattle.std.proofs.Common.{◌≡◌, ℕ, zero, suc, ◌+◌, ◌-◌, ◌<◌, ◌≤◌, Bool, true, false, cond, ◌||◌, nat_eq, nat_le, get_or, Option, Some, None, List, [], ◌∷◌, length, take, refl, sym, subst, arith, inl, inr, ◌⊎◌, ⊎_elim, All}
use Rattle.std.specs.List.{range_with_len, slice_get}
use Rattle.std.specs.Option.{option_and_then, option_map}
use Rattle.std.proofs.lemmas.Bool.{true≢false}
use Rattle.std.proofs.lemmas.Bool.Decides.{nat_tests}
use Rattle.std.proofs.lemmas.List.Elements.{All-nil, All-head, All-tail, filter_passes}
use Rattle.std.proofs.lemmas.List.FromFn.{length-range_with_len, get_or-range_with_len}
use Rattle.std.proofs.lemmas.Option.{same_Some, none-some, slice_get_within, get_or_from_slice_get}
use Rattle.acl_bits.specs.FilledBits.{number_of, bits_of_bytes}
use Rattle.acl_bits.specs.Row.{row_of, is_member}
use Rattle.acl_model.specs.Width.{binary_length, least_width, first_from}
use Rattle.skip_decode.specs.declared.head.Head.{Head}
use Rattle.skip_decode.specs.inside.HeadReading.{take_bits, with_number, take_members, not_empty, take_below, head_bytes, take_head_on}
use Rattle.skip_decode.specs.StreamHeads.{take_within, number_width, inner_at, filled_head, whole_head, head_at}
use Rattle.skip_decode.proofs.StepKinds.{and_then_some, cond_some}

-- Where a test chooses between an option and none, and there is a value, it is the option's.
pub cond_option : {A : Type 0} (b : Bool) (o : Option A) (y : A) → cond b o None ≡ Some y → (b ≡ true) × (o ≡ Some y)
cond_option true o y is = (refl, is)
cond_option false o y is = absurd (none-some y is)

-- The bytes that are taken are within the content.
pub within_so : (left n : ℕ) (bytes part : List ℕ) → take_within left n bytes ≡ Some part → n ≤ left
unfolding take_within
within_so left n bytes part is =
    let so = (cond_some (nat_le n left) (take n bytes) part is).0 in
    grind (arith, nat_tests, so)

-- A number has at most 32 binary digits.
few_first : (test : ℕ → Bool) (more from : ℕ) → first_from test more from ≤ from + more
unfolding first_from
few_first test zero from = omega arith
few_first test (suc more) from = by_test (test from) (few_first test more (from + 1))
  where
    by_test : (b : Bool) → first_from test more (from + 1) ≤ from + 1 + more
        → cond b from (first_from test more (from + 1)) ≤ from + suc more
    by_test true later = omega arith
    by_test false later = omega (arith, later)

pub few_digits : (n : ℕ) → binary_length n ≤ 32
unfolding least_width
few_digits n = few_first (λ w. _) 32 0

-- ---- the parts of `take_head_on`, from the last one on

-- the head whose length was read
abbrev pub head_with : ℕ → ℕ → ℕ → ℕ → List ℕ → ℕ × List Bool → Head × List Bool
head_with members w tag inner below long = (
  record {
    tag = tag;
    below = below;
    long = long.0;
    bytes = head_bytes members (binary_length (members - 1)) inner w;
  },
  long.1,
)

abbrev pub from_below : ℕ → ℕ → ℕ → ℕ → List ℕ × List Bool → Option (Head × List Bool)
from_below members w tag inner below = option_map (head_with members w tag inner below.0) (take_bits w below.1)

abbrev pub from_inner : List ℕ → ℕ → ℕ → ℕ × List Bool → Option (Head × List Bool)
from_inner members w tag inner =
    option_and_then (from_below (length members) w tag inner.0) (take_below members inner.0 inner.1)

abbrev pub from_tag : List ℕ → ℕ → List Bool → ℕ → Option (Head × List Bool)
from_tag members w bits tag = option_and_then (from_inner members w tag) (take_bits 1 bits)

abbrev pub from_number : List ℕ → ℕ → ℕ × List Bool → Option (Head × List Bool)
from_number members w number = option_and_then (from_tag members w number.1) (slice_get members number.0)

-- ---- what is true of the members of a set

module _ (P : ℕ → Type 0) where
  either_so : (a b : Bool) → (a || b) ≡ true → (a ≡ true) ⊎ (b ≡ true)
  either_so true b so = inl refl
  either_so false b so = inr so

  member_so : (members : List ℕ) (n : ℕ) → All P members → is_member members n ≡ true → P n
  unfolding is_member
  member_so [] n all there = absurd (true≢false (sym there))
  member_so (m ∷ members) n all there = ⊎_elim
      (λ here. let same : m ≡ n = grind (arith, nat_tests, here) in subst P same (All-head P m members all))
      (λ later. member_so members n (All-tail P m members all) later)
      (either_so (nat_eq m n) (is_member members n) there)

  all_so : {Q : ℕ → Type 0} (members : List ℕ) → ((n : ℕ) → Q n → P n) → All Q members → All P members
  all_so members so all i default less = so (get_or members i default) (all i default less)

  with_number_so : (below : List ℕ) (m : ℕ) → P m → All P below → All P (with_number below m)
  unfolding with_number row_of
  with_number_so below m own all =
      all_so {Q = λ n. (nat_eq n m || is_member below n) ≡ true} (with_number below m)
      (λ n passes. ⊎_elim
      (λ here. let same : m ≡ n = grind (arith, nat_tests, here) in subst P same own)
      (λ there. member_so below n all there)
      (either_so (nat_eq n m) (is_member below n) passes))
      (filter_passes (λ n. nat_eq n m || is_member below n) (range_with_len 0 256))

  by_bit : (b : Bool) (below : List ℕ) (m : ℕ) → P m → All P below → All P (cond b (with_number below m) below)
  by_bit true below m own all = with_number_so below m own all
  by_bit false below m own all = all

  take_members_so : (members below : List ℕ) (bits : List Bool) (read : List ℕ × List Bool) → All P members
      → All P below → take_members members below bits ≡ Some read → All P read.0
  unfolding take_members
  take_members_so [] below bits read all so is =
      subst (λ (r : List ℕ × List Bool). All P r.0) (same_Some (below, bits) read is) so
  take_members_so (m ∷ members) below bits read all so is =
      let parts = and_then_some (λ b. take_members members (cond (nat_eq b.0 1) (with_number below m) below) b.1)
      (take_bits 1 bits) read is in
      take_members_so members (cond (nat_eq parts.0.0 1) (with_number below m) below) parts.0.1 read
      (All-tail P m members all)
      (by_bit (nat_eq parts.0.0 1) below m (All-head P m members all) so) parts.2

  not_empty_so : (set read : List ℕ × List Bool) → not_empty set ≡ Some read → set ≡ read
  unfolding not_empty
  not_empty_so set read is = by_test (nat_eq (length set.0) 0) is
    where
      by_test : (b : Bool) → cond b None (Some set) ≡ Some read → set ≡ read
      by_test true found = absurd (none-some read found)
      by_test false found = same_Some set read found

  take_below_so : (members : List ℕ) (inner : ℕ) (bits : List Bool) (read : List ℕ × List Bool) → All P members
      → take_below members inner bits ≡ Some read → All P read.0
  unfolding take_below
  take_below_so members inner bits read all is = by_test (nat_eq inner 1) is
    where
      by_test : (b : Bool)
          → cond b (option_and_then not_empty (take_members members [] bits)) (Some ([], bits)) ≡ Some read
          → All P read.0
      by_test true found =
          let parts = and_then_some not_empty (take_members members [] bits) read found in
          subst (λ (r : List ℕ × List Bool). All P r.0) (not_empty_so parts.0 read parts.2)
          (take_members_so members [] bits parts.0 all (All-nil P) parts.1)
      by_test false found = subst (λ (r : List ℕ × List Bool). All P r.0) (same_Some ([], bits) read found) (All-nil P)

  -- ---- heads

  -- What is true of a head in a parent whose tag set has such members.
  pub record Fit (head : Head) : Type 0 where
    pub tag : P head.tag
    pub below : All P head.below
    pub some : 1 ≤ head.bytes

  get_so : (members : List ℕ) (i n : ℕ) → All P members → slice_get members i ≡ Some n → P n
  get_so members i n all is =
      subst P (get_or_from_slice_get members i n n is) (all i n (slice_get_within members i n is))

  map_some : {A B : Type 0} (f : A → B) (o : Option A) (y : B) → option_map f o ≡ Some y → (x : A) × (f x ≡ y)
  map_some f None y is = absurd (none-some y is)
  map_some f (Some x) y is = (x, same_Some (f x) y is)

  fit_made : (made read : Head × List Bool) → made ≡ read → Fit made.0 → Fit read.0
  fit_made made read is fit = subst (λ (r : Head × List Bool). Fit r.0) is fit

  -- The head at the start of bits, and the bits after it.
  pub head_on_fits : (members : List ℕ) (w : ℕ) (bits : List Bool) (read : Head × List Bool) → All P members
      → take_head_on members w bits ≡ Some read → Fit read.0
  unfolding take_head_on
  head_on_fits members w bits read all is =
      let number =
      and_then_some (from_number members w) (take_bits (binary_length (length members - 1)) bits) read is in
      let tag = and_then_some (from_tag members w number.0.1) (slice_get members number.0.0) read number.2 in
      let inner = and_then_some (from_inner members w tag.0) (take_bits 1 number.0.1) read tag.2 in
      let below = and_then_some (from_below (length members) w tag.0 inner.0.0)
      (take_below members inner.0.0 inner.0.1) read inner.2 in
      let long =
      map_some (head_with (length members) w tag.0 inner.0.0 below.0.0) (take_bits w below.0.1) read below.2 in
      fit_made (head_with (length members) w tag.0 inner.0.0 below.0.0 long.0) read long.1
      (record {
        tag = get_so members number.0.0 tag.0 all tag.1;
        below = take_below_so members inner.0.0 inner.0.1 below.0 all below.1;
        some = omega arith;
      })

  filled_fits : (read : Head × List Bool) (head : Head) → Fit read.0 → filled_head read ≡ Some head → Fit head
  filled_fits read head fits is = subst Fit (cond_some (nat_eq (number_of read.1) 0) read.0 head is).1 fits

  -- The head that bytes are.
  pub whole_fits : (members : List ℕ) (w : ℕ) (bytes : List ℕ) (head : Head) → All P members
      → whole_head members w bytes ≡ Some head → Fit head
  unfolding whole_head
  whole_fits members w bytes head all is =
      let first = and_then_some
      (λ (f : ℕ × List Bool). cond (nat_eq f.0 1) (option_and_then filled_head (take_head_on members w f.1)) None)
      (take_bits 1 (bits_of_bytes bytes)) head is in
      let found = cond_option (nat_eq first.0.0 1)
      (option_and_then filled_head (take_head_on members w first.0.1)) head first.2 in
      let read = and_then_some filled_head (take_head_on members w first.0.1) head found.1 in
      filled_fits read.0 head (head_on_fits members w first.0.1 read.0 all read.1) read.2

  -- The head at the start of the bytes.
  pub head_fits : (members : List ℕ) (w left : ℕ) (bytes : List ℕ) (head : Head) → All P members
      → head_at members w left bytes ≡ Some head → Fit head
  unfolding head_at
  head_fits members w left bytes head all is =
      let inner = and_then_some
      (λ (i : ℕ). option_and_then (whole_head members w)
      (take_within left (head_bytes (length members) (number_width (length members)) i w) bytes))
      (inner_at (number_width (length members)) left bytes) head is in
      let own = and_then_some (whole_head members w)
      (take_within left
      (head_bytes (length members) (number_width (length members)) inner.0 w) bytes) head inner.2 in
      whole_fits members w own.0 head all own.2

-- Each of the first n numbers is below n.
pub range_so : (n : ℕ) → All (λ m. m < n) (range_with_len 0 n)
range_so n i default less =
    let long = length-range_with_len 0 n in
    let is = get_or-range_with_len 0 n i default (omega (arith, long, less)) in
    omega (arith, is, long, less)
